-- The bytes that the datagrams of a frame take, and what the slave does with a frame that is read.
-- The slave walks over `datagrams` of a copy of the frame and changes the frame itself at a running offset, so no walk
-- over bytes is proved again. `extent_fits` gives the bounds from `ReadsAs`.
use Rattle.std.proofs.Common.{◌≡◌, ℕ, ◌+◌, ◌≤◌, Bool, true, false, List, [], ◌∷◌, length, take, drop, refl, ap, ◌∙◌, arith, length-take, length-drop, ◌++◌, drop_of_length-le, append-nil, take_all}
use Rattle.std.proofs.lemmas.List.Sums.{sum_by-cons}
use Rattle.ec_frames.specs.declared.reading.FrameFault.{FrameFault}
use Rattle.ec_frames.specs.Reading.{Entry, size_at, length_at, payload_of, BeginsWith, AreDatagrams, ReadsAs, HasFault}
use Rattle.ec_frames.proofs.ReadingFrames.{read_is, fault_is}
use Rattle.ec_slave.specs.Step.{extent, datagrams_step, frame_step, slave_step}

taken : (source : List ℕ) (d : Entry) (more : Bool) (rest : List ℕ) → BeginsWith source d more rest → length source ≡ length d.bytes + 12 + length rest
taken source d more rest h =
    let fits = h.fits in
    let after : length rest ≡ length (drop (size_at source + 12) source) = ap length h.after in
    let bytes : length d.bytes ≡ length (take (size_at source) (drop 10 source)) = ap length h.bytes in
    omega (arith, length-take (size_at source) (drop 10 source), length-drop 10 source, length-drop (size_at source + 12) source)

pub extent-more : (d : Entry) (ds : List Entry) → extent (d ∷ ds) ≡ length d.bytes + 12 + extent ds
extent-more d ds = sum_by-cons (λ (x : Entry). length x.bytes + 12) d ds

extent-none : extent [] ≡ 0
extent-none = refl

extent-is : (ds : List Entry) (source : List ℕ) → AreDatagrams source ds → extent ds ≡ length source
extent-is [] source h = absurd h
extent-is (d ∷ []) source h =
    let t = taken source d false [] h in
    let none : length {A = ℕ} [] ≡ 0 = refl in
    omega (arith, extent-more d [], extent-none)
extent-is (d ∷ e ∷ es) source h =
    let t = taken source d true h.0 h.1 in
    omega (arith, extent-more d (e ∷ es), extent-is (e ∷ es) h.0 h.2)

-- the datagrams of a frame lie in it, behind its headers
pub extent_fits : (frame : List ℕ) (ds : List Entry) → ReadsAs frame ds → extent ds + 16 ≤ length frame
extent_fits frame ds h =
    let fits = h.framed.fits in
    let is = extent-is ds (payload_of frame) h.datagrams in
    omega (arith, length-take (length_at frame) (drop 16 frame))

pub step_read : (memory frame : List ℕ) (ds : List Entry) → ReadsAs frame ds → slave_step memory frame ≡ datagrams_step 16 ds (memory, frame)
unfolding slave_step
step_read memory frame ds h = ap (λ r. frame_step r (memory, frame)) ((read_is frame ds).1 h)

pub step_unread : (memory frame : List ℕ) (f : FrameFault) → HasFault f frame → slave_step memory frame ≡ (memory, frame)
unfolding slave_step
step_unread memory frame f h = ap (λ r. frame_step r (memory, frame)) ((fault_is frame f).1 h)

-- a list after its slice was written
pub rewritten : (n : ℕ) (now items : List ℕ) → length now ≡ length items → n ≡ length items → take n (now ++ drop (length now) items) ≡ now
rewritten n now items e f =
    ap (λ w. take n (now ++ w)) (drop_of_length-le items (omega arith)) ∙ ap (take n) (append-nil now) ∙ take_all n now (omega arith)

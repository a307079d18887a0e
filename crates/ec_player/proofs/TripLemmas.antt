-- What the code sends is what is to be sent.
use Rattle.std.proofs.Common.{◌≡◌, ℕ, suc, ◌<◌, ◌≤◌, ◌==◌, cond, List, [], ◌∷◌, ◌++◌, length, map, filter, All, refl, sym, ap, ◌∙◌, arith}
use Rattle.std.specs.List.{range_with_len, AllByRecursion}
use Rattle.std.proofs.lemmas.Bool.{ne_eqb}
use Rattle.std.proofs.lemmas.List.{length-map}
use Rattle.std.proofs.lemmas.List.FromFn.{get_or-range_with_len, length-range_with_len}
use Rattle.std.proofs.lemmas.List.Sums.{length-filter, count_by-le-length}
use Rattle.ec_fmmu.specs.declared.fmmu.Fmmu.{Fmmu}
use Rattle.ec_fmmu.specs.declared.group.Group.{Group}
use Rattle.ec_frame_builder.specs.Frames.{carries}
use Rattle.ec_frame_builder.specs.Start.{StartFrame, roll_call, namings, mapping_frames, start_list, start_bytes}
use Rattle.ec_player.specs.declared.faults.Stage.TheVariants as stage
use Rattle.ec_player.specs.Sent.{Sent, start_sent}
use Rattle.ec_player.specs.Trips.{starts_from}

-- start frames that are wanted with the counter 1
abbrev Ones : List StartFrame → Type 0
Ones fs = AllByRecursion (λ f. f.want ≡ 1) fs

ones-mappings : (ss : List ℕ) (ps : List (List Fmmu)) → Ones (mapping_frames ss ps)
ones-mappings [] ps = tt
ones-mappings (s ∷ ss) [] = tt
ones-mappings (s ∷ ss) (p ∷ ps) = (refl, ones-mappings ss ps)

ones-namings : (i : ℕ) (ss : List ℕ) (fs : List StartFrame) → Ones fs → Ones (namings i ss ++ fs)
ones-namings i [] fs h = h
ones-namings i (s ∷ ss) fs h = (refl, ones-namings (suc i) ss fs h)

later : (i n : ℕ) → cond (suc i == 0) n 1 ≡ 1
later i n = ap (λ b. cond b n 1) (ne_eqb (suc i) 0 (λ e. omega (arith, e)))

starts-ones : (i n : ℕ) (fs : List StartFrame) → Ones fs → starts_from (suc i) n (map start_bytes fs) ≡ map start_sent fs
starts-ones i n [] h = refl
starts-ones i n (f ∷ fs) h =
    λ k. record { stage = stage.Start; bytes = start_bytes f; wants = (later i n ∙ sym h.0) k ∷ [] } ∷ starts-ones (suc i) n fs h.1 k

pub starts-are : (ss : List ℕ) (ps : List (List Fmmu)) → starts_from 0 (length ss) (map start_bytes (start_list ss ps)) ≡ map start_sent (start_list ss ps)
starts-are ss ps =
    let fs = namings 0 ss ++ mapping_frames ss ps in
    ap (λ w. record { stage = stage.Start; bytes = start_bytes (roll_call (length ss)); wants = length ss ∷ [] } ∷ w)
    (starts-ones 0 (length ss) fs (ones-namings 0 ss (mapping_frames ss ps) (ones-mappings ss ps)))

-- numbers below n
pub range-below : (n : ℕ) → All (λ s. s < n) (range_with_len 0 n)
range-below n = λ k d l.
    let e = get_or-range_with_len 0 n k d (let long = length-range_with_len 0 n in omega (arith, l, long)) in
    let long = length-range_with_len 0 n in
    omega (arith, e, l, long)

-- at most so many as there are slots
pub few-slots : (groups : List Group) (t n : ℕ) → length (filter (carries groups t) (range_with_len 0 n)) ≤ n
few-slots groups t n =
    let a = length-filter (carries groups t) (range_with_len 0 n) in
    let b = count_by-le-length (carries groups t) (range_with_len 0 n) in
    omega (arith, a, b, length-range_with_len 0 n)

-- there are as many start frames as were built
pub as-many : {T F : Type 0} (g : T → Sent) (f : F → List ℕ) (ts : List T) (bs : List F) (fs : List StartFrame) → map g ts ≡ map start_sent fs → map f bs ≡ map start_bytes fs → length ts ≡ length bs
as-many g f ts bs fs h k = sym (length-map ts g) ∙ ap length h ∙ length-map fs start_sent ∙ sym (length-map fs start_bytes) ∙ ap length (sym k) ∙ length-map bs f

-- A frame whose datagrams are all idle passes unchanged, and leaves the memory.
use Rattle.std.proofs.Common.{◌≡◌, ℕ, ◌+◌, ◌-◌, ◌<◌, ◌≤◌, Bool, true, false, ◌&&◌, cond, List, [], ◌∷◌, ◌++◌, length, take, drop, get_or, Option, Some, None, refl, ap, sym, ◌∙◌, arith, length-take, length-drop}
use mathlib.Core.Bool.{not}
use Rattle.std.specs.Prelude.{is_some}
use Rattle.std.specs.List.{list_all}
use Rattle.std.proofs.lemmas.List.{take-append-drop, drop-take, take-take, drop-drop}
use Rattle.std.proofs.lemmas.List.FromFn.{fill_by_all}
use Rattle.ec_frames.specs.declared.command.AddressKind.{AddressKind}
use Rattle.ec_frames.specs.declared.command.AddressKind.TheVariants as kind
use Rattle.ec_frames.specs.Reading.{Entry, size_at, length_at, payload_of, BeginsWith, AreDatagrams, ReadsAs}
use Rattle.ec_slave.specs.declared.fmmu.Fmmus.{Fmmus}
use Rattle.ec_slave.specs.declared.fmmu.Direction.{Direction}
use Rattle.ec_slave.specs.declared.fmmu.Direction.TheVariants as direction
use Rattle.ec_slave.specs.declared.request.Request.{Request}
use Rattle.ec_slave.specs.Requests.{request_of}
use Rattle.ec_slave.specs.Access.{put}
use Rattle.ec_slave.specs.Fmmus.{IsMapped, fmmus_in, place_of, source_of}
use Rattle.ec_slave.specs.Logical.{first_of, byte_at, met, meets, read_from, sent_to, written_to, mapped_gain}
use Rattle.ec_slave.specs.Step.{effect_by, effect_of, after_effect, replied, counted, asked, datagram_step, datagrams_step, slave_step}
use Rattle.ec_slave.specs.Idle.{is_logical, is_unmet, is_idle_by, is_idle}
use Rattle.ec_slave.proofs.MapLemmas.{place_again}
use Rattle.ec_slave.proofs.RangeLemmas.{any_at}
use Rattle.ec_slave.proofs.StepLemmas.{step_read}
use Rattle.ec_slave.proofs.WriteLemmas.{sent_none_by}

-- bytes put where they stand
put-same : (at : ℕ) (bytes list : List ℕ) → take (length bytes) (drop at list) ≡ bytes → put at bytes list ≡ list
put-same at bytes list e =
    ap (λ (b : List ℕ). take at list ++ (b ++ drop (length bytes) (drop at list))) (sym e)
    ∙ ap (λ (b : List ℕ). take at list ++ b) (take-append-drop (length bytes) (drop at list))
    ∙ take-append-drop at list

met-none : (fs : Fmmus) (size : ℕ) (d : Direction) (address n k : ℕ) (o : Option ℕ) → met fs size d (address + k) ≡ o → meets fs size d address n ≡ false → k < n → o ≡ None
unfolding meets
met-none fs size d address n k None e off l = refl
met-none fs size d address n k (Some m) e off l =
    let bad : true ≡ false = sym (any_at (λ j. is_some (met fs size d (address + j))) n k l (ap (λ (o : Option ℕ). is_some o) e)) ∙ off in
    absurd (cc (bad))

-- a read that meets nothing
read_unmet : (fs : Fmmus) (memory bytes : List ℕ) (address : ℕ) → meets fs (length memory) direction.Reads address (length bytes) ≡ false → read_from fs memory address bytes ≡ bytes
unfolding read_from
read_unmet fs memory bytes address off =
    sym (fill_by_all (λ k. byte_at (met fs (length memory) direction.Reads (address + k)) memory (get_or bytes k 0)) bytes (length bytes) 0 refl
    (λ k l. sym (ap (λ o. byte_at o memory (get_or bytes k 0)) (met-none fs (length memory) direction.Reads address (length bytes) k (met fs (length memory) direction.Reads (address + k)) refl off l))))

first_is : (o p : Option ℕ) (m : ℕ) → p ≡ Some m → is_some (first_of o p) ≡ true
first_is None p m e = ap (λ (x : Option ℕ). is_some x) e
first_is (Some k) p m e = refl

second_is : (o p : Option ℕ) (m : ℕ) → o ≡ Some m → is_some (first_of o p) ≡ true
second_is o p m e = ap (λ (x : Option ℕ). is_some (first_of x p)) e

unmapped_first : (fs : Fmmus) (size : ℕ) (d : Direction) (address n k m : ℕ) → meets fs size d address n ≡ false → k < n → IsMapped fs.first size d (address + k) m → ⊥
unfolding meets
unmapped_first fs size d address n k m off l h =
    let bad : true ≡ false = sym (any_at (λ j. is_some (met fs size d (address + j))) n k l
    (first_is (place_of fs.second size d (address + k)) (place_of fs.first size d (address + k)) m (place_again fs.first size d (address + k) m h))) ∙ off in
    cc (bad)

unmapped_second : (fs : Fmmus) (size : ℕ) (d : Direction) (address n k m : ℕ) → meets fs size d address n ≡ false → k < n → IsMapped fs.second size d (address + k) m → ⊥
unfolding meets
unmapped_second fs size d address n k m off l h =
    let bad : true ≡ false = sym (any_at (λ j. is_some (met fs size d (address + j))) n k l
    (second_is (place_of fs.second size d (address + k)) (place_of fs.first size d (address + k)) m (place_again fs.second size d (address + k) m h))) ∙ off in
    cc (bad)

-- a write that meets nothing
write_unmet : (fs : Fmmus) (memory bytes : List ℕ) (address : ℕ) → meets fs (length memory) direction.Writes address (length bytes) ≡ false → written_to fs memory address bytes ≡ memory
unfolding written_to
write_unmet fs memory bytes address off =
    sym (fill_by_all (λ m. byte_at (first_of (sent_to fs.second (length memory) address (length bytes) m) (sent_to fs.first (length memory) address (length bytes) m)) bytes (get_or memory m 0)) memory (length memory) 0 refl
    (λ m _. sym (λ i. byte_at (first_of
    (sent_none_by fs.second (length memory) address (length bytes) m (source_of fs.second (length memory) direction.Writes m) refl (λ k l h. unmapped_second fs (length memory) direction.Writes address (length bytes) k m off l h) i)
    (sent_none_by fs.first (length memory) address (length bytes) m (source_of fs.first (length memory) direction.Writes m) refl (λ k l h. unmapped_first fs (length memory) direction.Writes address (length bytes) k m off l h) i))
    bytes (get_or memory m 0))))

not-both : (a b : Bool) → (not a && not b) ≡ true → (a ≡ false) × (b ≡ false)
not-both true b h = absurd (cc (h))
not-both false true h = absurd (cc (h))
not-both false false h = (refl, refl)

and-true : (a b : Bool) → (a && b) ≡ true → (a ≡ true) × (b ≡ true)
and-true true b h = (refl, h)
and-true false b h = absurd (cc (h))

-- what an idle request leaves: by whether it reads, writes and meets
idle-memory : (writes mw : Bool) (memory written : List ℕ) → (writes && mw) ≡ false → (mw ≡ false → written ≡ memory) → cond writes written memory ≡ memory
idle-memory true mw memory written h e = e h
idle-memory false mw memory written h e = refl

idle-reply : (reads mr : Bool) (at : ℕ) (frame bytes reply : List ℕ) → (reads && mr) ≡ false → (mr ≡ false → reply ≡ bytes) → put at bytes frame ≡ frame → replied at (cond reads (Some reply) None) frame ≡ frame
idle-reply true mr at frame bytes reply h e p = ap (λ (b : List ℕ). put at b frame) (e h) ∙ p
idle-reply false mr at frame bytes reply h e p = refl

idle-gain : (r : Request) (mr mw : Bool) → (r.reads && mr) ≡ false → (r.writes && mw) ≡ false → mapped_gain r mr mw ≡ 0
idle-gain r mr mw a b = rw (a, b) refl

-- an idle datagram
by_kind : (k : AddressKind) (r : Request) (at : ℕ) (d : Entry) (memory frame : List ℕ) → is_logical k ≡ true → is_unmet r memory d.address (length d.bytes) ≡ true →
    put (at + 10) d.bytes frame ≡ frame → after_effect at d k (effect_by k r memory d.address d.bytes) frame ≡ (memory, frame)
by_kind kind.Logical r at d memory frame k h p =
    let fs = fmmus_in memory in
    let no = not-both (r.reads && meets (fmmus_in memory) (length memory) direction.Reads d.address (length d.bytes)) (r.writes && meets (fmmus_in memory) (length memory) direction.Writes d.address (length d.bytes)) h in
    let gain = idle-gain r (meets (fmmus_in memory) (length memory) direction.Reads d.address (length d.bytes)) (meets (fmmus_in memory) (length memory) direction.Writes d.address (length d.bytes)) no.0 no.1 in
    let memory_is = idle-memory r.writes (meets (fmmus_in memory) (length memory) direction.Writes d.address (length d.bytes)) memory (written_to (fmmus_in memory) memory d.address d.bytes) no.1 (write_unmet (fmmus_in memory) memory d.bytes d.address) in
    let reply_is = idle-reply r.reads (meets (fmmus_in memory) (length memory) direction.Reads d.address (length d.bytes)) (at + 10) frame d.bytes (read_from (fmmus_in memory) memory d.address d.bytes) no.0 (read_unmet (fmmus_in memory) memory d.bytes d.address) p in
    λ i. (memory_is i, counted (at + 10 + length d.bytes) d.counter (gain i) (reply_is i))
by_kind kind.None r at d memory frame k h p = absurd (cc (k))
by_kind kind.Position r at d memory frame k h p = absurd (cc (k))
by_kind kind.Station r at d memory frame k h p = absurd (cc (k))
by_kind kind.Broadcast r at d memory frame k h p = absurd (cc (k))

by_request : (o : Option Request) (at : ℕ) (d : Entry) (memory frame : List ℕ) → is_idle_by o memory d ≡ true → put (at + 10) d.bytes frame ≡ frame → asked at d o (memory, frame) ≡ (memory, frame)
unfolding effect_of
by_request None at d memory frame h p = refl
by_request (Some r) at d memory frame h p = let t = and-true (is_logical r.kind) (is_unmet r memory d.address (length d.bytes)) h in by_kind r.kind r at d memory frame t.0 t.1 p

idle_step : (at : ℕ) (d : Entry) (memory frame : List ℕ) → is_idle memory d ≡ true → put (at + 10) d.bytes frame ≡ frame → datagram_step at d (memory, frame) ≡ (memory, frame)
unfolding datagram_step is_idle
idle_step at d memory frame h p = by_request (request_of d.command) at d memory frame h p

-- a source that is a piece of a frame begins with a datagram whose bytes stand there
stands : (at n : ℕ) (frame source rest : List ℕ) (d : Entry) (more : Bool) → source ≡ take n (drop at frame) → BeginsWith source d more rest →
    (length d.bytes ≡ size_at source) × (put (at + 10) d.bytes frame ≡ frame) × (rest ≡ take (n - (length d.bytes + 12)) (drop (at + (length d.bytes + 12)) frame))
stands at n frame source rest d more is h =
    let fits = h.fits in
    let bytes = h.bytes in
    let long : length source ≤ n = omega (arith, ap length is, length-take n (drop at frame)) in
    let len : length d.bytes ≡ size_at source = omega (arith, ap length bytes, length-take (size_at source) (drop 10 source), length-drop 10 source) in
    let ten : 10 + (n - 10) ≡ n = omega (arith, fits, long) in
    let behind : drop 10 source ≡ take (n - 10) (drop (at + 10) frame) =
    ap (drop 10) (is ∙ ap (λ i. take i (drop at frame)) (sym ten)) ∙ drop-take 10 (n - 10) (drop at frame) ∙ ap (take (n - 10)) (drop-drop 10 at frame) in
    let here : take (length d.bytes) (drop (at + 10) frame) ≡ d.bytes =
    sym (bytes ∙ ap (λ x. take (size_at source) x) behind ∙ take-take (size_at source) (n - 10) (drop (at + 10) frame) (omega (arith, fits, long)) ∙ ap (λ i. take i (drop (at + 10) frame)) (sym len)) in
    let all : (length d.bytes + 12) + (n - (length d.bytes + 12)) ≡ n = omega (arith, fits, long, len) in
    let over : size_at source + 12 ≡ length d.bytes + 12 = omega (arith, len) in
    let after : rest ≡ take (n - (length d.bytes + 12)) (drop (at + (length d.bytes + 12)) frame) =
    h.after ∙ ap (λ i. drop i source) over ∙ ap (drop (length d.bytes + 12)) (is ∙ ap (λ i. take i (drop at frame)) (sym all))
    ∙ drop-take (length d.bytes + 12) (n - (length d.bytes + 12)) (drop at frame) ∙ ap (take (n - (length d.bytes + 12))) (drop-drop (length d.bytes + 12) at frame) in
    (len, put-same (at + 10) d.bytes frame here, after)

idle_all : (ds : List Entry) (at n : ℕ) (memory frame source : List ℕ) → source ≡ take n (drop at frame) → AreDatagrams source ds → list_all (is_idle memory) ds ≡ true →
    datagrams_step at ds (memory, frame) ≡ (memory, frame)
idle_all [] at n memory frame source is h t = absurd h
idle_all (d ∷ []) at n memory frame source is h t =
    let s = stands at n frame source [] d false is h in
    idle_step at d memory frame (and-true (is_idle memory d) true t).0 s.1
idle_all (d ∷ e ∷ es) at n memory frame source is h t =
    let s = stands at n frame source h.0 d true is h.1 in
    let both = and-true (is_idle memory d) (list_all (is_idle memory) (e ∷ es)) t in
    ap (datagrams_step (at + (length d.bytes + 12)) (e ∷ es)) (idle_step at d memory frame both.0 s.1)
    ∙ idle_all (e ∷ es) (at + (length d.bytes + 12)) (n - (length d.bytes + 12)) memory frame h.0 s.2 h.2 both.1

pub idle_frame : (memory frame : List ℕ) (ds : List Entry) → ReadsAs frame ds → list_all (is_idle memory) ds ≡ true → slave_step memory frame ≡ (memory, frame)
idle_frame memory frame ds h t = step_read memory frame ds h ∙ idle_all ds 16 (length_at frame) memory frame (payload_of frame) refl h.datagrams t

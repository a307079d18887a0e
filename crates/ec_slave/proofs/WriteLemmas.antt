-- Bytes that are read and written through records: those of a stretch are put in one piece, and the others stay.
use Rattle.std.proofs.Common.{◌≡◌, inl, inr, ℕ, ◌+◌, ◌-◌, ◌<◌, ◌≤◌, true, false, ◌&&◌, List, ◌++◌, length, take, drop, get_or, Option, Some, None, refl, ap, sym, ◌∙◌, arith, subst, length-take, length-drop}
use Rattle.std.specs.Prelude.{nat_lt, nat_le}
use Rattle.std.proofs.lemmas.Bool.{cases_lt}
use Rattle.std.proofs.lemmas.Bool.Decides.{nat_tests}
use Rattle.std.proofs.lemmas.List.{get_or_append_left, get_or-append_right, get_or-take, get_or-drop}
use Rattle.std.proofs.lemmas.List.FromFn.{fill_by_all}
use Rattle.ec_slave.specs.declared.fmmu.Fmmu.{Fmmu}
use Rattle.ec_slave.specs.declared.fmmu.Fmmus.{Fmmus}
use Rattle.ec_slave.specs.declared.fmmu.Direction.TheVariants as direction
use Rattle.ec_slave.specs.declared.stretch.Stretch.{Stretch}
use Rattle.ec_slave.specs.Access.{put}
use Rattle.ec_slave.specs.Fmmus.{IsMapped, place_of, source_of}
use Rattle.ec_slave.specs.IsStretch.{IsStretch}
use Rattle.ec_slave.specs.Logical.{first_of, byte_at, data_place, sent_to, met, read_from, written_to}
use Rattle.ec_slave.proofs.MapLemmas.{source_found, source_again}
use Rattle.ec_slave.proofs.StretchLemmas.{place_inside, place_outside}

-- what stands where after bytes were put
pub put-before : (at : ℕ) (bytes list : List ℕ) (k : ℕ) → at + length bytes ≤ length list → k < at → get_or (put at bytes list) k 0 ≡ get_or list k 0
put-before at bytes list k room l =
    get_or_append_left (take at list) (bytes ++ drop (length bytes) (drop at list)) 0 k (omega (arith, l, room, length-take at list)) ∙ get_or-take at list k 0 l

pub put-inside : (at : ℕ) (bytes list : List ℕ) (k : ℕ) → at + length bytes ≤ length list → at ≤ k → k < at + length bytes → get_or (put at bytes list) k 0 ≡ get_or bytes (k - at) 0
put-inside at bytes list k room low high =
    get_or-append_right (take at list) (bytes ++ drop (length bytes) (drop at list)) at k 0 (omega (arith, room, length-take at list)) low
    ∙ get_or_append_left bytes (drop (length bytes) (drop at list)) 0 (k - at) (omega (arith, low, high))

pub put-behind : (at : ℕ) (bytes list : List ℕ) (k : ℕ) → at + length bytes ≤ length list → at + length bytes ≤ k → get_or (put at bytes list) k 0 ≡ get_or list k 0
put-behind at bytes list k room low =
    get_or-append_right (take at list) (bytes ++ drop (length bytes) (drop at list)) at k 0 (omega (arith, room, length-take at list)) (omega (arith, low))
    ∙ get_or-append_right bytes (drop (length bytes) (drop at list)) (length bytes) (k - at) 0 refl (omega (arith, low))
    ∙ get_or-drop (length bytes) (drop at list) (k - at - length bytes) 0
    ∙ get_or-drop at list (length bytes + (k - at - length bytes)) 0
    ∙ ap (λ i. get_or list i 0) (let e : at + (length bytes + (k - at - length bytes)) ≡ k = omega (arith, low) in e)

-- bytes that are a piece of a list
piece-at : (list : List ℕ) (place w j : ℕ) → j < w → get_or (take w (drop place list)) j 0 ≡ get_or list (place + j) 0
piece-at list place w j l = get_or-take w (drop place list) j 0 l ∙ get_or-drop place list j 0

-- data after a read through one record
pub read_part : (f : Fmmu) (address : ℕ) (s : Stretch) (memory old new : List ℕ) (w : ℕ) → IsStretch f (length memory) direction.Reads address (length old) s →
    w ≡ s.len → new ≡ put s.from (take w (drop s.place memory)) old →
    (k : ℕ) → k < length old → get_or new k 0 ≡ byte_at (place_of f (length memory) direction.Reads (address + k)) memory (get_or old k 0)
read_part f address s memory old new w h same put_is k below =
    let bound = h.bound in
    let room = h.room in
    let len : length (take w (drop s.place memory)) ≡ s.len = omega (arith, room, same, length-take w (drop s.place memory), length-drop s.place memory) in
    let fits : s.from + length (take w (drop s.place memory)) ≤ length old = omega (arith, bound, len) in
    let now = ap (λ (x : List ℕ). get_or x k 0) put_is in
    let kept = λ (e : place_of f (length memory) direction.Reads (address + k) ≡ None). sym (ap (λ o. byte_at o memory (get_or old k 0)) e) in
    elim (cases_lt k s.from) [
      | inl early ↦ now ∙ put-before s.from (take w (drop s.place memory)) old k fits early ∙ kept (place_outside f (length memory) direction.Reads address (length old) s k h below (λ low _. absurd (omega (arith, early, low))))
      | inr low ↦ elim (cases_lt k (s.from + s.len)) [
        | inl high ↦
            now ∙ put-inside s.from (take w (drop s.place memory)) old k fits low (omega (arith, high, len)) ∙ piece-at memory s.place w (k - s.from) (omega (arith, low, high, same))
            ∙ sym (ap (λ o. byte_at o memory (get_or old k 0)) (place_inside f (length memory) direction.Reads address (length old) s k h low high))
        | inr late ↦ now ∙ put-behind s.from (take w (drop s.place memory)) old k fits (omega (arith, late, len)) ∙ kept (place_outside f (length memory) direction.Reads address (length old) s k h below (λ _ high. absurd (omega (arith, late, high))))
      ]
    ]

two_bytes : (o p : Option ℕ) (bytes : List ℕ) (b : ℕ) → byte_at o bytes (byte_at p bytes b) ≡ byte_at (first_of o p) bytes b
two_bytes None p bytes b = refl
two_bytes (Some k) p bytes b = refl

-- FMMU 0 first, then FMMU 1
read_both : (fs : Fmmus) (address : ℕ) (memory bytes mid new : List ℕ) → length mid ≡ length bytes → length new ≡ length bytes →
    ((k : ℕ) → k < length bytes → get_or mid k 0 ≡ byte_at (place_of fs.first (length memory) direction.Reads (address + k)) memory (get_or bytes k 0)) →
    ((k : ℕ) → k < length mid → get_or new k 0 ≡ byte_at (place_of fs.second (length memory) direction.Reads (address + k)) memory (get_or mid k 0)) →
    new ≡ read_from fs memory address bytes
unfolding read_from
read_both fs address memory bytes mid new lm ln h0 h1 =
    fill_by_all (λ k. byte_at (met fs (length memory) direction.Reads (address + k)) memory (get_or bytes k 0)) new (length bytes) 0 ln
    (λ k l. h1 k (omega (arith, l, lm)) ∙ ap (λ b. byte_at (place_of fs.second (length memory) direction.Reads (address + k)) memory b) (h0 k l)
    ∙ two_bytes (place_of fs.second (length memory) direction.Reads (address + k)) (place_of fs.first (length memory) direction.Reads (address + k)) memory (get_or bytes k 0))

pub read_all : (fs : Fmmus) (address : ℕ) (memory bytes start mid new : List ℕ) → start ≡ bytes → length mid ≡ length start → length new ≡ length mid →
    ((k : ℕ) → k < length start → get_or mid k 0 ≡ byte_at (place_of fs.first (length memory) direction.Reads (address + k)) memory (get_or start k 0)) →
    ((k : ℕ) → k < length mid → get_or new k 0 ≡ byte_at (place_of fs.second (length memory) direction.Reads (address + k)) memory (get_or mid k 0)) →
    new ≡ read_from fs memory address bytes
read_all fs address memory bytes start mid new e lm ln h0 h1 =
    read_both fs address memory start mid new lm (omega (arith, lm, ln)) h0 h1 ∙ ap (read_from fs memory address) e

in_data : (address n k : ℕ) → k < n → data_place address n (Some (address + k)) ≡ Some k
in_data address n k l =
    let low : nat_le address (address + k) ≡ true = grind (arith, nat_tests) in
    let high : nat_lt (address + k) (address + n) ≡ true = grind (arith, nat_tests) in
    let is : (address + k) - address ≡ k = omega arith in
    rw (low, high) (ap (λ (j : ℕ). Some j) is)

out_of_data : (address n a : ℕ) → ((k : ℕ) → k < n → a ≡ address + k → ⊥) → data_place address n (Some a) ≡ None
out_of_data address n a h =
    elim (cases_lt a address) [
      | inl low ↦ let t : (nat_le address a && nat_lt a (address + n)) ≡ false = grind (arith, nat_tests) in rw t refl
      | inr high ↦ elim (cases_lt a (address + n)) [
        | inl inside ↦ absurd (h (a - address) (omega (arith, high, inside)) (omega (arith, high)))
        | inr behind ↦ let t : (nat_le address a && nat_lt a (address + n)) ≡ false = grind (arith, nat_tests) in rw t refl
      ]
    ]

-- the data byte that goes to a byte of the memory
sent_mapped : (f : Fmmu) (size address n k m : ℕ) → k < n → IsMapped f size direction.Writes (address + k) m → sent_to f size address n m ≡ Some k
sent_mapped f size address n k m l h = ap (data_place address n) (source_again f size direction.Writes (address + k) m h) ∙ in_data address n k l

pub sent_none_by : (f : Fmmu) (size address n m : ℕ) (o : Option ℕ) → source_of f size direction.Writes m ≡ o → ((k : ℕ) → k < n → IsMapped f size direction.Writes (address + k) m → ⊥) → sent_to f size address n m ≡ None
sent_none_by f size address n m None e h = ap (data_place address n) e
sent_none_by f size address n m (Some a) e h =
    ap (data_place address n) e ∙ out_of_data address n a (λ k l is. h k l (source_found f size direction.Writes (address + k) m (e ∙ ap (λ (b : ℕ). Some b) is)))

-- the memory is what n bytes through the record left of it
abbrev pub IsWrittenBy : Fmmu → ℕ → List ℕ → ℕ → List ℕ → List ℕ → Type 0
IsWrittenBy f address bytes n old new = (m : ℕ) → get_or new m 0 ≡ byte_at (sent_to f (length old) address n m) bytes (get_or old m 0)

-- a byte of the memory to which a byte of the stretch goes is within its places
place_is : (f : Fmmu) (size address n : ℕ) (s : Stretch) (k m : ℕ) → IsStretch f size direction.Writes address n s → k < n → IsMapped f size direction.Writes (address + k) m →
    (s.place ≤ m) × (m < s.place + s.len)
place_is f size address n s k m h l i =
    let w = h.whole k m l i in
    let j : k - s.from < s.len = omega (arith, w.0, w.1) in
    let here = h.mapped (k - s.from) j in
    let e0 = here.logical_is in
    let e1 = here.memory_is in
    let e2 = i.logical_is in
    let e3 = i.memory_is in
    (omega (arith, w.0, w.1, e0, e1, e2, e3), omega (arith, w.0, w.1, e0, e1, e2, e3))

mapped_here : (f : Fmmu) (size address k a m : ℕ) → a ≡ m → IsMapped f size direction.Writes (address + k) a → IsMapped f size direction.Writes (address + k) m
mapped_here f size address k a m e h = subst (λ (x : ℕ). IsMapped f size direction.Writes (address + k) x) e h

pub written_part : (f : Fmmu) (address : ℕ) (s : Stretch) (bytes old new : List ℕ) (w : ℕ) → IsStretch f (length old) direction.Writes address (length bytes) s →
    w ≡ s.len → new ≡ put s.place (take w (drop s.from bytes)) old → IsWrittenBy f address bytes (length bytes) old new
written_part f address s bytes old new w h same put_is m =
    let bound = h.bound in
    let room = h.room in
    let len : length (take w (drop s.from bytes)) ≡ s.len = omega (arith, bound, same, length-take w (drop s.from bytes), length-drop s.from bytes) in
    let fits : s.place + length (take w (drop s.from bytes)) ≤ length old = omega (arith, room, len) in
    let now = ap (λ (x : List ℕ). get_or x m 0) put_is in
    let kept = λ (out : s.place ≤ m → m < s.place + s.len → ⊥).
    sym (ap (λ o. byte_at o bytes (get_or old m 0)) (sent_none_by f (length old) address (length bytes) m (source_of f (length old) direction.Writes m) refl
    (λ k l i. let p = place_is f (length old) address (length bytes) s k m h l i in out p.0 p.1))) in
    elim (cases_lt m s.place) [
      | inl early ↦ now ∙ put-before s.place (take w (drop s.from bytes)) old m fits early ∙ kept (λ low _. absurd (omega (arith, early, low)))
      | inr low ↦ elim (cases_lt m (s.place + s.len)) [
        | inl high ↦
            let j : m - s.place < s.len = omega (arith, low, high) in
            let here : s.place + (m - s.place) ≡ m = omega (arith, low) in
            now ∙ put-inside s.place (take w (drop s.from bytes)) old m fits low (omega (arith, high, len)) ∙ piece-at bytes s.from w (m - s.place) (omega (arith, j, same))
            ∙ sym (ap (λ o. byte_at o bytes (get_or old m 0)) (sent_mapped f (length old) address (length bytes) (s.from + (m - s.place)) m (omega (arith, bound, j)) (mapped_here f (length old) address (s.from + (m - s.place)) (s.place + (m - s.place)) m here (h.mapped (m - s.place) j))))
        | inr late ↦ now ∙ put-behind s.place (take w (drop s.from bytes)) old m fits (omega (arith, late, len)) ∙ kept (λ _ high. absurd (omega (arith, late, high)))
      ]
    ]

-- FMMU 0 first, then FMMU 1
pub written_both : (fs : Fmmus) (address : ℕ) (bytes old mid new : List ℕ) → length mid ≡ length old → length new ≡ length old
    → IsWrittenBy fs.first address bytes (length bytes) old mid → IsWrittenBy fs.second address bytes (length bytes) mid new → new ≡ written_to fs old address bytes
unfolding written_to
written_both fs address bytes old mid new lm ln h0 h1 =
    fill_by_all _ new (length old) 0 ln
    (λ m _. h1 m ∙ ap (λ n. byte_at (sent_to fs.second n address (length bytes) m) bytes (get_or mid m 0)) lm
    ∙ ap (λ b. byte_at (sent_to fs.second (length old) address (length bytes) m) bytes b) (h0 m)
    ∙ two_bytes (sent_to fs.second (length old) address (length bytes) m) (sent_to fs.first (length old) address (length bytes) m) bytes (get_or old m 0))

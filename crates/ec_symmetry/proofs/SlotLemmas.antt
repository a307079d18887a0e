-- Different slots, one place after the other, and the slots that a prefix uses.
-- `unit_none` and `unit_some` are the steps of a loop over the units of a prefix, `number_new` and `number_same` those
-- of a loop that counts different numbers.
use Rattle.std.proofs.Common.{◌≡◌, ◌≢◌, get_or-set_same, get_or-set_other, inl, inr, ℕ, zero, suc, ◌+◌, ◌<◌, ◌==◌, ◌||◌, Bool, true, false, List, [], ◌∷◌, ◌++◌, map, length, set, get_or, Option, Some, None, refl, ap, sym, ◌∙◌, add-one, append-nil, not-suc-le-zero, le_of_suc-le-suc, take, arith}
use Rattle.std.proofs.lemmas.List.{map-append}
use Rattle.std.proofs.lemmas.List.Folds.{list_any-append}
use Rattle.std.proofs.lemmas.Bool.{cases_eq, eq-eqb, ne_eqb, eqb-true, or_right, false≢true, true≢false}
use Rattle.std.proofs.Math.Seq.{take-suc}
use Rattle.ec_units.specs.declared.slave.Place.{Place}
use Rattle.ec_loads.specs.Search.{Prefix, slots_in, different_numbers}
use Rattle.ec_symmetry.proofs.UsedLemmas.{member, once}

-- the slots of places
abbrev pub slots_of : List Place → List ℕ
slots_of places = map (λ p. p.slot) places

one_more : (k : ℕ) (a b e f : Bool) → (e ≡ true → a ≡ b) → e ≡ f → once (a || (e || false)) + (k + once b) ≡ (once a + k) + once (f || b)
one_more k true true true true same alike = omega arith
one_more k true true true false same alike = absurd (true≢false alike)
one_more k true false true f same alike = absurd (true≢false (same refl))
one_more k false true true f same alike = absurd (false≢true (same refl))
one_more k false false true true same alike = omega arith
one_more k false false true false same alike = absurd (true≢false alike)
one_more k a b false true same alike = absurd (false≢true alike)
one_more k true true false false same alike = omega arith
one_more k true false false false same alike = omega arith
one_more k false true false false same alike = omega arith
one_more k false false false false same alike = omega arith

-- one number more counts unless it is there
different-append : (ns : List ℕ) (n : ℕ) → different_numbers (ns ++ n ∷ []) ≡ different_numbers ns + once (member n ns)
different-append [] n = omega arith
different-append (x ∷ ns) n =
    let alike : (x == n) ≡ (n == x) = elim (cases_eq x n) [
      | inl is ↦ eq-eqb x n is ∙ sym (eq-eqb n x (sym is))
      | inr apart ↦ ne_eqb x n apart ∙ sym (ne_eqb n x (λ q. apart (sym q)))
    ] in
    (λ j. once (list_any-append (λ m. x == m) ns (n ∷ []) j) + different-append ns n j)
    ∙ one_more (different_numbers ns) (member x ns) (member n ns) (x == n) (n == x) (λ h. ap (λ s. member s ns) (eqb-true x n h)) alike

-- a flag for each slot: whether it is among these
abbrev pub AreSeen : List Bool → List ℕ → Type 0
AreSeen seen ns = (s : ℕ) → s < 256 → get_or seen s false ≡ member s ns

or_none : (b : Bool) → b ≡ (b || (false || false))
or_none true = refl
or_none false = refl

-- one slot more has its flag
seen_more : (seen now : List Bool) (ns : List ℕ) (n : ℕ) → AreSeen seen ns → get_or now n false ≡ true → ((s : ℕ) → s ≢ n → get_or now s false ≡ get_or seen s false) → AreSeen now (ns ++ n ∷ [])
seen_more seen now ns n flags here other = λ s below.
    elim (cases_eq s n) [
      | inl is ↦
          ap (λ w. get_or now w false) is ∙ here
          ∙ sym (list_any-append (λ m. s == m) ns (n ∷ []) ∙ or_right (member s ns) ((s == n) || false) (ap (λ b. b || false) (eq-eqb s n is)))
      | inr apart ↦
          other s apart ∙ flags s below ∙ or_none (member s ns) ∙ ap (λ b. member s ns || (b || false)) (sym (ne_eqb s n apart))
          ∙ sym (list_any-append (λ m. s == m) ns (n ∷ []))
    ]

slots_more : (ps : List Place) (i : ℕ) (d : Place) → i < length ps → slots_of (take (i + 1) ps) ≡ slots_of (take i ps) ++ (get_or ps i d).slot ∷ []
slots_more ps i d h = rw add-one (ap slots_of (take-suc ps i d h) ∙ map-append (λ (q : Place). q.slot) (take i ps) (get_or ps i d ∷ []))

-- a number that wasn't there
pub number_new : (ns : List ℕ) (n : ℕ) (seen : List Bool) (count : ℕ) → n < length seen → n < 256 → AreSeen seen ns → count ≡ different_numbers ns → get_or seen n false ≡ false →
    AreSeen (set seen n true) (ns ++ n ∷ []) × (count + 1 ≡ different_numbers (ns ++ n ∷ []))
number_new ns n seen count room low flags so_far fresh =
    let new = ap once (sym (flags n low) ∙ fresh) in
    let size = different-append ns n in (
      seen_more seen (set seen n true) ns n flags (get_or-set_same seen n true false room) (λ s ne. get_or-set_other seen n s true false ne),
      omega (arith, so_far, new, size),
    )

-- a number that is there
pub number_same : (ns : List ℕ) (n : ℕ) (seen : List Bool) (count : ℕ) → n < 256 → AreSeen seen ns → count ≡ different_numbers ns → get_or seen n false ≡ true →
    AreSeen seen (ns ++ n ∷ []) × (count ≡ different_numbers (ns ++ n ∷ []))
number_same ns n seen count low flags so_far there =
    let old = ap once (sym (flags n low) ∙ there) in
    let size = different-append ns n in (seen_more seen seen ns n flags there (λ s ne. refl), omega (arith, so_far, old, size))

-- a place in a new slot
pub slots_new : (ps : List Place) (i : ℕ) (d : Place) (seen : List Bool) (count : ℕ) → i < length ps → (get_or ps i d).slot < length seen → (get_or ps i d).slot < 256 →
    AreSeen seen (slots_of (take i ps)) → count ≡ different_numbers (slots_of (take i ps)) → get_or seen (get_or ps i d).slot false ≡ false →
    AreSeen (set seen (get_or ps i d).slot true) (slots_of (take (i + 1) ps)) × (count + 1 ≡ different_numbers (slots_of (take (i + 1) ps)))
slots_new ps i d seen count h room low flags so_far fresh =
    let n = (get_or ps i d).slot in
    rw (slots_more ps i d h) (number_new (slots_of (take i ps)) n seen count room low flags so_far fresh)

-- a place in a slot that is in use
pub slots_same : (ps : List Place) (i : ℕ) (d : Place) (seen : List Bool) (count : ℕ) → i < length ps → (get_or ps i d).slot < 256 →
    AreSeen seen (slots_of (take i ps)) → count ≡ different_numbers (slots_of (take i ps)) → get_or seen (get_or ps i d).slot false ≡ true →
    AreSeen seen (slots_of (take (i + 1) ps)) × (count ≡ different_numbers (slots_of (take (i + 1) ps)))
slots_same ps i d seen count h low flags so_far there = rw (slots_more ps i d h) (number_same (slots_of (take i ps)) (get_or ps i d).slot seen count low flags so_far there)

-- what one unit adds
abbrev one_slot : Option Place → List ℕ
one_slot None = []
one_slot (Some p) = p.slot ∷ []

slots-suc : (ps : Prefix) (i : ℕ) (e : Option Place) → i < length ps → slots_in (take (suc i) ps) ≡ slots_in (take i ps) ++ one_slot (get_or ps i e)
slots-suc [] i e h = absurd (not-suc-le-zero h)
slots-suc (None ∷ ps) zero e h = refl
slots-suc (Some p ∷ ps) zero e h = refl
slots-suc (None ∷ ps) (suc i) e h = slots-suc ps i e (le_of_suc-le-suc h)
slots-suc (Some p ∷ ps) (suc i) e h = ap (λ w. p.slot ∷ w) (slots-suc ps i e (le_of_suc-le-suc h))

-- one more unit, without a place
pub unit_none : (ps : Prefix) (i : ℕ) (e : Option Place) → i < length ps → get_or ps i e ≡ None → slots_in (take (i + 1) ps) ≡ slots_in (take i ps)
unit_none ps i e h none = rw add-one (slots-suc ps i e h ∙ (λ j. slots_in (take i ps) ++ one_slot (none j)) ∙ append-nil _)

-- one more unit with a place
pub unit_some : (ps : Prefix) (i : ℕ) (e : Option Place) (p : Place) → i < length ps → get_or ps i e ≡ Some p → slots_in (take (i + 1) ps) ≡ slots_in (take i ps) ++ p.slot ∷ []
unit_some ps i e p h some = rw add-one (slots-suc ps i e h ∙ (λ j. slots_in (take i ps) ++ one_slot (some j)))

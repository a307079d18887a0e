-- The slots that a prefix uses, when one more unit has its place: how often each is named, and how many they are.
use Rattle.std.proofs.Common.{◌≡◌, ℕ, zero, suc, ◌+◌, ◌≤◌, ◌==◌, ◌||◌, Bool, true, false, cond, if◌then◌else◌, List, [], ◌∷◌, length, replicate, set, get_or, slice_get, Some, None, refl, sym, ap, ◌∙◌, arith, inl, inr}
use Rattle.std.specs.List.{list_any, count_by}
use Rattle.std.proofs.lemmas.Bool.{cases_Bool, cases_eq, eq-eqb, ne_eqb}
use Rattle.std.proofs.lemmas.List.Sums.{sum_by-cons, count_by-le-length}
use Rattle.ec_units.specs.declared.slave.Place.{Place}
use Rattle.ec_units.specs.declared.unit.Load.{Load}
use Rattle.ec_loads.specs.declared.in_use.InUse.{InUse}
use Rattle.ec_loads.specs.Held.{no_places}
use Rattle.ec_loads.specs.InUse.{IsOneMoreIn, HoldsSlots}
use Rattle.ec_loads.specs.Search.{Prefix, slots_in, different_numbers, used}
use Rattle.ec_loads.proofs.MoreLemmas.{or_swap}
use Rattle.ec_loads.proofs.TrafficLemmas.{zero_at}

-- s is one of the numbers
abbrev pub member : ℕ → List ℕ → Bool
member s ns = list_any (λ m. s == m) ns

-- a number counts unless it comes again
abbrev pub once : Bool → ℕ
once b = if b then 0 else 1

pub member-set : (s : ℕ) (ps : Prefix) (u : ℕ) (p : Place) → slice_get ps u ≡ Some None → member s (slots_in (set ps u (Some p))) ≡ ((s == p.slot) || member s (slots_in ps))
member-set s [] u p h = cc
member-set s (None ∷ ps) zero p h = refl
member-set s (Some q ∷ ps) zero p h = cc
member-set s (None ∷ ps) (suc u) p h = member-set s ps u p h
member-set s (Some q ∷ ps) (suc u) p h =
    ap (λ w. (s == q.slot) || w) (member-set s ps u p h) ∙ or_swap (s == q.slot) (s == p.slot) (member s (slots_in ps))

twice : (k : ℕ) (a b e f : Bool) → e ≡ true → f ≡ true → a ≡ b → once (e || b) + (once a + k) ≡ once (f || a) + (once b + k)
twice k a b true true is there alike = ap (λ w. 0 + (once w + k)) alike
twice k a b true false is there alike = cc
twice k a b false f is there alike = cc

apart_count : (k : ℕ) (a b e f : Bool) → e ≡ false → f ≡ false → once (e || b) + (once a + k) ≡ once (f || a) + (once b + k)
apart_count k a b true f no_one none = cc
apart_count k a b false true no_one none = cc
apart_count k true true false false no_one none = refl
apart_count k true false false false no_one none = omega arith
apart_count k false true false false no_one none = omega arith
apart_count k false false false false no_one none = refl

-- one more unit uses one more slot, unless the slot is in use
pub used-set : (ps : Prefix) (u : ℕ) (p : Place) → slice_get ps u ≡ Some None → used (set ps u (Some p)) ≡ once (member p.slot (slots_in ps)) + used ps
used-set [] u p h = cc
used-set (None ∷ ps) zero p h = refl
used-set (Some q ∷ ps) zero p h = cc
used-set (None ∷ ps) (suc u) p h = used-set ps u p h
used-set (Some q ∷ ps) (suc u) p h =
    let a = member p.slot (slots_in ps) in
    let b = member q.slot (slots_in ps) in
    (λ j. once (member-set q.slot ps u p h j) + used-set ps u p h j)
    ∙ elim (cases_eq q.slot p.slot) [
      | inl is ↦ twice (used ps) a b (q.slot == p.slot) (p.slot == q.slot) (eq-eqb q.slot p.slot is) (eq-eqb p.slot q.slot (sym is)) (ap (λ s. member s (slots_in ps)) (sym is))
      | inr apart ↦ apart_count (used ps) a b (q.slot == p.slot) (p.slot == q.slot) (ne_eqb q.slot p.slot apart) (ne_eqb p.slot q.slot (λ e. apart (sym e)))
    ]

pub slots-none : (loads : List Load) → slots_in (no_places loads) ≡ []
slots-none [] = refl
slots-none (l ∷ ls) = slots-none ls

-- how often a slot is named, when one more unit has its place
abbrev pub times : ℕ → Prefix → ℕ
times s ps = count_by (λ n. s == n) (slots_in ps)

pub times-set : (s : ℕ) (ps : Prefix) (u : ℕ) (p : Place) → slice_get ps u ≡ Some None → times s (set ps u (Some p)) ≡ times s ps + cond (s == p.slot) 1 0
times-set s [] u p h = cc
times-set s (None ∷ ps) zero p h = let more = sum_by-cons (λ n. cond (s == n) 1 0) p.slot (slots_in ps) in omega (arith, more)
times-set s (Some q ∷ ps) zero p h = cc
times-set s (None ∷ ps) (suc u) p h = times-set s ps u p h
times-set s (Some q ∷ ps) (suc u) p h =
    let a = sum_by-cons (λ n. cond (s == n) 1 0) q.slot (slots_in (set ps u (Some p))) in
    let b = sum_by-cons (λ n. cond (s == n) 1 0) q.slot (slots_in ps) in
    let rest = times-set s ps u p h in
    omega (arith, a, b, rest)

-- a slot counts as new where none names it
once-times : (s : ℕ) (ns : List ℕ) → once (member s ns) ≡ cond (count_by (λ n. s == n) ns == 0) 1 0
once-times s [] = refl
once-times s (n ∷ ns) =
    let more = sum_by-cons (λ m. cond (s == m) 1 0) n ns in
    elim (cases_Bool (s == n)) [
      | inl is ↦
          let one = ap {B = ℕ} (λ b. cond b 1 0) is in
          ap (λ b. once (b || member s ns)) is ∙ sym (ap (λ b. cond b 1 0) (ne_eqb (count_by (λ m. s == m) (n ∷ ns)) 0 (λ e. absurd (omega (arith, more, one, e)))))
      | inr ne ↦
          let none = ap {B = ℕ} (λ b. cond b 1 0) ne in
          let same : count_by (λ m. s == m) (n ∷ ns) ≡ count_by (λ m. s == m) ns = omega (arith, more, none) in
          ap (λ b. once (b || member s ns)) ne ∙ once-times s ns ∙ ap (λ k. cond (k == 0) 1 0) (sym same)
    ]

-- a unit that has its place is one more than without it
set-back : (ps : Prefix) (u : ℕ) (p : Place) → slice_get ps u ≡ Some (Some p) → ps ≡ set (set ps u None) u (Some p)
set-back [] u p h = cc
set-back (q ∷ ps) zero p h = cc
set-back (q ∷ ps) (suc u) p h = ap (λ w. q ∷ w) (set-back ps u p h)

set-out : (ps : Prefix) (u : ℕ) (p : Place) → slice_get ps u ≡ Some (Some p) → slice_get (set ps u None) u ≡ Some None
set-out [] u p h = cc
set-out (q ∷ ps) zero p h = refl
set-out (q ∷ ps) (suc u) p h = set-out ps u p h

-- the counts before any unit has its place
pub slots-held_none : (loads : List Load) (c : InUse) → c.counts ≡ replicate 256 0 → c.different ≡ 0 → HoldsSlots (no_places loads) c.counts c.different
slots-held_none loads c all none =
    let no_slots : slots_in (no_places loads) ≡ [] = slots-none loads in
    record {
      size = ap length all;
      each = λ s. ap (λ w. get_or w s 0) all ∙ zero_at 256 s ∙ sym (ap (count_by (λ n. s == n)) no_slots);
      number = none ∙ sym (ap different_numbers no_slots);
    }

-- they follow where a unit gets its place
pub slots-held_more : (ps : Prefix) (u : ℕ) (p : Place) (a b : InUse) → slice_get ps u ≡ Some None → HoldsSlots ps a.counts a.different → IsOneMoreIn p.slot a b →
    HoldsSlots (set ps u (Some p)) b.counts b.different
slots-held_more ps u p a b free held more =
    let here = held.each p.slot in
    record {
      size = more.size ∙ held.size;
      each = λ s. more.each s ∙ ap (λ k. k + cond (s == p.slot) 1 0) (held.each s) ∙ sym (times-set s ps u p free);
      number =
          let one = once-times p.slot (slots_in ps) in
          let same = ap {B = ℕ} (λ k. cond (k == 0) 1 0) here in
          let now = used-set ps u p free in
          let was = held.number in
          let is = more.different in
          omega (arith, one, same, now, was, is);
    }

-- and where it loses it
pub slots-held_less : (ps : Prefix) (u : ℕ) (p : Place) (a b : InUse) → slice_get ps u ≡ Some (Some p) → HoldsSlots ps b.counts b.different → IsOneMoreIn p.slot a b →
    HoldsSlots (set ps u None) a.counts a.different
slots-held_less ps u p a b placed held more =
    let free = set-out ps u p placed in
    let back = set-back ps u p placed in
    let counted : (s : ℕ) → get_or a.counts s 0 ≡ times s (set ps u None) =
    λ s.
    let now = more.each s in
    let was = held.each s in
    let whole : times s ps ≡ times s (set (set ps u None) u (Some p)) = ap (times s) back in
    let step = times-set s (set ps u None) u p free in
    omega (arith, now, was, whole, step) in
    record {
      size = sym more.size ∙ held.size;
      each = counted;
      number =
          let one = once-times p.slot (slots_in (set ps u None)) in
          let same = ap {B = ℕ} (λ k. cond (k == 0) 1 0) (counted p.slot) in
          let whole : used ps ≡ used (set (set ps u None) u (Some p)) = ap used back in
          let step = used-set (set ps u None) u p free in
          let was = held.number in
          let is = more.different in
          omega (arith, one, same, whole, step, was, is);
    }

-- no count is above the number of the units, nor the number of slots
slots-few : (ps : Prefix) → length (slots_in ps) ≤ length ps
slots-few [] = omega arith
slots-few (None ∷ ps) = let rest = slots-few ps in omega (arith, rest)
slots-few (Some p ∷ ps) = let rest = slots-few ps in omega (arith, rest)

different-few : (ns : List ℕ) → different_numbers ns ≤ length ns
different-few [] = omega arith
different-few (n ∷ ns) =
    let rest = different-few ns in
    elim (cases_Bool (member n ns)) [
      | inl is ↦ let none = ap {B = ℕ} once is in omega (arith, rest, none)
      | inr ne ↦ let one = ap {B = ℕ} once ne in omega (arith, rest, one)
    ]

pub times-few : (s : ℕ) (ps : Prefix) → times s ps ≤ length ps
times-few s ps = let a = count_by-le-length (λ n. s == n) (slots_in ps) in let b = slots-few ps in omega (arith, a, b)

pub used-few : (ps : Prefix) → used ps ≤ length ps
used-few ps = let a = different-few (slots_in ps) in let b = slots-few ps in omega (arith, a, b)

-- a unit that has its place counts
pub times-some : (ps : Prefix) (u : ℕ) (p : Place) → slice_get ps u ≡ Some (Some p) → 1 ≤ times p.slot ps
times-some ps u p placed =
    let whole : times p.slot ps ≡ times p.slot (set (set ps u None) u (Some p)) = ap (times p.slot) (set-back ps u p placed) in
    let step = times-set p.slot (set ps u None) u p (set-out ps u p placed) in
    let one = ap {B = ℕ} (λ b. cond b 1 0) (eq-eqb p.slot p.slot refl) in
    omega (arith, whole, step, one)

member-some : (n : ℕ) (ns : List ℕ) → member n ns ≡ true → 1 ≤ different_numbers ns
member-some n [] h = cc
member-some n (m ∷ ns) h =
    elim (cases_Bool (member m ns)) [
      | inl is ↦ let rest = member-some m ns is in omega (arith, rest)
      | inr ne ↦ let one = ap {B = ℕ} once ne in omega (arith, one)
    ]

-- a list in which a number counts has some number
some-used : (ns : List ℕ) (s : ℕ) → 1 ≤ count_by (λ n. s == n) ns → 1 ≤ different_numbers ns
some-used [] s h = absurd (omega (arith, h))
some-used (n ∷ ns) s h =
    elim (cases_Bool (member n ns)) [
      | inl is ↦
          let some = member-some n ns is in
          omega (arith, some)
      | inr ne ↦ let one = ap {B = ℕ} once ne in omega (arith, one)
    ]

pub used-some : (ps : Prefix) (u : ℕ) (p : Place) → slice_get ps u ≡ Some (Some p) → 1 ≤ used ps
used-some ps u p placed =
    let some = times-some ps u p placed in
    some-used (slots_in ps) p.slot some

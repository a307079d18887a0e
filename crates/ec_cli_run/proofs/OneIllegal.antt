-- A plan has one fault at most, and a legal one none.
use Rattle.std.proofs.Common.{◌≡◌, ℕ, zero, suc, [], ◌∷◌, ◌&&◌, ◌+◌, ◌<◌, ◌≤◌, List, take, Bool, true, false, refl, sym, ap, ◌∙◌, inl, inr, arith}
use Rattle.std.specs.List.{list_all}
use Rattle.std.proofs.lemmas.Bool.{cases_lt, false≢true}
use Rattle.ec_units.specs.declared.slave.Place.{Place}
use Rattle.ec_units.specs.declared.unit.Load.{Load}
use Rattle.ec_loads.specs.declared.item.Item.{Item}
use Rattle.ec_loads.specs.declared.plan.Illegal.{Illegal}
use Rattle.ec_loads.specs.declared.plan.Illegal.TheVariants as illegal
use Rattle.ec_loads.specs.Cost.{plan_items, payload}
use Rattle.ec_loads.specs.Legal.{IsLegal, IsIllegalBy, IsFirstFull, IsFirstToFail, has_phase, has_slot}
use Rattle.ec_loads.proofs.TestLemmas.{none_fails, phases_pass, slots_pass}

-- two numbers neither of which is less are one
pub neither_less : (a b : ℕ) → (a < b → ⊥) → (b < a → ⊥) → a ≡ b
neither_less a b p q =
    elim (cases_lt a b) [
      | inl less ↦ absurd (p less)
      | inr more ↦ elim (cases_lt b a) [ inl less ↦ absurd (q less) | inr other ↦ omega arith ]
    ]

-- there is one first item that fails
and_parts : (a b c : Bool) → (a && b) ≡ false → (a && c) ≡ true → (b ≡ false) × (c ≡ true)
and_parts true b c p q = (p, q)
and_parts false b c p q = absurd (false≢true q)

list_all-take_less : (test : Item → Bool) (xs : List Item) (i j : ℕ) → i ≤ j → list_all test (take i xs) ≡ false → list_all test (take j xs) ≡ true → ⊥
list_all-take_less test xs zero j within none all = false≢true (sym none)
list_all-take_less test [] (suc i) j within none all = false≢true (sym none)
list_all-take_less test (x ∷ xs) (suc i) zero within none all = absurd (omega arith)
list_all-take_less test (x ∷ xs) (suc i) (suc j) within none all =
    let parts = and_parts (test x) (list_all test (take i xs)) (list_all test (take j xs)) none all in
    list_all-take_less test xs i j (omega arith) parts.0 parts.1

fails_once : (test : Item → Bool) (xs : List Item) (u v : ℕ) → IsFirstToFail test xs u → IsFirstToFail test xs v → u ≡ v
fails_once test xs u v p q =
    neither_less u v
    (λ less. list_all-take_less test xs (u + 1) v (omega arith) p.here q.before)
    (λ less. list_all-take_less test xs (v + 1) u (omega arith) q.here p.before)

-- one first tick and slot that is too full
full_once : (xs : List Item) (n t s b t' s' b' : ℕ) → IsFirstFull xs n t s b → IsFirstFull xs n t' s' b' → illegal.Full t s b ≡ illegal.Full t' s' b'
full_once xs n t s b t' s' b' p q =
    let ticks : t ≡ t' = neither_less t t' (λ less. omega (arith, q.ticks t s less p.slot, p.bytes, p.above)) (λ less. omega (arith, p.ticks t' s' less q.slot, q.bytes, q.above)) in
    let first : payload xs t s ≡ payload xs t' s = ap (λ w. payload xs w s) ticks in
    let second : payload xs t s' ≡ payload xs t' s' = ap (λ w. payload xs w s') ticks in
    let slots : s ≡ s' = neither_less s s' (λ less. omega (arith, q.slots s less, p.bytes, p.above, first)) (λ less. omega (arith, p.slots s' less, q.bytes, q.above, second)) in
    let bytes : b ≡ b' = p.bytes ∙ (λ i. payload xs (ticks i) (slots i)) ∙ sym q.bytes in
    (λ i. illegal.Full (ticks i) (slots i) (bytes i))

-- a plan has one fault
pub illegal_once : (ls : List Load) (n : ℕ) (ps : List Place) (f g : Illegal) → IsIllegalBy ls n ps f → IsIllegalBy ls n ps g → f ≡ g
illegal_once ls n ps illegal.WrongCount illegal.WrongCount p q = refl
illegal_once ls n ps illegal.WrongCount (illegal.PhaseRange v) p q = absurd (p q.0)
illegal_once ls n ps illegal.WrongCount (illegal.SlotRange v) p q = absurd (p q.0)
illegal_once ls n ps illegal.WrongCount (illegal.Full t s b) p q = absurd (p q.0)
illegal_once ls n ps (illegal.PhaseRange u) illegal.WrongCount p q = absurd (q p.0)
illegal_once ls n ps (illegal.PhaseRange u) (illegal.PhaseRange v) p q = ap (λ (w : ℕ). illegal.PhaseRange w) (fails_once has_phase (plan_items ls ps) u v p.1 q.1)
illegal_once ls n ps (illegal.PhaseRange u) (illegal.SlotRange v) p q = absurd (none_fails has_phase (plan_items ls ps) u q.1 p.1)
illegal_once ls n ps (illegal.PhaseRange u) (illegal.Full t s b) p q = absurd (none_fails has_phase (plan_items ls ps) u q.1 p.1)
illegal_once ls n ps (illegal.SlotRange u) illegal.WrongCount p q = absurd (q p.0)
illegal_once ls n ps (illegal.SlotRange u) (illegal.PhaseRange v) p q = absurd (none_fails has_phase (plan_items ls ps) v p.1 q.1)
illegal_once ls n ps (illegal.SlotRange u) (illegal.SlotRange v) p q = ap (λ (w : ℕ). illegal.SlotRange w) (fails_once (has_slot n) (plan_items ls ps) u v p.2 q.2)
illegal_once ls n ps (illegal.SlotRange u) (illegal.Full t s b) p q = absurd (none_fails (has_slot n) (plan_items ls ps) u q.2 p.2)
illegal_once ls n ps (illegal.Full t s b) illegal.WrongCount p q = absurd (q p.0)
illegal_once ls n ps (illegal.Full t s b) (illegal.PhaseRange v) p q = absurd (none_fails has_phase (plan_items ls ps) v p.1 q.1)
illegal_once ls n ps (illegal.Full t s b) (illegal.SlotRange v) p q = absurd (none_fails (has_slot n) (plan_items ls ps) v p.2 q.2)
illegal_once ls n ps (illegal.Full t s b) (illegal.Full t' s' b') p q = full_once (plan_items ls ps) n t s b t' s' b' p.3 q.3

-- a legal one has none
pub legal_none : (ls : List Load) (n : ℕ) (ps : List Place) (f : Illegal) → IsLegal ls n ps → IsIllegalBy ls n ps f → ⊥
legal_none ls n ps illegal.WrongCount legal p = p legal.whole
legal_none ls n ps (illegal.PhaseRange u) legal p = none_fails has_phase (plan_items ls ps) u (phases_pass (plan_items ls ps) legal.phases) p.1
legal_none ls n ps (illegal.SlotRange u) legal p = none_fails (has_slot n) (plan_items ls ps) u (slots_pass n (plan_items ls ps) legal.slots) p.2
legal_none ls n ps (illegal.Full t s b) legal p = omega (arith, legal.fits t s p.3.slot, p.3.bytes, p.3.above)

-- Each legal plan has one that the strong children reach: a plan that keeps the three rules stands at strong children.
use Rattle.std.proofs.Common.{◌≡◌, ℕ, suc, ◌<◌, ◌==◌, ◌&&◌, ◌||◌, true, false, not, nat_lt, List, [], ◌∷◌, length, get_or, All, Some, None, refl, ap, subst, arith, inl, inr}
use Rattle.std.proofs.lemmas.Bool.{eqb-true, ltb-true, or_cases, and_parts, false_from_ne_true}
use Rattle.std.proofs.lemmas.List.Elements.{All-head, All-tail, All-cons, All-nil}
use Rattle.ec_units.specs.declared.slave.Place.{Place}
use Rattle.ec_units.specs.declared.unit.Load.{Load}
use Rattle.ec_loads.specs.Held.{AreLoads}
use Rattle.ec_loads.specs.Legal.{IsLegal}
use Rattle.ec_loads.specs.Line.{strong, line_by}
use Rattle.ec_loads.specs.Search.{Prefix, nobody, nowhere, used, places_for, children}
use Rattle.ec_loads.specs.Strong.{strong_phases, same_load, is_below, has_equal_above, strong_children}
use Rattle.ec_symmetry.specs.Reached.{In, IsCanonical}
use Rattle.ec_symmetry.specs.StrongReach.{StrongChildrenReach}
use Rattle.ec_symmetry.proofs.CanonLemmas.{slot_at}
use Rattle.ec_symmetry.proofs.EqualRule.{KeepsEqual, equal-improves}
use Rattle.ec_symmetry.proofs.InLemmas.{In-filter, In-places_for}
use Rattle.ec_symmetry.proofs.ShiftRule.{KeepsShift, shift-improves}
use Rattle.ec_symmetry.proofs.SlotRule.{KeepsSlots, prefix-of, slots-improve}
use Rattle.ec_symmetry.proofs.WalkLemmas.{prefix_at, Rule, Keeps, Both, IsPlaceBefore, Improves, some-keeps, both-improve, order-fresh}

place-before : (p q : Place) → is_below p q ≡ true → IsPlaceBefore p q
place-before p q e =
    elim (or_cases (nat_lt p.phase q.phase) ((p.phase == q.phase) && nat_lt p.slot q.slot) e) [
      | inl less ↦ inl (ltb-true p.phase q.phase less, refl)
      | inr later ↦ let both = and_parts (p.phase == q.phase) (nat_lt p.slot q.slot) later in inr (eqb-true p.phase q.phase both.0, inl (ltb-true p.slot q.slot both.1, refl))
    ]

pub one-load : (l m : Load) → same_load l m ≡ true → l ≡ m
one-load l m e =
    let both = and_parts (l.bytes == m.bytes) (l.period == m.period) e in
    let bytes = eqb-true l.bytes m.bytes both.0 in
    let period = eqb-true l.period m.period both.1 in
    λ i. let x : Load = record { bytes = bytes i; period = period i } in x

-- no unit of the prefix is equal and has a place above
none-above : (l : Load) (p : Place) (loads : List Load) (ps : Prefix) → ((w : ℕ) (q : Place) → w < length loads → get_or ps w None ≡ Some q → get_or loads w nobody ≡ l → IsPlaceBefore p q → ⊥) → has_equal_above l p loads ps ≡ false
none-above l p [] ps h = refl
none-above l p (m ∷ ls) [] h = refl
none-above l p (m ∷ ls) (None ∷ ps) h = none-above l p ls ps (λ w q low. h (suc w) q (omega arith))
none-above l p (m ∷ ls) (Some q ∷ ps) h =
    let rest = none-above l p ls ps (λ w r low. h (suc w) r (omega arith)) in
    let first : (same_load m l && is_below p q) ≡ false =
    false_from_ne_true (same_load m l && is_below p q) (λ e.
    let both = and_parts (same_load m l) (is_below p q) e in
    h 0 q (omega arith) refl (one-load m l both.0) (place-before p q both.1)) in
    λ i. first i || rest i

-- the three rules, and each improves what breaks it
abbrev strong_rule : List Load → Rule
strong_rule loads = Both (KeepsSlots loads) (Both (KeepsShift loads) (KeepsEqual loads))

rule-improves : (loads : List Load) (n : ℕ) → AreLoads loads → Improves loads n (strong_rule loads)
rule-improves loads n all =
    both-improve loads n (KeepsSlots loads) (Both (KeepsShift loads) (KeepsEqual loads)) (slots-improve loads n)
    (both-improve loads n (KeepsShift loads) (KeepsEqual loads) (shift-improves loads n all) (equal-improves loads n))

-- a unit that keeps them stands at a child
at-child : (loads : List Load) (n : ℕ) (before : List ℕ) (u : ℕ) (plan : List Place) → IsLegal loads n plan → All (λ w. w < length loads) (u ∷ before) → strong_rule loads before u plan → In (get_or plan u nowhere) (children (line_by strong loads n) (prefix_at loads before plan) u)
unfolding children strong_children
at-child loads n before u plan legal low keeps =
    let within = All-head (λ w. w < length loads) u before low in
    let ps = prefix_at loads before plan in
    let p = get_or plan u nowhere in
    let l = get_or loads u nobody in
    let none = none-above l p loads ps (λ w q inside e same less.
    let is = prefix-of loads before plan w q (All-tail (λ w. w < length loads) u before low) e in
    keeps.1.1 w is.0 same (subst (λ r. IsPlaceBefore p r) is.1 less)) in
    In-filter (λ r. not (has_equal_above l r loads ps)) p (places_for (strong_phases loads ps l.period) n (used ps))
    (In-places_for (strong_phases loads ps l.period) n (used ps) p keeps.1.0 keeps.0 (slot_at n loads plan u within legal.whole legal.slots))
    (ap not none)

all-at-children : (loads : List Load) (n : ℕ) (before order : List ℕ) (plan : List Place) → IsLegal loads n plan → All (λ w. w < length loads) before → All (λ w. w < length loads) order → Keeps (strong_rule loads) before order plan → IsCanonical (line_by strong loads n) (prefix_at loads before plan) order plan
all-at-children loads n before [] plan legal low all keeps = tt
all-at-children loads n before (u ∷ order) plan legal low all keeps =
    let more = All-cons (λ w. w < length loads) u before (All-head (λ w. w < length loads) u order all) low in
    (at-child loads n before u plan legal more keeps.0, all-at-children loads n (u ∷ before) order plan legal more (All-tail (λ w. w < length loads) u order all) keeps.1)

pub strong-reach : StrongChildrenReach
strong-reach loads n order plan loads_are is legal =
    let r = some-keeps loads n (strong_rule loads) (rule-improves loads n loads_are) order plan is.below (order-fresh (length loads) order is) legal in
    (r.0, r.1.legal, r.1.costs, r.1.slot, all-at-children loads n [] order r.0 r.1.legal (All-nil _) is.below r.2)

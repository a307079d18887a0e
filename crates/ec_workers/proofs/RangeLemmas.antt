-- The busiest tick of a legal plan costs 84 to 12304 bytes.
use Rattle.std.proofs.Common.{◌≡◌, ℕ, zero, suc, ◌+◌, ◌*◌, ◌<◌, ◌≤◌, ◌%◌, ◌||◌, ◌==◌, true, List, [], ◌∷◌, length, refl, ap, sym, subst, arith, inl, inr, mod-eq_of_lt, eq-or-lt_of_le}
use Rattle.std.specs.List.{list_any}
use Rattle.std.proofs.lemmas.Bool.{cond_both, eq-eqb}
use Rattle.std.proofs.lemmas.List.Elements.{All-head}
use Rattle.ec_wire.specs.Wire.{wire_of}
use Rattle.ec_units.specs.declared.slave.Place.{Place}
use Rattle.ec_units.specs.declared.unit.Load.{Load}
use Rattle.ec_loads.specs.declared.item.Item.{Item}
use Rattle.ec_loads.specs.Cost.{item, plan_items, is_sent, payload, slot_cost, sum_below, tick_cost, IsBusiest}
use Rattle.ec_loads.specs.Legal.{IsLegal, Fits}

slot-most : (xs : List Item) (n t s : ℕ) → Fits xs n → s < n → slot_cost xs t s ≤ 1538
slot-most xs n t s fits h =
    let most = fits t s h in
    cond_both (list_any (is_sent t s) xs) (wire_of (2 + payload xs t s)) 0 (λ w. w ≤ 1538) (λ _. omega (arith, most)) (λ _. omega arith)

sum-most : (f : ℕ → ℕ) (n b : ℕ) → ((s : ℕ) → s < n → f s ≤ b) → sum_below f n ≤ n * b
sum-most f zero b h = omega arith
sum-most f (suc n) b h = omega (arith, sum-most f n b (λ s k. h s (omega (arith, k))), h n (omega arith))

tick-most : (xs : List Item) (n t : ℕ) → Fits xs n → n ≤ 8 → tick_cost xs n t ≤ 12304
unfolding tick_cost
tick-most xs n t fits few = omega (arith, few, sum-most (slot_cost xs t) n 1538 (λ s h. slot-most xs n t s fits h))

sum-least : (f : ℕ → ℕ) (n s : ℕ) → s < n → f s ≤ sum_below f n
sum-least f zero s h = absurd (omega arith)
sum-least f (suc n) s h =
    let within : s ≤ n = omega arith in
    elim (eq-or-lt_of_le within) [
      | inl is ↦ subst (λ w. f w ≤ sum_below f n + f n) (sym is) (omega arith)
      | inr below ↦ omega (arith, sum-least f n s below)
    ]

-- a unit travels in the tick of its phase
sent-at_phase : (l : Load) (p : Place) → p.phase < l.period → is_sent p.phase p.slot (item l p) ≡ true
sent-at_phase l p h =
    let phase : (p.phase % l.period == p.phase) ≡ true = eq-eqb (p.phase % l.period) p.phase (mod-eq_of_lt h) in
    let slot : (p.slot == p.slot) ≡ true = eq-eqb p.slot p.slot refl in
    rw (phase, slot) refl

busy-least : (xs : List Item) (t s : ℕ) → list_any (is_sent t s) xs ≡ true → 84 ≤ slot_cost xs t s
busy-least xs t s busy = rw busy (omega arith)

tick-least : (xs : List Item) (n t s : ℕ) → s < n → list_any (is_sent t s) xs ≡ true → 84 ≤ tick_cost xs n t
unfolding tick_cost
tick-least xs n t s h busy = omega (arith, busy-least xs t s busy, sum-least (slot_cost xs t) n s h)

-- some tick of a plan with a unit costs at least 84
some-tick : (loads : List Load) (n : ℕ) (plan : List Place) → 1 ≤ length loads → IsLegal loads n plan → (t : ℕ) × (84 ≤ tick_cost (plan_items loads plan) n t)
some-tick [] n plan some legal = absurd (omega arith)
some-tick (l ∷ ls) n [] some legal = absurd (omega (arith, legal.whole))
some-tick (l ∷ ls) n (p ∷ ps) some legal =
    let phase : p.phase < l.period = All-head (λ (x : Item). x.phase < x.period) (item l p) (plan_items ls ps) legal.phases in
    let slot : p.slot < n = All-head (λ (x : Item). x.slot < n) (item l p) (plan_items ls ps) legal.slots in
    let busy : list_any (is_sent p.phase p.slot) (item l p ∷ plan_items ls ps) ≡ true = ap (λ b. b || list_any (is_sent p.phase p.slot) (plan_items ls ps)) (sent-at_phase l p phase) in
    (p.phase, tick-least (item l p ∷ plan_items ls ps) n p.phase p.slot slot busy)

pub busiest-range : (loads : List Load) (n b : ℕ) (plan : List Place) → 1 ≤ length loads → n ≤ 8 → IsLegal loads n plan → IsBusiest (plan_items loads plan) n b → (84 ≤ b) × (b ≤ 12304)
busiest-range loads n b plan some few legal busiest =
    let at = some-tick loads n plan some legal in
    let below = busiest.most at.0 in
    let reached = busiest.reached in
    let most = tick-most (plan_items loads plan) n reached.0 legal.fits few in
    (omega (arith, at.1, below), omega (arith, most, reached.1))

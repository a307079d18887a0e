-- A leaf that holds bounds every legal plan that extends its prefix, and holds at each smaller value.
use Rattle.std.proofs.Common.{◌≡◌, ℕ, ◌*◌, ◌≤◌, ◌||◌, nat_lt, true, List, [], ◌∷◌, map, Option, Some, None, sym, ap, ◌∙◌, arith, le_trans}
use Rattle.std.specs.List.{list_any}
use Rattle.std.proofs.lemmas.Bool.{false≢true}
use Rattle.std.proofs.lemmas.List.Elements.{All-head, All-tail}
use Rattle.std.proofs.Math.Nat.{mul-le-mul_right}
use Rattle.ec_hyper.specs.Lcm.{lcm_of}
use Rattle.ec_units.specs.declared.slave.Place.{Place}
use Rattle.ec_units.specs.declared.unit.Load.{Load}
use Rattle.ec_units.specs.Load.{periods_of}
use Rattle.ec_loads.specs.Held.{AreLoads}
use Rattle.ec_loads.specs.Legal.{IsLegal}
use Rattle.ec_loads.specs.Rooms.{is_above_slot_0, IsInFirstSlot}
use Rattle.ec_loads.specs.Search.{Prefix, Extends, free, same, TickHolds, FullHolds, AverageHolds, HasTick}
use Rattle.ec_loads.specs.Shape.{tick, full, average, weighted, merging, counted, grouped}
use Rattle.ec_bounds.specs.Laws.{LeavesBound, LeavesFall}
use Rattle.ec_bounds.proofs.SubLemmas.{Sub-items, payload-Sub, tick_cost-Sub, below_some}
use Rattle.ec_bounds.proofs.AverageLemmas.{AreWhole-legal, average-bounds}
use Rattle.ec_bounds.proofs.WeightLemmas.{weights-bound, weights-fall}
use Rattle.ec_bounds.proofs.CountLemmas.{counts-bound}
use Rattle.ec_bounds.proofs.GroupLemmas.{groups-bound}
use Rattle.ec_bounds.proofs.FallLemmas.{merges-fall, counts-fall, groups-fall}

tick-bounds : (loads : List Load) (n : ℕ) (v : Option ℕ) (ps : Prefix) (plan : List Place) → Extends ps (map Some plan) → (t : ℕ) → TickHolds loads n v ps t → HasTick loads n v plan
tick-bounds loads n v ps plan e t h = (h.0, h.1, t, le_trans h.2 (tick_cost-Sub _ _ n t (Sub-items loads e)))

full-bounds : (loads : List Load) (n : ℕ) (ps : Prefix) (plan : List Place) → Extends ps (map Some plan) → IsLegal loads n plan → (t s : ℕ) → FullHolds loads n ps t s → ⊥
full-bounds loads n ps plan e legal t s h =
    let more = payload-Sub _ _ t s (Sub-items loads e) in
    let most = legal.fits t s h.0 in
    omega (arith, h.1)

average_leaf-bounds : (loads : List Load) (n : ℕ) (v : Option ℕ) (ps : Prefix) (plan : List Place) → AreLoads loads → Extends ps (map Some plan) → IsLegal loads n plan → AverageHolds loads n v ps → HasTick loads n v plan
average_leaf-bounds loads n v ps plan within e legal h =
    let found = average-bounds loads n (lcm_of (periods_of loads)) h.0 ps plan e (AreWhole-legal loads n plan within legal) h.2 in
    (h.0, h.1, found.0, found.1)

-- no prefix of a plan in slot 0 has a place in a slot above it
merge-bounds : (ps : Prefix) (plan : List Place) → Extends ps (map Some plan) → IsInFirstSlot plan → list_any is_above_slot_0 ps ≡ true → ⊥
merge-bounds [] plan e first above = absurd (false≢true above)
merge-bounds (q ∷ ps) [] e first above = elim e [ ]
merge-bounds (None ∷ ps) (p ∷ plan) (free e) first above = merge-bounds ps plan e (All-tail (λ (p : Place). p.slot ≡ 0) p plan first) above
merge-bounds (Some q ∷ ps) (p ∷ plan) (same e) first above =
    merge-bounds ps plan e (All-tail (λ (p : Place). p.slot ≡ 0) p plan first) (ap (λ s. nat_lt 0 s || list_any is_above_slot_0 ps) (sym (All-head (λ (p : Place). p.slot ≡ 0) p plan first)) ∙ above)

-- by what closes the leaf
pub leaf-bounds : LeavesBound
leaf-bounds line v ps (tick t) plan within e legal speaks h = tick-bounds line.loads line.slots v ps plan e t h
leaf-bounds line v ps (full t s) plan within e legal speaks h = absurd (full-bounds line.loads line.slots ps plan e legal t s h)
leaf-bounds line v ps average plan within e legal speaks h = average_leaf-bounds line.loads line.slots v ps plan within e legal h
leaf-bounds line v ps (weighted w) plan within e legal speaks h = weights-bound line.loads line.slots v ps w plan e legal h
leaf-bounds line v ps merging plan within e legal speaks h = absurd (merge-bounds ps plan e speaks h.1.3)
leaf-bounds line v ps (counted p c) plan within e legal speaks h = counts-bound line.loads line.slots v ps p c plan within e legal h.1
leaf-bounds line v ps (grouped pairs) plan within e legal speaks h = groups-bound line.loads line.slots v ps pairs plan within e legal h.1

pub leaf-falls : LeavesFall
leaf-falls line v w ps (tick t) low (b, some, under) =
    let (a, is, less) = below_some v w b some low in
    (a, is, le_trans less under)
leaf-falls line v w ps (full t s) low h = h
leaf-falls line v w ps average low (b, some, under) =
    let (a, is, less) = below_some v w b some low in
    let times : a * lcm_of (periods_of line.loads) ≤ b * lcm_of (periods_of line.loads) = mul-le-mul_right (lcm_of (periods_of line.loads)) less in
    (a, is, omega (arith, times, under))
leaf-falls line v w ps (weighted weights) low h = weights-fall line.loads line.slots v w ps weights low h
leaf-falls line v w ps merging low h = (h.0, merges-fall v w ps low h.1)
leaf-falls line v w ps (counted p c) low h = (h.0, counts-fall line.loads line.slots v w ps p c low h.1)
leaf-falls line v w ps (grouped pairs) low h = (h.0, groups-fall line.loads line.slots v w ps pairs low h.1)

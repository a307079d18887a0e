-- What a merge, units that are counted or new groups show at a value, they show at each smaller one.
use Rattle.std.proofs.Common.{ℕ, ◌-◌, ◌*◌, ◌≤◌, Bool, true, false, cond, List, [], ◌∷◌, arith, le_trans, mul-le-mul_right}
use Rattle.std.specs.List.{AllZip}
use Rattle.ec_hyper.specs.Lcm.{lcm_of}
use Rattle.ec_units.specs.declared.unit.Load.{Load}
use Rattle.ec_units.specs.Load.{periods_of}
use Rattle.ec_loads.specs.declared.item.Item.{Item}
use Rattle.ec_loads.specs.declared.pair.Pair.{Pair}
use Rattle.ec_loads.specs.Cost.{items}
use Rattle.ec_loads.specs.Rooms.{is_open, room, unplaced, periods_in, room_beside, IsNeeded}
use Rattle.ec_bounds.specs.RoomLaws.{MergesFall, CountsFall, GroupsFall}
use Rattle.ec_bounds.proofs.SubLemmas.{sum_below-le, below_some}
use Rattle.ec_bounds.proofs.CountLemmas.{room-falls, room_count-falls}

pub merges-fall : MergesFall
merges-fall v w ps low h =
    let (a, is, less) = below_some v w h.0 h.1 low in
    (a, is, le_trans less h.2, h.3)

pub counts-fall : CountsFall
counts-fall loads n v w ps p c low h =
    let (a, is, less) = below_some v w h.0 h.1 low in
    let fewer = room_count-falls (items loads ps) n (lcm_of (periods_of loads)) a h.0 p c h.2 less in
    (a, is, h.2, omega (arith, fewer, h.3))

pub beside-falls : (r s x : ℕ) (old : Bool) → r ≤ s → cond old r (r - x) ≤ cond old s (s - x)
beside-falls r s x true low = low
beside-falls r s x false low = omega arith

-- what is needed at a value is needed at a smaller one
needed-falls : (xs : List Item) (n h a b : ℕ) (ls : List Load) → a ≤ b → (p : ℕ) (pair : Pair) → IsNeeded xs n h b ls p pair → IsNeeded xs n h a ls p pair
needed-falls xs n h a b ls low p pair needed = λ some.
    let rooms = sum_below-le (room_beside xs n h a p pair.room) (room_beside xs n h b p pair.room) p
    (λ f _. beside-falls (room xs n h a p f) (room xs n h b p f) pair.room (is_open xs p f) (room-falls xs n h a b p f low)) in
    let above = needed some in
    omega (arith, rooms, above)

-- what follows from each of two lists side by side
pub zip-weaker : {A B : Type 0} (R S : A → B → Type 0) → ((x : A) (y : B) → R x y → S x y) → (xs : List A) (ys : List B) → AllZip R xs ys → AllZip S xs ys
zip-weaker R S each [] [] all = all
zip-weaker R S each [] (y ∷ ys) all = all
zip-weaker R S each (x ∷ xs) [] all = all
zip-weaker R S each (x ∷ xs) (y ∷ ys) all = (each x y all.0, zip-weaker R S each xs ys all.1)

pub groups-fall : GroupsFall
groups-fall loads n v w ps pairs low h =
    let (a, is, less) = below_some v w h.0 h.1 low in
    let k = lcm_of (periods_of loads) in
    let xs = items loads ps in
    let ls = unplaced loads ps in
    let times : (a - 1) * k ≤ (h.0 - 1) * k = mul-le-mul_right k (let under : a - 1 ≤ h.0 - 1 = omega (arith, less) in under) in
    let above = h.2.above in (
      a,
      is,
      record {
        some = h.2.some;
        needed = zip-weaker (IsNeeded xs n k h.0 ls) (IsNeeded xs n k a ls) (needed-falls xs n k a h.0 ls less) (periods_in ls) pairs h.2.needed;
        above = omega (arith, times, above);
      },
    )

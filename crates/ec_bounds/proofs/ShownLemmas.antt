-- What the ticks of a table show holds: no tick of a class is above its top (`tick_top-low`), so each class seems to have no less room (`room-shown`).
use Rattle.std.proofs.Common.{◌≡◌, ℕ, ◌+◌, ◌-◌, ◌/◌, ◌%◌, ◌<◌, ◌≤◌, ◌==◌, ◌&&◌, max, cond, List, Option, arith, inl, inr}
use Rattle.std.specs.Prelude.{nat_lt}
use Rattle.std.proofs.lemmas.Bool.{and_parts, cases_Bool, cond-true, cond-false}
use Rattle.ec_hyper.specs.Lcm.{lcm_of}
use Rattle.ec_units.specs.declared.unit.Load.{Load}
use Rattle.ec_units.specs.Load.{periods_of}
use Rattle.ec_loads.specs.declared.item.Item.{Item}
use Rattle.ec_loads.specs.declared.pair.Pair.{Pair}
use Rattle.ec_loads.specs.Cost.{items, raw_cost}
use Rattle.ec_loads.specs.Rooms.{is_open, top, unplaced, periods_in, CountHolds, IsNeeded, GroupsHold, room_by, room_beside_by, IsNeededBy}
use Rattle.ec_loads.specs.Search.{Prefix}
use Rattle.ec_bounds.specs.Shown.{tick_top, shown_tops, CountShows, GroupsShow}
use Rattle.ec_bounds.proofs.SubLemmas.{sum_below-le}
use Rattle.ec_bounds.proofs.LeftLemmas.{below_from}
use Rattle.ec_bounds.proofs.RoomLemmas.{greatest-first, greatest-each}
use Rattle.ec_bounds.proofs.CountLemmas.{div-mono}
use Rattle.ec_bounds.proofs.FallLemmas.{beside-falls, zip-weaker}

-- no tick of a class is above its top
pub tick_top-low : (xs : List Item) (n h p f t : ℕ) → tick_top xs n h p f t ≤ top xs n h p f
tick_top-low xs n h p f t =
    let first = greatest-first 40 (λ k. cond (k % p == f) (raw_cost xs n k) 0) h in
    elim (cases_Bool (nat_lt t h && (t % p == f))) [
      | inl on ↦
          let parts = and_parts (nat_lt t h) (t % p == f) on in
          let below : t < h = below_from t h parts.0 in
          let each = greatest-each 40 (λ k. cond (k % p == f) (raw_cost xs n k) 0) h t below in
          let at : cond (t % p == f) (raw_cost xs n t) 0 ≡ raw_cost xs n t = cond-true (t % p == f) (raw_cost xs n t) 0 parts.1 in
          let is : tick_top xs n h p f t ≡ max 40 (raw_cost xs n t) = cond-true (nat_lt t h && (t % p == f)) (max 40 (raw_cost xs n t)) 40 on in
          omega (arith, first, each, at, is)
      | inr off ↦
          let is : tick_top xs n h p f t ≡ 40 = cond-false (nat_lt t h && (t % p == f)) (max 40 (raw_cost xs n t)) 40 off in
          omega (arith, first, is)
    ]

-- by lesser tops there is no less room
less-right : (u a b d : ℕ) → a ≤ b → u - (b + d) ≤ u - (a + d)
less-right u a b d low = omega arith

pub room-shown : (xs : List Item) (n h v p f : ℕ) (ticks : ℕ → ℕ → ℕ) → room_by xs (top xs n h) v p f ≤ room_by xs (shown_tops xs n h ticks) v p f
room-shown xs n h v p f ticks = less-right (v - 1) (tick_top xs n h p f (ticks p f)) (top xs n h p f) _ (tick_top-low xs n h p f (ticks p f))

-- units that seem to be more than have room are
pub counts-shown : (loads : List Load) (n : ℕ) (val : Option ℕ) (ps : Prefix) (p c : ℕ) (ticks : ℕ → ℕ → ℕ) → CountShows loads n val ps p c ticks → CountHolds loads n val ps p c
counts-shown loads n val ps p c ticks shown =
    let h = lcm_of (periods_of loads) in
    let xs = items loads ps in
    let fewer = sum_below-le (λ f. room_by xs (top xs n h) shown.0 p f / c) (λ f. room_by xs (shown_tops xs n h ticks) shown.0 p f / c) p
    (λ f _. div-mono (room_by xs (top xs n h) shown.0 p f) (room_by xs (shown_tops xs n h ticks) shown.0 p f) c shown.2 (room-shown xs n h shown.0 p f ticks)) in
    (shown.0, shown.1, shown.2, omega (arith, fewer, shown.3))

-- and so many closed classes that seem to be needed are
needed-shown : (xs : List Item) (n h v : ℕ) (ticks : ℕ → ℕ → ℕ) (ls : List Load) (p : ℕ) (pair : Pair) → IsNeededBy xs (shown_tops xs n h ticks) v ls p pair → IsNeeded xs n h v ls p pair
needed-shown xs n h v ticks ls p pair needed = λ some.
    let rooms = sum_below-le (room_beside_by xs (top xs n h) v p pair.room) (room_beside_by xs (shown_tops xs n h ticks) v p pair.room) p
    (λ f _. beside-falls (room_by xs (top xs n h) v p f) (room_by xs (shown_tops xs n h ticks) v p f) pair.room (is_open xs p f) (room-shown xs n h v p f ticks)) in
    let above = needed some in
    omega (arith, rooms, above)

pub groups-shown : (loads : List Load) (n : ℕ) (val : Option ℕ) (ps : Prefix) (pairs : List Pair) (ticks : ℕ → ℕ → ℕ) → GroupsShow loads n val ps pairs ticks → GroupsHold loads n val ps pairs
groups-shown loads n val ps pairs ticks shown =
    let h = lcm_of (periods_of loads) in
    let xs = items loads ps in
    let ls = unplaced loads ps in
    let all = shown.2 in (
      shown.0,
      shown.1,
      record {
        some = all.some;
        needed = zip-weaker (IsNeededBy xs (shown_tops xs n h ticks) shown.0 ls) (IsNeeded xs n h shown.0 ls) (needed-shown xs n h shown.0 ticks ls) (periods_in ls) pairs all.needed;
        above = all.above;
      },
    )

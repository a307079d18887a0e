-- Some tick of every legal plan has as many bytes as the mean of all ticks, in as many frames as these need.
-- A slot that carries something has one group at least, so 1486 bytes of units at most, and costs 52 bytes beside them (`moved-frames`,
-- `frames-cost`).
use Rattle.std.proofs.Common.{◌≡◌, ℕ, zero, suc, ◌+◌, ◌*◌, ◌/◌, ◌%◌, ◌<◌, ◌≤◌, ◌||◌, true, false, cond, List, [], ◌∷◌, map, sum_by, length, Some, refl, sym, ap, ◌∙◌, subst, arith, inl, inr}
use Rattle.std.specs.Prelude.{min, ◌↔◌}
use Rattle.std.specs.List.{list_any}
use Rattle.std.proofs.Math.Nat.{mul-le-mul_right}
use Rattle.std.proofs.lemmas.Grind.{div_ceil_times}
use Rattle.std.proofs.lemmas.Bool.{false≢true, or_cases, cases_Bool, cases_lt}
use Rattle.ec_hyper.specs.Lcm.{lcm_of}
use Rattle.ec_units.specs.declared.slave.Place.{Place}
use Rattle.ec_units.specs.declared.unit.Load.{Load}
use Rattle.ec_units.specs.Load.{periods_of}
use Rattle.ec_loads.specs.declared.item.Item.{Item}
use Rattle.ec_loads.specs.Cost.{plan_items, is_sent, group, carried, different, payload, sum_below, tick_cost}
use Rattle.ec_loads.specs.Held.{AreLoads, no_places}
use Rattle.ec_loads.specs.Legal.{IsLegal}
use Rattle.ec_loads.specs.Search.{demand, HasTick, HasNoPlan}
use Rattle.ec_bounds.specs.Left.{demand_of, all_of}
use Rattle.ec_bounds.specs.IsMeanTick.{IsMeanTick}
use Rattle.ec_bounds.specs.declared.mean.MeanTick.{MeanTick}
use Rattle.ec_bounds.proofs.SetLemmas.{Group, mem, different-subset}
use Rattle.ec_bounds.proofs.SubLemmas.{sum_below-le}
use Rattle.ec_bounds.proofs.AverageLemmas.{AreWhole-legal, bytes, head, heads, idle-carried, moved, sum_bytes, sum_moved, weight, raw_cost-parts, raw_cost-le, above_or_all, sum_below-bound}
use Rattle.ec_bounds.proofs.WeightLemmas.{sum_below-times}

-- so many rounded up are at most b exactly where b of them hold the total
pub ceil-least : (r h total : ℕ) → total ≤ r * h → r * h < total + h → (b : ℕ) → ((r ≤ b) ↔ (total ≤ b * h))
ceil-least r h total low high b = (
  λ most. let times : r * h ≤ b * h = mul-le-mul_right h most in omega (arith, times, low),
  λ enough. elim (cases_lt b r) [
    | inr most ↦ most
    | inl more ↦
        let times : (b + 1) * h ≤ r * h = mul-le-mul_right h (omega (arith, more)) in
        let step : (b + 1) * h ≡ b * h + h = grind arith in
        absurd (omega (arith, times, step, low, high, enough))
  ],
)

-- a quotient that is rounded up is so
pub rounded-up : (bytes q r h total : ℕ) → bytes ≡ total → q ≡ h → 0 < h → r ≡ bytes / q + min 1 (bytes % q) → (b : ℕ) → ((r ≤ b) ↔ (total ≤ b * h))
rounded-up bytes q r h total all each pos is b =
    let up : r ≡ total / h + min 1 (total % h) = is ∙ (λ i. all i / each i + min 1 (all i % each i)) in
    let times = div_ceil_times total h pos in
    ceil-least r h total (subst (λ w. total ≤ w * h) (sym up) times.0) (subst (λ w. w * h < total + h) (sym up) times.1) b

-- without places each load is left
pub demand-all : (loads : List Load) (h : ℕ) → demand_of loads (all_of loads) h ≡ demand loads (no_places loads) h
demand-all [] h = refl
demand-all (l ∷ ls) h = ap (λ w. l.bytes * (h / l.period) + w) (demand-all ls h)

some_group : (g : Group) (gs : List Group) → 1 ≤ different (g ∷ gs)
some_group g gs = different-subset (g ∷ []) (g ∷ gs) (λ a is.
    elim (or_cases _ _ is) [
      | inl here ↦ ap (λ b. b || mem a gs) here
      | inr none ↦ absurd (false≢true none)
    ])

busy-group : (xs : List Item) (t s : ℕ) → list_any (is_sent t s) xs ≡ true → 1 ≤ different (map group (carried xs t s))
busy-group [] t s h = absurd (false≢true h)
busy-group (x ∷ xs) t s h =
    elim (is_sent t s x) as (λ b. (b || list_any (is_sent t s) xs) ≡ true → 1 ≤ different (map group (cond b (x ∷ carried xs t s) (carried xs t s)))) [
      | true ↦ λ _. some_group (group x) (map group (carried xs t s))
      | false ↦ λ later. busy-group xs t s later
    ] h

-- how many frames a tick has
abbrev in_use : List Item → ℕ → ℕ → ℕ
in_use xs t s = cond (list_any (is_sent t s) xs) 1 0

abbrev frames : List Item → ℕ → ℕ → ℕ
frames xs n t = sum_below (in_use xs t) n

slot-bytes : (xs : List Item) (t s : ℕ) → payload xs t s ≤ 1498 → bytes xs t s ≤ 1486 * in_use xs t s
unfolding payload
slot-bytes xs t s fits =
    elim (cases_Bool (list_any (is_sent t s) xs)) [
      | inl busy ↦ let some = busy-group xs t s busy in rw busy (omega (arith, some, fits))
      | inr idle ↦
          let none : bytes xs t s ≡ 0 = ap (sum_by (λ x. x.bytes)) (idle-carried xs t s idle) in
          rw idle (omega (arith, none))
    ]

slot-head : (xs : List Item) (t s : ℕ) → 52 * in_use xs t s ≤ head xs t s
slot-head xs t s =
    elim (cases_Bool (list_any (is_sent t s) xs)) [
      | inl busy ↦ let some = busy-group xs t s busy in rw busy (omega (arith, some))
      | inr idle ↦ rw idle (omega arith)
    ]

-- what travels in a tick has room in its frames
moved-frames : (loads : List Load) (n : ℕ) (plan : List Place) → IsLegal loads n plan → (t : ℕ) → moved (plan_items loads plan) t ≤ frames (plan_items loads plan) n t * 1486
moved-frames loads n plan legal t =
    let xs = plan_items loads plan in
    let each = sum_below-le (bytes xs t) (λ s. 1486 * in_use xs t s) n (λ s below. slot-bytes xs t s (legal.fits t s below)) in
    let times = sum_below-times 1486 (in_use xs t) n in
    let all = sum_bytes xs n t legal.slots in
    omega (arith, each, times, all)

-- a tick costs what travels in it, and 52 bytes for each frame
frames-cost : (loads : List Load) (n : ℕ) (plan : List Place) → IsLegal loads n plan → (t : ℕ) → moved (plan_items loads plan) t + 52 * frames (plan_items loads plan) n t ≤ tick_cost (plan_items loads plan) n t
unfolding heads
frames-cost loads n plan legal t =
    let xs = plan_items loads plan in
    let each = sum_below-le (λ s. 52 * in_use xs t s) (head xs t) n (λ s _. slot-head xs t s) in
    let times = sum_below-times 52 (in_use xs t) n in
    let parts = raw_cost-parts xs n t legal.slots in
    let most = raw_cost-le xs n t in
    omega (arith, each, times, parts, most)

-- a plan sends what all its loads send
weight-all : (loads : List Load) (plan : List Place) (h : ℕ) → length plan ≡ length loads → weight (plan_items loads plan) h ≡ demand loads (no_places loads) h
weight-all [] plan h same = refl
weight-all (l ∷ ls) [] h same = absurd (omega (arith, same))
weight-all (l ∷ ls) (p ∷ ps) h same = ap (λ w. l.bytes * (h / l.period) + w) (weight-all ls ps h (omega (arith, same)))

-- in some tick as much travels as in the mean of all
mean-moved : (loads : List Load) (n d : ℕ) (plan : List Place) → AreLoads loads → IsLegal loads n plan
    → ((b : ℕ) → (d ≤ b) ↔ (demand loads (no_places loads) (lcm_of (periods_of loads)) ≤ b * lcm_of (periods_of loads))) → (t : ℕ) × (d ≤ moved (plan_items loads plan) t)
mean-moved loads n zero plan within legal least = (0, omega arith)
mean-moved loads n (suc b) plan within legal least =
    let h = lcm_of (periods_of loads) in
    let xs = plan_items loads plan in
    elim (above_or_all (moved xs) h b) [
      | inl found ↦ (found.0, omega (arith, found.1))
      | inr all ↦
          let most = sum_below-bound (moved xs) h b all in
          let sum = sum_moved xs n h (AreWhole-legal loads n plan within legal) ∙ weight-all loads plan h legal.whole in
          let low = (least b).1 (omega (arith, most, sum)) in
          absurd (omega (arith, low))
    ]

-- a tick has at most a frame in each slot
frames-slots : (xs : List Item) (n t : ℕ) → frames xs n t ≤ n
frames-slots xs zero t = omega arith
frames-slots xs (suc n) t =
    let rest = frames-slots xs n t in
    let one : in_use xs t n ≤ 1 = elim (list_any (is_sent t n) xs) as (λ b. cond b 1 0 ≤ 1) [ true ↦ omega arith | false ↦ omega arith ] in
    omega (arith, rest, one)

-- so many frames as the mean tick has are in some tick
mean-frames : (loads : List Load) (n : ℕ) (m : MeanTick) → AreLoads loads → IsMeanTick loads m → (plan : List Place) → IsLegal loads n plan
    → (t : ℕ) × (m.bytes ≤ moved (plan_items loads plan) t) × (m.frames ≤ frames (plan_items loads plan) n t)
mean-frames loads n m within mean plan legal =
    let (t, bytes) = mean-moved loads n m.bytes plan within legal mean.bytes in
    let room = moved-frames loads n plan legal t in
    (t, bytes, (mean.frames (frames (plan_items loads plan) n t)).1 (omega (arith, bytes, room)))

-- so where it has more than there are slots, no plan is legal
pub mean-none : (loads : List Load) (n : ℕ) (m : MeanTick) → AreLoads loads → IsMeanTick loads m → n < m.frames → HasNoPlan loads n
mean-none loads n m within mean more plan legal =
    let (t, _, count) = mean-frames loads n m within mean plan legal in
    let most = frames-slots (plan_items loads plan) n t in
    absurd (omega (arith, more, count, most))

-- and some tick costs as much as the mean tick
pub mean-bounds : (loads : List Load) (n : ℕ) (m : MeanTick) → AreLoads loads → IsMeanTick loads m → (plan : List Place) → IsLegal loads n plan → HasTick loads n (Some m.cost) plan
mean-bounds loads n m within mean plan legal =
    let (t, bytes, count) = mean-frames loads n m within mean plan legal in
    let cost = frames-cost loads n plan legal t in
    (m.cost, refl, t, omega (arith, mean.cost, bytes, count, cost))

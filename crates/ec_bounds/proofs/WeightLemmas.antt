-- Weighted sums over a hyperperiod, and what weights that hold show of the plans that extend a prefix.
-- A loop that steps by a period keeps `turn : tick % period ≡ phase` and the sum below `tick`; `weight-none`,
-- `weight-more` and `weight-end` are its three steps.
use Rattle.std.proofs.Common.{◌≡◌, ℕ, zero, suc, ◌+◌, ◌-◌, ◌*◌, ◌%◌, ◌<◌, ◌≤◌, ◌==◌, cond, min, Bool, true, false, is_none, List, [], ◌∷◌, map, length, get_or, All, Option, Some, None, refl, sym, ap, ◌∙◌, subst, arith, inl, inr, mul_comm, mul-add, suc-mul, mul-zero, mul-le-mul_left, add-one, add-zero, drop, drop-cons, replicate, mod-eq_of_lt}
use Rattle.std.specs.Prelude.{IsTrue, nat_lt, ◌↔◌}
use Rattle.std.proofs.lemmas.Bool.{cases_eq, eq-eqb, ne_eqb}
use Rattle.std.proofs.lemmas.List.{get_or_past}
use Rattle.std.proofs.lemmas.List.Elements.{All-head, All-tail}
use Rattle.std.proofs.Math.Nat.{mul-le-mul_right}
use Rattle.ec_hyper.specs.Lcm.{lcm_of}
use Rattle.ec_units.specs.declared.slave.Place.{Place}
use Rattle.ec_units.specs.declared.unit.Load.{Load}
use Rattle.ec_units.specs.Load.{periods_of}
use Rattle.ec_loads.specs.Cost.{items, plan_items, sum_below, tick_cost, raw_cost}
use Rattle.ec_loads.specs.Legal.{IsLegal}
use Rattle.ec_loads.specs.Search.{Prefix, Extends, free, same, HasTick, IsAtMost}
use Rattle.ec_loads.specs.Weights.{weight_of, total_weight, weight_at, least_below, least_weight, weighted_raw, weighted_demand, WeightsHold}
use Rattle.ec_loads.proofs.CellLemmas.{one_remainder}
use Rattle.ec_bounds.specs.Left.{weighted_left, AreLeast}
use Rattle.ec_bounds.proofs.SubLemmas.{Sub-items, All-Sub, sum_below-le, below_some}
use Rattle.ec_bounds.proofs.AverageLemmas.{sum_below-add, sum_below-agree, sum_below-none, sum_below-split, sends, moved, heads-Sub, raw_cost-parts, raw_cost-le, above_or_all}
use Rattle.ec_bounds.proofs.LeftLemmas.{some_same, below_from, below_to}

-- sums
pub sum_below-times : (b : ℕ) (f : ℕ → ℕ) (n : ℕ) → sum_below (λ k. b * f k) n ≡ b * sum_below f n
sum_below-times b f zero = sym (mul-zero b)
sum_below-times b f (suc n) = grind (arith, sum_below-times b f n)

pub sum_below-scaled : (f : ℕ → ℕ) (b n : ℕ) → sum_below (λ k. f k * b) n ≡ sum_below f n * b
sum_below-scaled f b n = sum_below-agree (λ k. f k * b) (λ k. b * f k) n (λ k _. mul_comm (f k) b) ∙ sum_below-times b f n ∙ mul_comm b (sum_below f n)

-- the least of f is at most each of its values
pub least-le : (f : ℕ → ℕ) (n k : ℕ) → k < n → least_below f n ≤ f k
least-le f zero k h = absurd (omega arith)
least-le f (suc zero) k h = let is : k ≡ 0 = omega arith in subst (λ w. f 0 ≤ f w) (sym is) (omega arith)
least-le f (suc (suc n)) k h =
    elim (cases_eq k (suc n)) [
      | inl is ↦ let at : f k ≡ f (suc n) = ap f is in omega (arith, at)
      | inr apart ↦ let rest = least-le f (suc n) k (omega arith) in omega (arith, rest)
    ]

-- what one unit sends, each tick by its weight
one-weighted : (w : List ℕ) (h b p f : ℕ) → sum_below (λ t. weight_of w t * sends b p f t) h ≡ b * weight_at w h p f
one-weighted w h b p f =
    sum_below-agree (λ t. weight_of w t * sends b p f t) (λ t. b * cond (t % p == f) (weight_of w t) 0) h
    (λ t _. elim (t % p == f) as (λ c. weight_of w t * cond c b 0 ≡ b * cond c (weight_of w t) 0) [
      | true ↦ mul_comm (weight_of w t) b
      | false ↦ mul-zero (weight_of w t) ∙ sym (mul-zero b)
    ])
    ∙ sum_below-times b (λ t. cond (t % p == f) (weight_of w t) 0) h

-- the bytes that the plan's other units send in a tick
abbrev more_moved : List Load → Prefix → List Place → ℕ → ℕ
more_moved [] ps plan t = 0
more_moved (l ∷ ls) [] plan t = 0
more_moved (l ∷ ls) (p ∷ ps) [] t = 0
more_moved (l ∷ ls) (None ∷ ps) (q ∷ plan) t = sends l.bytes l.period q.phase t + more_moved ls ps plan t
more_moved (l ∷ ls) (Some p ∷ ps) (q ∷ plan) t = more_moved ls ps plan t

moved-extends : (ls : List Load) (ps : Prefix) (plan : List Place) (t : ℕ) → Extends ps (map Some plan) → moved (plan_items ls plan) t ≡ moved (items ls ps) t + more_moved ls ps plan t
moved-extends [] ps plan t e = refl
moved-extends (l ∷ ls) [] [] t e = refl
moved-extends (l ∷ ls) [] (q ∷ qs) t e = elim e [ ]
moved-extends (l ∷ ls) (None ∷ ps) [] t e = elim e [ ]
moved-extends (l ∷ ls) (Some p ∷ ps) [] t e = elim e [ ]
moved-extends (l ∷ ls) (None ∷ ps) (q ∷ qs) t (free e) = let rest = moved-extends ls ps qs t e in omega (arith, rest)
moved-extends (l ∷ ls) (Some p ∷ ps) (q ∷ qs) t (same e) = let rest = moved-extends ls ps qs t e in omega (arith, rest)

-- weighted, they are at least the demand
more-weighted : (ls : List Load) (ps : Prefix) (plan : List Place) (w : List ℕ) (h : ℕ) → Extends ps (map Some plan) → All (λ x. x.phase < x.period) (plan_items ls plan) → weighted_demand ls ps w h ≤ sum_below (λ t. weight_of w t * more_moved ls ps plan t) h
more-weighted [] ps plan w h e all = omega arith
more-weighted (l ∷ ls) [] plan w h e all = omega arith
more-weighted (l ∷ ls) (None ∷ ps) [] w h e all = elim e [ ]
more-weighted (l ∷ ls) (Some p ∷ ps) [] w h e all = elim e [ ]
more-weighted (l ∷ ls) (None ∷ ps) (q ∷ qs) w h (free e) all =
    let phase = All-head (λ x. x.phase < x.period) _ (plan_items ls qs) all in
    let rest = more-weighted ls ps qs w h e (All-tail (λ x. x.phase < x.period) _ (plan_items ls qs) all) in
    let one = one-weighted w h l.bytes l.period q.phase in
    let least = mul-le-mul_left l.bytes (least-le (weight_at w h l.period) l.period q.phase phase) in
    let parts : sum_below (λ t. weight_of w t * more_moved (l ∷ ls) (None ∷ ps) (q ∷ qs) t) h ≡ sum_below (λ t. weight_of w t * sends l.bytes l.period q.phase t) h + sum_below (λ t. weight_of w t * more_moved ls ps qs t) h =
    sum_below-agree (λ t. weight_of w t * more_moved (l ∷ ls) (None ∷ ps) (q ∷ qs) t) (λ t. weight_of w t * sends l.bytes l.period q.phase t + weight_of w t * more_moved ls ps qs t) h (λ t _. mul-add (weight_of w t) (sends l.bytes l.period q.phase t) (more_moved ls ps qs t))
    ∙ sum_below-add (λ t. weight_of w t * sends l.bytes l.period q.phase t) (λ t. weight_of w t * more_moved ls ps qs t) h in
    omega (arith, rest, one, least, parts)
more-weighted (l ∷ ls) (Some p ∷ ps) (q ∷ qs) w h (same e) all =
    more-weighted ls ps qs w h e (All-tail (λ x. x.phase < x.period) _ (plan_items ls qs) all)

-- what a legal plan sends in a tick is at least what the prefix sends there, and its other units
raw-extends : (ls : List Load) (n t : ℕ) (ps : Prefix) (plan : List Place) → Extends ps (map Some plan) → All (λ x. x.slot < n) (plan_items ls plan) → raw_cost (items ls ps) n t + more_moved ls ps plan t ≤ raw_cost (plan_items ls plan) n t
raw-extends ls n t ps plan e all =
    let r = Sub-items ls e in
    let first = raw_cost-parts (items ls ps) n t (All-Sub (λ x. x.slot < n) r all) in
    let second = raw_cost-parts (plan_items ls plan) n t all in
    let c = heads-Sub (items ls ps) (plan_items ls plan) n t r in
    let d = moved-extends ls ps plan t e in
    omega (arith, first, second, c, d)

-- where no tick costs more than b, the weighted sum isn't more than b in each tick
weighted-most : (loads : List Load) (n b : ℕ) (ps : Prefix) (plan : List Place) (w : List ℕ) (h : ℕ) → Extends ps (map Some plan) → IsLegal loads n plan → ((t : ℕ) → t < h → tick_cost (plan_items loads plan) n t ≤ b)
    → weighted_raw loads n ps w h + weighted_demand loads ps w h ≤ b * total_weight w h
weighted-most loads n b ps plan w h e legal all =
    let demand = more-weighted loads ps plan w h e legal.phases in
    let parts : sum_below (λ t. weight_of w t * (raw_cost (items loads ps) n t + more_moved loads ps plan t)) h ≡ weighted_raw loads n ps w h + sum_below (λ t. weight_of w t * more_moved loads ps plan t) h =
    sum_below-agree (λ t. weight_of w t * (raw_cost (items loads ps) n t + more_moved loads ps plan t)) (λ t. weight_of w t * raw_cost (items loads ps) n t + weight_of w t * more_moved loads ps plan t) h (λ t _. mul-add (weight_of w t) (raw_cost (items loads ps) n t) (more_moved loads ps plan t))
    ∙ sum_below-add (λ t. weight_of w t * raw_cost (items loads ps) n t) (λ t. weight_of w t * more_moved loads ps plan t) h in
    let most = sum_below-le (λ t. weight_of w t * (raw_cost (items loads ps) n t + more_moved loads ps plan t)) (λ t. weight_of w t * b) h
    (λ t low. mul-le-mul_left (weight_of w t) (let a = raw-extends loads n t ps plan e legal.slots in let c = raw_cost-le (plan_items loads plan) n t in let d = all t low in omega (arith, a, c, d))) in
    let whole = sum_below-scaled (weight_of w) b h in
    omega (arith, demand, parts, most, whole, mul_comm (total_weight w h) b)

weights-at : (b : ℕ) (loads : List Load) (n : ℕ) (v : Option ℕ) (ps : Prefix) (w : List ℕ) (plan : List Place) → Extends ps (map Some plan) → IsLegal loads n plan → v ≡ Some b
    → b * total_weight w (lcm_of (periods_of loads)) < weighted_raw loads n ps w (lcm_of (periods_of loads)) + weighted_demand loads ps w (lcm_of (periods_of loads)) + total_weight w (lcm_of (periods_of loads)) → HasTick loads n v plan
weights-at zero loads n v ps w plan e legal is above = (0, is, 0, omega arith)
weights-at (suc b) loads n v ps w plan e legal is above =
    let h = lcm_of (periods_of loads) in
    elim (above_or_all (tick_cost (plan_items loads plan) n) h b) [
      | inl found ↦ (suc b, is, found.0, omega (arith, found.1))
      | inr all ↦
          let most = weighted-most loads n b ps plan w h e legal all in
          absurd (omega (arith, most, above, suc-mul b (total_weight w h)))
    ]

-- weights that hold bound every legal plan that extends the prefix
pub weights-bound : (loads : List Load) (n : ℕ) (v : Option ℕ) (ps : Prefix) (w : List ℕ) (plan : List Place) → Extends ps (map Some plan) → IsLegal loads n plan → WeightsHold loads n v ps w → HasTick loads n v plan
weights-bound loads n v ps w plan e legal h = weights-at h.0 loads n v ps w plan e legal h.1 h.4

-- and hold at each smaller value
pub weights-fall : (loads : List Load) (n : ℕ) (v below : Option ℕ) (ps : Prefix) (w : List ℕ) → IsAtMost below v → WeightsHold loads n v ps w → WeightsHold loads n below ps w
weights-fall loads n v below ps w low h =
    let (a, at, less) = below_some v below h.0 h.1 low in
    let times = mul-le-mul_right (total_weight w (lcm_of (periods_of loads))) less in
    (a, at, h.2, h.3, omega (arith, times, h.4))

-- the weights of no tick before the phase count
pub weight-none : (w : List ℕ) (p f : ℕ) → f < p → weight_at w f p f ≡ 0
weight-none w p f h =
    sum_below-none (λ t. cond (t % p == f) (weight_of w t) 0) f
    (λ k low. ap (λ c. cond c (weight_of w k) 0) (ne_eqb (k % p) f (λ e. let at : k % p ≡ k = mod-eq_of_lt (let less : k < p = omega arith in less) in omega (arith, e, at))))

-- a sum with its first term alone
sum_below-first : (f : ℕ → ℕ) (n : ℕ) → ((k : ℕ) → 0 < k → k < suc n → f k ≡ 0) → sum_below f (suc n) ≡ f 0
sum_below-first f zero h = omega arith
sum_below-first f (suc n) h =
    let rest = sum_below-first f n (λ k some low. h k some (omega arith)) in
    let last = h (suc n) (omega arith) (omega arith) in
    omega (arith, rest, last)

-- in a period from a tick in which it travels on, it travels in that tick alone
one-period : (w : List ℕ) (p f t m : ℕ) → p ≡ suc m → t % p ≡ f → sum_below (λ j. cond ((t + j) % p == f) (weight_of w (t + j)) 0) p ≡ weight_of w t
one-period w p f t m size turn =
    let one : ℕ → ℕ = λ j. cond ((t + j) % p == f) (weight_of w (t + j)) 0 in
    ap (sum_below one) size
    ∙ sum_below-first one m (λ k some low. ap (λ c. cond c (weight_of w (t + k)) 0) (ne_eqb ((t + k) % p) f (λ e.
    let is : t ≡ t + k = one_remainder p t (t + k) (turn ∙ sym e) (omega arith) (omega arith) in omega (arith, is, some))))
    ∙ ap (λ k. cond (k % p == f) (weight_of w k) 0) (add-zero t)
    ∙ ap (λ c. cond c (weight_of w t) 0) (eq-eqb (t % p) f turn)

pub weight-more : (w : List ℕ) (p f t : ℕ) → f < p → t % p ≡ f → weight_at w (t + p) p f ≡ weight_at w t p f + weight_of w t
weight-more w p f t h turn =
    sum_below-split (λ k. cond (k % p == f) (weight_of w k) 0) t p
    ∙ ap (λ r. weight_at w t p f + r) (one-period w p f t (p - 1) (omega arith) turn)

-- beyond the list no weight counts
pub weight-end : (w : List ℕ) (p f t : ℕ) → length w ≤ t → weight_at w t p f ≡ weight_at w (length w) p f
weight-end w p f t h =
    let n = length w in
    let d = t - n in
    let whole : t ≡ n + d = omega arith in
    let one : ℕ → ℕ = λ k. cond (k % p == f) (weight_of w k) 0 in
    let none : sum_below (λ j. one (n + j)) d ≡ 0 = sum_below-none (λ j. one (n + j)) d (λ k _. elim ((n + k) % p == f) as (λ c. cond c (weight_of w (n + k)) 0 ≡ 0) [
      | true ↦ get_or_past w (n + k) 0 (omega arith)
      | false ↦ refl
    ]) in
    ap (sum_below one) whole ∙ sum_below-split one n d ∙ ap (λ r. sum_below one n + r) none ∙ add-zero (sum_below one n)

-- one phase more
pub least-more : (f : ℕ → ℕ) (k : ℕ) → 1 ≤ k → least_below f (k + 1) ≡ min (least_below f k) (f k)
least-more f zero h = absurd (omega arith)
least-more f (suc n) h = rw add-one refl

none_there : (n p : ℕ) → get_or (replicate {A = Option ℕ} n None) p None ≡ None
none_there zero p = refl
none_there (suc n) zero = refl
none_there (suc n) (suc p) = none_there n p

-- where nothing is known, all that is known is so
pub none_known : (w : List ℕ) (n : ℕ) → AreLeast w (replicate n None)
none_known w n p v is = let no : None ≡ Some v = sym (none_there n p) ∙ is in absurd cc

-- the least weight of a period that is written otherwise
pub weight-of : (w : List ℕ) (h a p r : ℕ) → r ≡ least_weight w h a → a ≡ p → r ≡ least_weight w h p
weight-of w h a p r is eq = is ∙ ap (least_weight w h) eq

-- one unit more
pub weighted_left-at : (ls : List Load) (bs : List Bool) (w : List ℕ) (h i : ℕ) (d : Load) (e : Bool) → i < length ls → i < length bs
    → weighted_left (drop i ls) (drop i bs) w h ≡ cond (get_or bs i e) ((get_or ls i d).bytes * least_weight w h (get_or ls i d).period) 0 + weighted_left (drop (i + 1) ls) (drop (i + 1) bs) w h
weighted_left-at ls bs w h i d e k l = rw (add-one, drop-cons ls i d k, drop-cons bs i e l) refl

-- it is the demand of the prefix that has the other places
pub weighted-flags : (ls : List Load) (ps : Prefix) (w : List ℕ) (h : ℕ) → weighted_left ls (map (λ p. is_none p) ps) w h ≡ weighted_demand ls ps w h
weighted-flags [] ps w h = refl
weighted-flags (l ∷ ls) [] w h = refl
weighted-flags (l ∷ ls) (None ∷ ps) w h = ap (λ r. l.bytes * least_weight w h l.period + r) (weighted-flags ls ps w h)
weighted-flags (l ∷ ls) (Some p ∷ ps) w h = omega (arith, weighted-flags ls ps w h)

-- the test of the weights
pub weights-iff : (loads : List Load) (n : ℕ) (val : Option ℕ) (ps : Prefix) (w : List ℕ) (h v a b x y : ℕ) → h ≡ lcm_of (periods_of loads) → length w ≡ h → 0 < total_weight w h → val ≡ Some v → a ≡ v → b ≡ total_weight w h
    → x ≡ weighted_raw loads n ps w h + weighted_demand loads ps w h → y ≡ total_weight w h → (IsTrue (nat_lt (a * b) (x + y)) ↔ WeightsHold loads n val ps w)
weights-iff loads n val ps w h v a b x y hyper size some is av bt xe ye =
    let product : a * b ≡ v * total_weight w h = λ i. av i * bt i in (
      λ t.
          let low = below_from (a * b) (x + y) t in
          let below : v * total_weight w h < weighted_raw loads n ps w h + weighted_demand loads ps w h + total_weight w h = omega (arith, low, product, xe, ye) in
          subst (λ k. (c : ℕ) × (val ≡ Some c) × (length w ≡ k) × (0 < total_weight w k) × (c * total_weight w k < weighted_raw loads n ps w k + weighted_demand loads ps w k + total_weight w k)) hyper
          (v, is, size, some, below),
      λ found.
          let at = subst (λ k. (c : ℕ) × (val ≡ Some c) × (length w ≡ k) × (0 < total_weight w k) × (c * total_weight w k < weighted_raw loads n ps w k + weighted_demand loads ps w k + total_weight w k)) (sym hyper) found in
          let same : at.0 ≡ v = some_same (sym at.1 ∙ is) in
          let times : at.0 * total_weight w h ≡ v * total_weight w h = ap (λ k. k * total_weight w h) same in
          below_to (a * b) (x + y) (omega (arith, at.4, times, product, xe, ye)),
    )

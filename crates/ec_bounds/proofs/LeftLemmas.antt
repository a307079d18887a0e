-- Which units are left, and what they send.
use Rattle.std.proofs.Common.{◌≡◌, ℕ, ◌+◌, ◌*◌, ◌/◌, ◌%◌, ◌<◌, ◌≤◌, Bool, true, cond, is_none, List, [], ◌∷◌, map, length, take, drop, set, get_or, replicate, Option, Some, None, refl, sym, ap, subst, ◌∙◌, arith, add-one, drop-cons, take_all, length-take, inl, inr}
use Rattle.std.specs.Prelude.{IsTrue, nat_lt, min, ◌↔◌}
use Rattle.std.proofs.Math.Nat.{mul-le-mul_right}
use Rattle.std.proofs.lemmas.Bool.{cases_lt}
use Rattle.std.proofs.lemmas.Bool.Decides.{nat_tests}
use Rattle.std.proofs.lemmas.Grind.{div_ceil_times}
use Rattle.std.proofs.Math.Seq.{take-set-lt}
use Rattle.std.proofs.lemmas.List.{take-replicate}
use Rattle.ec_units.specs.declared.unit.Load.{Load}
use Rattle.ec_units.specs.declared.unit.Unit.{Unit as SyncUnit}
use Rattle.ec_units.specs.Load.{loads_of, periods_of}
use Rattle.std.proofs.lemmas.Nat.{mod_below}
use Rattle.ec_hyper.specs.Lcm.{lcm_of}
use Rattle.ec_loads.specs.Cost.{items, tick_cost}
use Rattle.ec_loads.specs.Held.{AreLoads}
use Rattle.ec_loads.specs.Search.{Prefix, demand, TickHolds}
use Rattle.ec_loads.proofs.CostLemmas.{tick_cost-mod}
use Rattle.ec_loads.proofs.ItemLemmas.{DivideAll-loads}
use Rattle.ec_bounds.specs.Left.{Left, demand_of, all_of}

abbrev pub left : List Load → List Bool → Left
left ls bs = record { loads = ls; unplaced = bs }

-- a flag is set
pub flags-set : (table : List Load) (flags : List Bool) (n u : ℕ) (b : Bool) (ls : List Load) (bs : List Bool) → take n table ≡ ls → take n flags ≡ bs → u < length bs
    → left (take n table) (take n (set flags u b)) ≡ left ls (set bs u b)
flags-set table flags n u b ls bs loads is within =
    let size : length (take n flags) ≡ length bs = ap length is in
    let least = length-take n flags in
    let low : u < n = omega arith in
    let flag : take n (set flags u b) ≡ set bs u b = take-set-lt n flags u b low ∙ ap (λ w. set w u b) is in
    (λ i. left (loads i) (flag i))

replicate-true : (ls : List Load) → replicate (length ls) true ≡ all_of ls
replicate-true [] = refl
replicate-true (l ∷ ls) = ap (λ w. true ∷ w) (replicate-true ls)

-- none is placed
pub all-unplaced : (ls : List Load) (n : ℕ) → length ls ≡ n → n ≤ 48 → take n (replicate 48 true) ≡ all_of ls
all-unplaced ls n is few = take-replicate n 48 true few ∙ ap (λ w. replicate w true) (sym is) ∙ replicate-true ls

-- one load more
pub demand_of-at : (ls : List Load) (bs : List Bool) (h i : ℕ) (d : Load) (e : Bool) → i < length ls → i < length bs → demand_of (drop i ls) (drop i bs) h ≡ cond (get_or bs i e) ((get_or ls i d).bytes * (h / (get_or ls i d).period)) 0 + demand_of (drop (i + 1) ls) (drop (i + 1) bs) h
demand_of-at ls bs h i d e k l = rw (add-one, drop-cons ls i d k, drop-cons bs i e l) refl

-- it is the demand of the prefix that has the other places
pub demand-flags : (ls : List Load) (ps : Prefix) (h : ℕ) → demand_of ls (map (λ p. is_none p) ps) h ≡ demand ls ps h
demand-flags [] ps h = refl
demand-flags (l ∷ ls) [] h = refl
demand-flags (l ∷ ls) (None ∷ ps) h = ap (λ w. l.bytes * (h / l.period) + w) (demand-flags ls ps h)
demand-flags (l ∷ ls) (Some p ∷ ps) h = omega (arith, demand-flags ls ps h)

pub some_same : {a b : ℕ} → Some a ≡ Some b → a ≡ b
some_same e = cc

pub below_from : (a b : ℕ) → IsTrue (nat_lt a b) → a < b
below_from a b h = grind (arith, nat_tests)

pub below_to : (a b : ℕ) → a < b → IsTrue (nat_lt a b)
below_to a b h = grind (arith, nat_tests)

-- the test of the average
pub average-iff : (val : Option ℕ) (v p q x h total : ℕ) → val ≡ Some v → p ≡ v → q ≡ h → x ≡ total + h → (IsTrue (nat_lt (p * q) x) ↔ ((b : ℕ) × (val ≡ Some b) × (b * h < total + h)))
average-iff val v p q x h total is pv qh xt = (
  λ t. (v, is, subst (λ (w : ℕ). w < total + h) (λ i. pv i * qh i) (subst (λ (w : ℕ). p * q < w) xt (below_from (p * q) x t))),
  λ (found : (b : ℕ) × (val ≡ Some b) × (b * h < total + h)).
      let same : found.0 ≡ v = some_same (sym found.1 ∙ is) in
      below_to (p * q) x (subst (λ (w : ℕ). p * q < w) (sym xt) (subst (λ (w : ℕ). w < total + h) (sym (λ i. pv i * qh i)) (subst (λ (w : ℕ). w * h < total + h) same found.2))),
)

-- a product with h that is below the total and h has a factor of at most r, where r of them hold the total
not_above : (b r h total : ℕ) → total ≤ r * h → b * h < total + h → b ≤ r
not_above b r h total low below = elim (cases_lt r b) [
  | inr most ↦ most
  | inl more ↦
      let times : (r + 1) * h ≤ b * h = mul-le-mul_right h (omega (arith, more)) in
      let step : (r + 1) * h ≡ r * h + h = grind arith in
      absurd (omega (arith, times, step, low, below))
]

-- the values at which the average holds, where r of them for each tick hold the bytes and fewer don't
pub average-most : (b r h total : ℕ) → total ≤ r * h → r * h < total + h → ((b ≤ r) ↔ ((a : ℕ) × (Some b ≡ Some a) × (a * h < total + h)))
average-most b r h total low high = (
  λ most. let times : b * h ≤ r * h = mul-le-mul_right h most in (b, refl, omega (arith, times, high)),
  λ (found : (a : ℕ) × (Some b ≡ Some a) × (a * h < total + h)).
      let same : b ≡ found.0 = some_same found.1 in
      let below : b * h < total + h = subst (λ w. w * h < total + h) (sym same) found.2 in
      not_above b r h total low below,
)

-- so many rounded up
pub ceil-most : (b bytes q r h total : ℕ) → bytes ≡ total → q ≡ h → 0 < h → r ≡ bytes / q + min 1 (bytes % q) → ((b ≤ r) ↔ ((a : ℕ) × (Some b ≡ Some a) × (a * h < total + h)))
ceil-most b bytes q r h total all each pos is =
    let up : r ≡ total / h + min 1 (total % h) = is ∙ (λ i. all i / each i + min 1 (all i % each i)) in
    let times = div_ceil_times total h pos in
    average-most b r h total (subst (λ w. total ≤ w * h) (sym up) times.0) (subst (λ w. w * h < total + h) (sym up) times.1)

-- what the loop over all units made
pub table-done : (all us : List SyncUnit) (xs : List Load) (i : ℕ) → all ≡ us → length all ≤ i → i ≤ length all → take i xs ≡ loads_of (take i all) → take (length all) xs ≡ loads_of us
table-done all us xs i is h k so_far =
    let at : i ≡ length all = omega arith in
    ap (λ w. take w xs) (sym at) ∙ so_far ∙ ap loads_of (take_all i all h ∙ is)

-- a tick at which the cost is below the value doesn't hold
pub none-holds : (loads : List Load) (n h v : ℕ) (val : Option ℕ) (ps : Prefix) → AreLoads loads → h ≡ lcm_of (periods_of loads) → 0 < h → val ≡ Some v → ((i : ℕ) → i < h → tick_cost (items loads ps) n i < v) → (t : ℕ) → TickHolds loads n val ps t → ⊥
none-holds loads n h v val ps within is pos some below t holds =
    let same : holds.0 ≡ v = some_same (sym holds.1 ∙ some) in
    let turned = tick_cost-mod (items loads ps) n h t (DivideAll-loads loads ps h within is) in
    let less = below (t % h) (mod_below t h pos) in
    omega (arith, holds.2)

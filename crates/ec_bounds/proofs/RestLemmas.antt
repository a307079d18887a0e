-- The running sum of what the units without a place send.
-- `Rest` is two arrays and a count; its view is `take count` of both. A flag is set by `take-set-lt`.
use Rattle.std.proofs.Common.{◌≡◌, ℕ, zero, suc, ◌+◌, ◌*◌, ◌/◌, ◌<◌, ◌≤◌, Bool, true, false, cond, List, [], ◌∷◌, ◌++◌, length, take, set, get_or, get_or-set_other, get_or-set_same, replicate, sym, ap, ◌∙◌, arith, inl, inr, not-suc-le-zero, le_of_suc-le-suc, mul-le-mul_left, length-take}
use Rattle.std.proofs.Math.Nat.{div-le_self}
use Rattle.std.proofs.lemmas.Bool.Decides.{eqb_tells}
use Rattle.std.proofs.lemmas.List.{take_more_set, get_or-take}
use Rattle.std.proofs.Math.Seq.{take-set-lt}
use Rattle.std.proofs.lemmas.List.Elements.{All-head, All-tail}
use Rattle.ec_units.specs.declared.unit.Load.{Load}
use Rattle.ec_loads.specs.Held.{AreLoads}
use Rattle.ec_loads.specs.Search.{nobody}
use Rattle.ec_bounds.specs.Left.{demand_of, all_of, product, AreSent}
use Rattle.ec_bounds.proofs.LeftLemmas.{all-unplaced}

-- a flag is written
pub demand-set : (ls : List Load) (bs : List Bool) (h u : ℕ) (b : Bool) → u < length ls → u < length bs →
    demand_of ls (set bs u b) h + cond (get_or bs u false) (product h (get_or ls u nobody)) 0 ≡ demand_of ls bs h + cond b (product h (get_or ls u nobody)) 0
demand-set [] bs h u b k m = absurd (not-suc-le-zero k)
demand-set (l ∷ ls) [] h u b k m = absurd (not-suc-le-zero m)
demand-set (l ∷ ls) (x ∷ bs) h zero b k m = omega arith
demand-set (l ∷ ls) (x ∷ bs) h (suc u) b k m =
    let rest = demand-set ls bs h u b (le_of_suc-le-suc k) (le_of_suc-le-suc m) in
    omega (arith, rest)

-- a unit gets its place
pub demand-less : (ls : List Load) (bs : List Bool) (h u : ℕ) → u < length ls → u < length bs → get_or bs u false ≡ true →
    demand_of ls (set bs u false) h + product h (get_or ls u nobody) ≡ demand_of ls bs h
demand-less ls bs h u k m on =
    let step = demand-set ls bs h u false k m in
    let was = ap (λ b. cond b (product h (get_or ls u nobody)) 0) on in
    omega (arith, step, was)

-- and loses it
pub demand-more : (ls : List Load) (bs : List Bool) (h u : ℕ) → u < length ls → u < length bs → get_or bs u false ≡ false →
    demand_of ls (set bs u true) h ≡ demand_of ls bs h + product h (get_or ls u nobody)
demand-more ls bs h u k m off =
    let step = demand-set ls bs h u true k m in
    let was = ap (λ b. cond b (product h (get_or ls u nobody)) 0) off in
    omega (arith, step, was)

product-limit : (h : ℕ) (l : Load) → l.bytes ≤ 1486 → h ≤ 1024 → product h l ≤ 1521664
product-limit h l small short =
    let low = div-le_self h l.period in
    let few : h / l.period ≤ 1024 = omega (arith, low, short) in
    let most = mul-le-mul_left l.bytes few in
    omega (arith, most, small)

pub demand-limit : (ls : List Load) (bs : List Bool) (h : ℕ) → AreLoads ls → h ≤ 1024 → demand_of ls bs h ≤ 1521664 * length ls
demand-limit [] bs h all short = omega arith
demand-limit (l ∷ ls) [] h all short = omega arith
demand-limit (l ∷ ls) (true ∷ bs) h all short =
    let rest = demand-limit ls bs h (All-tail (λ x. (1 ≤ x.period) × (x.period ≤ 60) × (x.bytes ≤ 1486)) l ls all) short in
    let one = product-limit h l (All-head (λ x. (1 ≤ x.period) × (x.period ≤ 60) × (x.bytes ≤ 1486)) l ls all).2 short in
    omega (arith, rest, one)
demand-limit (l ∷ ls) (false ∷ bs) h all short =
    let rest = demand-limit ls bs h (All-tail (λ x. (1 ≤ x.period) × (x.period ≤ 60) × (x.bytes ≤ 1486)) l ls all) short in
    omega (arith, rest)

-- one unit more, none with a place
demand-append : (ls : List Load) (l : Load) (h : ℕ) → demand_of (ls ++ l ∷ []) (all_of (ls ++ l ∷ [])) h ≡ demand_of ls (all_of ls) h + product h l
demand-append [] l h = omega arith
demand-append (x ∷ ls) l h = let rest = demand-append ls l h in omega (arith, rest)

pub demand_step : (xs : List Load) (i h b : ℕ) (l : Load) (total : ℕ) → i < length xs → b ≡ product h l → total ≡ demand_of (take i xs) (all_of (take i xs)) h →
    total + b ≡ demand_of (take (i + 1) (set xs i l)) (all_of (take (i + 1) (set xs i l))) h
demand_step xs i h b l total room is so_far =
    let more = demand-append (take i xs) l h in
    let e = ap (λ w. demand_of w (all_of w) h) (take_more_set xs i l room) in
    omega (arith, so_far, is, more, e)

-- one product more
pub sent_step : (h i b : ℕ) (xs : List Load) (sent : List ℕ) (l : Load) → i < length xs → i < length sent → b ≡ product h l → AreSent h i xs sent → AreSent h (i + 1) (set xs i l) (set sent i b)
sent_step h i b xs sent l room space is so_far = λ k below.
    elim (eqb_tells k i) [
      | inl w ↦
          ap (λ z. get_or (set sent i b) z 0) w.1 ∙ get_or-set_same sent i b 0 space ∙ is
          ∙ ap (product h) (sym (get_or-set_same xs i l nobody room)) ∙ ap (λ z. product h (get_or (set xs i l) z nobody)) (sym w.1)
      | inr w ↦
          get_or-set_other sent i k b 0 w.1 ∙ so_far k (let n = w.1 in omega (arith, below, n)) ∙ ap (product h) (sym (get_or-set_other xs i k l nobody w.1))
    ]

-- the running sum, where a unit gets its place
pub rest-less : (h n u : ℕ) (table : List Load) (flags : List Bool) (sent : List ℕ) (total : ℕ) → AreSent h n table sent → total ≡ demand_of (take n table) (take n flags) h →
    n ≤ length table → n ≤ length flags → u < n → get_or flags u false ≡ true → demand_of (take n table) (take n (set flags u false)) h + get_or sent u 0 ≡ total
rest-less h n u table flags sent total products running room space low on =
    let a = length-take n table in
    let b = length-take n flags in
    let step = demand-less (take n table) (take n flags) h u (omega (arith, a, room, low)) (omega (arith, b, space, low)) (get_or-take n flags u false low ∙ on) in
    let written = ap (λ w. demand_of (take n table) w h) (take-set-lt n flags u false low) in
    let bytes = products u low in
    let here = ap (product h) (get_or-take n table u nobody low) in
    omega (arith, step, written, bytes, here, running)

-- and where it loses it
pub rest-more : (h n u : ℕ) (table : List Load) (flags : List Bool) (sent : List ℕ) (total : ℕ) → AreSent h n table sent → total ≡ demand_of (take n table) (take n flags) h →
    n ≤ length table → n ≤ length flags → u < n → get_or flags u false ≡ false → demand_of (take n table) (take n (set flags u true)) h ≡ total + get_or sent u 0
rest-more h n u table flags sent total products running room space low off =
    let a = length-take n table in
    let b = length-take n flags in
    let step = demand-more (take n table) (take n flags) h u (omega (arith, a, room, low)) (omega (arith, b, space, low)) (get_or-take n flags u false low ∙ off) in
    let written = ap (λ w. demand_of (take n table) w h) (take-set-lt n flags u true low) in
    let bytes = products u low in
    let here = ap (product h) (get_or-take n table u nobody low) in
    omega (arith, step, written, bytes, here, running)

-- it fits
pub rest-limit : (h n : ℕ) (table : List Load) (flags : List Bool) → n ≤ 48 → AreLoads (take n table) → h ≤ 1024 → demand_of (take n table) flags h ≤ 73039872
rest-limit h n table flags few all short =
    let l = demand-limit (take n table) flags h all short in
    let a = length-take n table in
    omega (arith, l, a, few)

-- what the loop over all units summed
pub all-running : (h i n : ℕ) (table : List Load) (total : ℕ) → i ≡ n → n ≤ 48 → n ≤ length table → total ≡ demand_of (take i table) (all_of (take i table)) h → total ≡ demand_of (take n table) (take n (replicate 48 true)) h
all-running h i n table total at few room so_far =
    let size = length-take n table in
    so_far ∙ ap (λ w. demand_of (take w table) (all_of (take w table)) h) at
    ∙ ap (λ w. demand_of (take n table) w h) (sym (all-unplaced (take n table) n (omega (arith, size, room)) few))

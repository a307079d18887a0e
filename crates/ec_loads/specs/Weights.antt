-- Weighted sums over a hyperperiod, and what they show of a prefix.
use Rattle.std.specs.Prelude.{◌≡◌, ℕ, zero, suc, ◌+◌, ◌*◌, ◌<◌, if◌then◌else◌, min, List, [], ◌∷◌, length, get_or, Option, Some, None}
use Rattle.ec_hyper.specs.Lcm.{lcm_of}
use Rattle.ec_hyper.specs.Travel.{travels}
use Rattle.ec_units.specs.declared.slave.Place.{Place}
use Rattle.ec_units.specs.declared.unit.Load.{Load}
use Rattle.ec_units.specs.Load.{periods_of}
use Rattle.ec_loads.specs.Cost.{items, raw_cost, sum_below}

-- the weight of a tick; 0 beyond the list
abbrev pub weight_of : List ℕ → ℕ → ℕ
weight_of w t = get_or w t 0

-- the weights of h ticks in all
abbrev pub total_weight : List ℕ → ℕ → ℕ
total_weight w h = sum_below (weight_of w) h

-- the weights of the ticks, of h, in which what has this period and phase travels
abbrev pub weight_at : List ℕ → ℕ → ℕ → ℕ → ℕ
weight_at w h period phase = sum_below (λ t. if travels period phase t then weight_of w t else 0) h

-- the least of f below n; 0 where n is 0
abbrev pub least_below : (ℕ → ℕ) → ℕ → ℕ
least_below f zero = 0
least_below f (suc zero) = f 0
least_below f (suc (suc n)) = min (least_below f (suc n)) (f (suc n))

-- the least, over the phases of this period, of the weights in the ticks in which it travels
abbrev pub least_weight : List ℕ → ℕ → ℕ → ℕ
least_weight w h period = least_below (weight_at w h period) period

-- the bytes without padding of the units that have a place, each tick's by its weight
abbrev pub weighted_raw : List Load → ℕ → List (Option Place) → List ℕ → ℕ → ℕ
weighted_raw loads n ps w h = sum_below (λ t. weight_of w t * raw_cost (items loads ps) n t) h

-- the bytes of the units without a place, each by the least weights that it can travel in
abbrev pub weighted_demand : List Load → List (Option Place) → List ℕ → ℕ → ℕ
weighted_demand [] ps w h = 0
weighted_demand (l ∷ ls) [] w h = 0
weighted_demand (l ∷ ls) (None ∷ ps) w h = l.bytes * least_weight w h l.period + weighted_demand ls ps w h
weighted_demand (l ∷ ls) (Some p ∷ ps) w h = weighted_demand ls ps w h

-- a weight for each tick of the hyperperiod, not all 0, and by them the bytes of the hyperperiod are above one less than the value in each tick
abbrev pub WeightsHold : List Load → ℕ → Option ℕ → List (Option Place) → List ℕ → Type 0
WeightsHold loads n v ps w =
    (b : ℕ) × (v ≡ Some b) × (length w ≡ lcm_of (periods_of loads)) × (0 < total_weight w (lcm_of (periods_of loads)))
    × (b * total_weight w (lcm_of (periods_of loads)) < weighted_raw loads n ps w (lcm_of (periods_of loads)) + weighted_demand loads ps w (lcm_of (periods_of loads)) + total_weight w (lcm_of (periods_of loads)))

-- Worked examples, which the definitions compute by themselves: 200 bytes every second and every third tick, in one slot.
use Rattle.std.specs.Prelude.{◌≡◌, ℕ, true, false, [], ◌∷◌, Some, None, refl}
use Rattle.ec_hyper.specs.Lcm.{lcm, lcm_of}
use Rattle.ec_units.specs.declared.unit.Load.{Load}
use Rattle.ec_loads.specs.Cost.{payload, raw_cost, tick_cost}
use Rattle.ec_loads.specs.Line.{Line, turned_time, line_by}
use Rattle.ec_loads.specs.Search.{Prefix}
use Rattle.ec_checker.specs.Judged.{level_holds}

abbrev load : ℕ → ℕ → Load
load bytes period = record { bytes = bytes; period = period }

abbrev two_units : Line
two_units = line_by turned_time (load 200 2 ∷ load 200 3 ∷ []) 1

-- the first unit at phase 0: a tick costs 252
abbrev first_placed : Prefix
first_placed = Some (record { phase = 0; slot = 0 }) ∷ None ∷ []

by_a_tick : level_holds two_units (Some 252) first_placed ≡ true
unfolding lcm_of lcm tick_cost payload
by_a_tick = refl

above_each_tick : level_holds two_units (Some 253) first_placed ≡ false
unfolding lcm_of lcm tick_cost raw_cost payload
above_each_tick = refl

-- none placed: 1000 bytes in six ticks, so some tick costs 167
abbrev none_placed : Prefix
none_placed = None ∷ None ∷ []

by_the_average : level_holds two_units (Some 167) none_placed ≡ true
unfolding lcm_of lcm tick_cost raw_cost payload
by_the_average = refl

above_the_average : level_holds two_units (Some 168) none_placed ≡ false
unfolding lcm_of lcm tick_cost raw_cost payload
above_the_average = refl

-- without a level nothing holds
without_a_level : level_holds two_units None first_placed ≡ false
without_a_level = refl

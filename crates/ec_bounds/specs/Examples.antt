-- Worked examples, which the definitions compute by themselves.
use Rattle.std.specs.Prelude.{◌≡◌, ℕ, [], ◌∷◌, List, Option, Some, refl}
use Rattle.ec_units.specs.declared.slave.Place.{Place}
use Rattle.ec_units.specs.declared.unit.Load.{Load}
use Rattle.ec_loads.specs.declared.item.Item.{Item}
use Rattle.ec_loads.specs.Cost.{items, payload, raw_cost}
use Rattle.ec_bounds.specs.Shown.{tick_top, shown_tops}

-- one unit of 100 bytes in each second tick, from tick 0 on
abbrev alone : List Item
alone = items (record { bytes = 100; period = 2 } ∷ []) (Some (record { phase = 0; slot = 0 }) ∷ [])

-- its tick costs 152 bytes
its_tick : tick_top alone 1 2 2 0 0 ≡ 152
unfolding raw_cost payload
its_tick = refl

-- the other class costs nothing, which counts as 40 bytes
idle_tick : tick_top alone 1 2 2 1 1 ≡ 40
unfolding raw_cost payload
idle_tick = refl

-- a tick of another class counts so, too, and one that isn't below the hyperperiod
other_class : tick_top alone 1 2 2 1 0 ≡ 40
other_class = refl

too_late : tick_top alone 1 2 2 0 2 ≡ 40
too_late = refl

-- a table that has tick 0 for each class
by_tick_0 : shown_tops alone 1 2 (λ p f. 0) 2 0 ≡ 152
unfolding raw_cost payload
by_tick_0 = refl

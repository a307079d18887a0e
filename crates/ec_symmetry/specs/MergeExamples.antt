-- Worked examples of slots that become one, which the definitions compute by themselves.
use Rattle.std.specs.Prelude.{◌≡◌, ℕ, List, [], ◌∷◌, refl}
use Rattle.ec_units.specs.declared.slave.Place.{Place}
use Rattle.ec_units.specs.declared.unit.Load.{Load}
use Rattle.ec_loads.specs.Cost.{plan_items, payload, tick_cost}
use Rattle.ec_symmetry.specs.StrongReach.{merged}

-- one unit each tick, and one every second tick, each in a slot of its own
abbrev apart : List Place
apart = record { phase = 0; slot = 0 } ∷ record { phase = 0; slot = 1 } ∷ []

abbrev thousand_and : ℕ → List Load
thousand_and bytes = record { bytes = 1000; period = 1 } ∷ record { bytes = bytes; period = 2 } ∷ []

-- beside 1000 bytes, 474 cost 1578 in two slots
just_merges : tick_cost (plan_items (thousand_and 474) apart) 2 0 ≡ 1578
unfolding tick_cost payload
just_merges = refl

-- and 1538 in one
merged_costs : tick_cost (plan_items (thousand_and 474) (merged apart)) 2 0 ≡ 1538
unfolding tick_cost payload
merged_costs = refl

-- one byte more costs 1579 in two slots
one_byte_more : tick_cost (plan_items (thousand_and 475) apart) 2 0 ≡ 1579
unfolding tick_cost payload
one_byte_more = refl

-- and doesn't fit one: 1578 is the last number at which slots become one
does_not_fit : payload (plan_items (thousand_and 475) (merged apart)) 0 0 ≡ 1499
unfolding payload
does_not_fit = refl

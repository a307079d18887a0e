-- Units with the places of a plan.
use Rattle.std.specs.Prelude.{◌≡◌, ℕ, List, map, Option, Some, Ok}
use Rattle.ec_units.specs.declared.slave.Place.{Place}
use Rattle.ec_units.specs.declared.unit.Unit.{Unit as SyncUnit}
use Rattle.ec_units.specs.declared.units.Units.{Units}
use Rattle.ec_units.specs.Views.{SlaveView, slave_view, units_view}
use Rattle.ec_unit_text.specs.Reading.{reading}

-- a unit without its place
pub record Bare : Type 0 where
  pub name : List ℕ
  pub period : ℕ
  pub slaves : List SlaveView

abbrev pub bare : SyncUnit → Bare
bare u = record { name = u.name; period = u.period; slaves = map slave_view u.slaves }

abbrev pub place_of : SyncUnit → Option Place
place_of u = u.place

-- the second units are the first ones with these places
pub record ArePlaced (old new : Units) (places : List Place) : Type 0 where
  pub tick : old.tick_ns ≡ new.tick_ns
  pub slots : old.slots ≡ new.slots
  pub units : map bare old.units ≡ map bare new.units
  pub at : map place_of new.units ≡ map (λ p. Some p) places

-- the second text says the units that the first one says, with these places
pub record IsPlacedText (text : List ℕ) (places : List Place) (placed : List ℕ) : Type 0 where
  pub old : Units
  pub said : reading text ≡ Ok (units_view old)
  pub new : Units
  pub again : reading placed ≡ Ok (units_view new)
  pub same : ArePlaced old new places

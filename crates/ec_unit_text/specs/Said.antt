-- The units that a document says, as plain data.
use Rattle.std.specs.Prelude.{ℕ, ℤ, true, false, map, Option, Some, None, unsigned_abs}
use Rattle.toml.specs.Data.{Members}
use Rattle.ec_unit_text.specs.declared.fault.Key.{Key}
use Rattle.ec_unit_text.specs.declared.fault.Key.TheVariants as key
use Rattle.ec_units.specs.declared.slave.Place.{Place}
use Rattle.ec_units.specs.Views.{SlaveView, UnitView, UnitsView}
use Rattle.ec_unit_text.specs.AtKey.{integer_given, integer_at, text_at, items_at, tables_in}
use Rattle.ec_unit_text.specs.UnitText.{period_at, area_at}

-- the number at a key, 0 where there is none
abbrev pub number_at : Key → Members → ℕ
number_at k ms = unsigned_abs (integer_at k ms)

-- the slave that a table says
abbrev pub slave_of : Members → SlaveView
slave_of ms = record {
  station = number_at key.Station ms;
  out_bytes = number_at key.OutBytes ms;
  in_bytes = number_at key.InBytes ms;
  out_at = unsigned_abs (area_at false ms);
  in_at = unsigned_abs (area_at true ms);
}

-- the place of a unit, where both parts are given
abbrev pub place_from : Option ℤ → Option ℤ → Option Place
place_from (Some phase) (Some slot) = Some (record { phase = unsigned_abs phase; slot = unsigned_abs slot })
place_from _ _ = None

abbrev pub place_of : Members → Option Place
place_of ms = place_from (integer_given key.Phase ms) (integer_given key.Slot ms)

-- the unit that a table says, and the units that a document says
abbrev pub unit_of : Members → UnitView
unit_of ms = record {
  name = text_at key.Name ms;
  period = period_at ms;
  slaves = map slave_of (tables_in (items_at key.Slave ms));
  place = place_of ms;
}

abbrev pub units_of : Members → UnitsView
units_of ms = record {
  tick_ns = number_at key.TickNs ms;
  slots = number_at key.Slots ms;
  units = map unit_of (tables_in (items_at key.Unit ms));
}

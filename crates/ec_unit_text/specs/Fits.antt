-- Tables without a fault, as building units of them needs it.
use Rattle.std.specs.Prelude.{◌≡◌, ◌<◌, ◌≤◌, ℕ, ◌+◌, ℤ, pos, unsigned_abs, true, false, Option, Some, None}
use Rattle.toml.specs.Data.{Items, no_items, item, Members, as_table}
use Rattle.ec_unit_text.specs.declared.fault.Key.TheVariants as key
use Rattle.ec_unit_text.specs.AtKey.{integer_at, text_at, items_at, item_count, is_between}
use Rattle.ec_unit_text.specs.UnitText.{bytes_in, area_at, is_place_outside}
use Rattle.ec_units.specs.Names.{is_name}

-- an integer is a number in this range, both ends in
pub record IsWithin (low high : ℕ) (z : ℤ) : Type 0 where
  pub whole : z ≡ pos (unsigned_abs z)
  pub least : low ≤ unsigned_abs z
  pub most : unsigned_abs z ≤ high

-- the station, the bytes and the areas of a slave are right
pub record SlaveNumbersFit (station out_bytes in_bytes out_at in_at : ℤ) : Type 0 where
  pub station_in : IsWithin 1 65535 station
  pub out_bytes_in : IsWithin 0 65535 out_bytes
  pub in_bytes_in : IsWithin 0 65535 in_bytes
  pub out_at_in : IsWithin 4096 65535 out_at
  pub in_at_in : IsWithin 4096 65535 in_at
  pub carries : 1 ≤ unsigned_abs out_bytes + unsigned_abs in_bytes
  pub out_end : unsigned_abs out_at + unsigned_abs out_bytes ≤ 65536
  pub in_end : unsigned_abs in_at + unsigned_abs in_bytes ≤ 65536
  pub apart : 0 < unsigned_abs out_bytes → 0 < unsigned_abs in_bytes → unsigned_abs out_at < unsigned_abs in_at + unsigned_abs in_bytes
      → unsigned_abs in_at < unsigned_abs out_at + unsigned_abs out_bytes → ⊥

abbrev pub SlaveFits : Members → Type 0
SlaveFits ms = SlaveNumbersFit (integer_at key.Station ms) (integer_at key.OutBytes ms) (integer_at key.InBytes ms) (area_at false ms) (area_at true ms)

abbrev pub SlaveItemFits : Option Members → Type 0
SlaveItemFits None = ⊥
SlaveItemFits (Some ms) = SlaveFits ms

abbrev pub SlavesFit : Items → Type 0
SlavesFit no_items = Unit {0}
SlavesFit (item d ds) = SlaveItemFits (as_table d) × SlavesFit ds

abbrev pub PeriodFits : Option Members → Type 0
PeriodFits None = ⊥
PeriodFits (Some ms) = is_between (pos 1) (pos 60) (integer_at key.Period ms) ≡ true

abbrev pub PeriodsFit : Items → Type 0
PeriodsFit no_items = Unit {0}
PeriodsFit (item d ds) = PeriodFits (as_table d) × PeriodsFit ds

pub record UnitFits (top ms : Members) : Type 0 where
  pub name : is_name (text_at key.Name ms) ≡ true
  pub period : is_between (pos 1) (pos 60) (integer_at key.Period ms) ≡ true
  pub slots : is_between (pos 1) (pos 8) (integer_at key.Slots top) ≡ true
  pub slaves : SlavesFit (items_at key.Slave ms)
  pub count : (1 ≤ item_count (items_at key.Slave ms)) × (item_count (items_at key.Slave ms) ≤ 8)
  pub size : bytes_in (items_at key.Slave ms) ≤ 1486
  pub place : is_place_outside top ms ≡ false

abbrev pub UnitItemFits : Members → Option Members → Type 0
UnitItemFits top None = ⊥
UnitItemFits top (Some ms) = UnitFits top ms

abbrev pub UnitsFit : Members → Items → Type 0
UnitsFit top no_items = Unit {0}
UnitsFit top (item d ds) = UnitItemFits top (as_table d) × UnitsFit top ds

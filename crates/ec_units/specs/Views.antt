-- Units as plain data.
use Rattle.std.specs.Prelude.{ℕ, ◌+◌, List, map, sum_by, Option}
use Rattle.ec_units.specs.declared.slave.Place.{Place}
use Rattle.ec_units.specs.declared.slave.Slave.{Slave}
use Rattle.ec_units.specs.declared.unit.Load.{Load}
use Rattle.ec_units.specs.declared.unit.Unit.{Unit as SyncUnit}
use Rattle.ec_units.specs.declared.units.Units.{Units}

pub record SlaveView : Type 0 where
  pub station : ℕ
  pub out_bytes : ℕ
  pub in_bytes : ℕ
  pub out_at : ℕ
  pub in_at : ℕ

pub record UnitView : Type 0 where
  pub name : List ℕ
  pub period : ℕ
  pub slaves : List SlaveView
  pub place : Option Place

pub record UnitsView : Type 0 where
  pub tick_ns : ℕ
  pub slots : ℕ
  pub units : List UnitView

-- units as plain data
abbrev pub slave_view : Slave → SlaveView
slave_view s = record { station = s.station; out_bytes = s.out_bytes; in_bytes = s.in_bytes; out_at = s.out_at; in_at = s.in_at }

abbrev pub unit_view : SyncUnit → UnitView
unit_view u = record { name = u.name; period = u.period; slaves = map slave_view u.slaves; place = u.place }

abbrev pub units_view : Units → UnitsView
units_view us = record { tick_ns = us.tick_ns; slots = us.slots; units = map unit_view us.units }

-- what the wire sees of units: the bytes of both directions over the slaves, and the period
abbrev pub view_bytes : List SlaveView → ℕ
view_bytes slaves = sum_by (λ s. s.out_bytes + s.in_bytes) slaves

abbrev pub view_load : UnitView → Load
view_load u = record { bytes = view_bytes u.slaves; period = u.period }

abbrev pub view_loads : List UnitView → List Load
view_loads units = map view_load units

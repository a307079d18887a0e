use Rattle.std.specs.Prelude.{ℕ, List, map}
pub use Rattle.ec_units.specs.declared.unit.Load.{Load}
use Rattle.ec_units.specs.declared.unit.Unit.{Unit as SyncUnit}
use Rattle.ec_units.specs.Bytes.{bytes_of_slaves}

abbrev pub load_of : SyncUnit → Load
load_of u = record { bytes = bytes_of_slaves u.slaves; period = u.period }

-- the loads of units, in file order
abbrev pub loads_of : List SyncUnit → List Load
loads_of units = map load_of units

abbrev pub periods_of : List Load → List ℕ
periods_of loads = map (λ l. l.period) loads

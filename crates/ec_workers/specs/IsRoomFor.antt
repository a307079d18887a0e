-- What is made before a search for its end.
use Rattle.std.specs.Prelude.{◌≡◌, ℕ, ◌≤◌, List, length, vec_len, vec_capacity}
use Rattle.std.proofs.Common.{Vec, Global}
use Rattle.ec_units.specs.declared.slave.Place.{Place}
use Rattle.ec_units.specs.declared.unit.Unit.{Unit as SyncUnit}
use Rattle.ec_cert.specs.declared.lists.UnitLine.{UnitLine}
use Rattle.ec_checker.specs.Certified.{lines_of}

-- what a certificate says of these units, and room for a place of each
pub record IsRoomFor (units : List SyncUnit) (lines : List UnitLine) (places : Vec Place Global) : Type 0 where
  pub lines_are : lines ≡ lines_of units
  pub none : vec_len places ≡ 0
  pub wide : length units ≤ vec_capacity places

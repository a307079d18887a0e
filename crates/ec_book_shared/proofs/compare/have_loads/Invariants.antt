use Rattle.std.proofs.Common.{◌≡◌, take}
use Rattle.ec_units.specs.Load.{loads_of}
use Rattle.ec_book_shared.proofs.compare.have_loads.Given as goal

abbrev pub invariant-loop-i : goal.invariant-loop-i
invariant-loop-i l = loads_of (take l.i l.units) ≡ take l.i l.loads

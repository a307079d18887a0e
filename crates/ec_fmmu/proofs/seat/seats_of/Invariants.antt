use Rattle.std.proofs.Common.{◌≡◌, ◌++◌, drop, map}
use Rattle.ec_units.specs.Views.{unit_view}
use Rattle.ec_fmmu.specs.Seats.{seats_from}
use Rattle.ec_fmmu.proofs.seat.seats_of.Given as goal

abbrev pub invariant-loop-i : goal.invariant-loop-i
invariant-loop-i l =
    l.seats.items ++ seats_from l.i (map unit_view (drop l.i l.units)) (drop l.i l.places)
    ≡ seats_from 0 (map unit_view l.units) l.places

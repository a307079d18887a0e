use Rattle.std.proofs.Common.{◌≡◌, ◌++◌, drop, map}
use Rattle.ec_units.specs.Views.{slave_view}
use Rattle.ec_fmmu.specs.Seats.{slave_seats}
use Rattle.ec_fmmu.proofs.seat.push_seats.Given as goal

abbrev pub invariant-loop-number : goal.invariant-loop-number
invariant-loop-number l =
    l.seats.items ++ slave_seats l.key l.unit l.number (map slave_view (drop l.number l.slaves))
    ≡ l.initial.seats.items ++ slave_seats l.key l.unit 0 (map slave_view l.slaves)

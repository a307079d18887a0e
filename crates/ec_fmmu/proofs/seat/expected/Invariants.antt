use Rattle.std.proofs.Common.{◌≡◌, ◌*◌, ◌≤◌, take, sum_by}
use Rattle.ec_units.specs.Views.{slave_view}
use Rattle.ec_fmmu.specs.Seats.{counter_of}
use Rattle.ec_fmmu.proofs.seat.expected.Given as goal

abbrev pub invariant-loop-slave : goal.invariant-loop-slave
invariant-loop-slave l =
    record {
      counted : l.counter ≡ sum_by (λ s. counter_of (slave_view s)) (take l.slave-index l.slaves);
      most : l.counter ≤ 3 * l.slave-index;
    }

use Rattle.std.proofs.Common.{◌≡◌, ◌*◌, ◌≤◌, take}
use Rattle.ec_loads.specs.Rooms.{bytes_at}
use Rattle.ec_bounds.proofs.grouped.bytes_at.Given as goal

abbrev pub invariant-loop-load : goal.invariant-loop-load
invariant-loop-load l =
    record {
      sum : l.bytes ≡ bytes_at l.period (take l.load-index l.left);
      bound : l.bytes ≤ 65535 * l.load-index;
    }

use Rattle.std.proofs.Common.{◌≡◌, ◌*◌, ◌≤◌, take, length}
use Rattle.ec_units.specs.Load.{loads_of}
use Rattle.ec_bounds.specs.Left.{demand_of, all_of, AreSent}
use Rattle.ec_bounds.proofs.rest.Rest.all.Given as goal

abbrev pub invariant-loop-i : goal.invariant-loop-i
invariant-loop-i l =
    record {
      room : length l.table ≡ 48;
      space : length l.sent ≡ 48;
      copied : take l.i l.table ≡ loads_of (take l.i l.all);
      products : AreSent l.hyper l.i l.table l.sent;
      running : l.demand ≡ demand_of (take l.i l.table) (all_of (take l.i l.table)) l.hyper;
      bound : l.demand ≤ 1521664 * l.i;
    }

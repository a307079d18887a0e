use Rattle.std.proofs.Common.{◌≡◌, take, drop, length}
use Rattle.ec_symmetry.specs.Orders.{with_places}
use Rattle.ec_symmetry.proofs.strong.fill_prefix.Given as goal

abbrev pub invariant-loop-i : goal.invariant-loop-i
invariant-loop-i l =
    record {
      room : length l.table ≡ 48;
      left : with_places (take l.units l.table) (drop l.i l.order) (drop l.i l.before) ≡ with_places (take l.units l.initial.table) l.order l.before;
    }

use Rattle.std.proofs.Common.{◌≡◌, drop}
use Rattle.ec_symmetry.specs.Orders.{has_repeat}
use Rattle.ec_checker.proofs.order.has_repeat.Given as goal

abbrev pub invariant-loop-i : goal.invariant-loop-i
invariant-loop-i l = has_repeat (drop l.i l.order) ≡ has_repeat l.order

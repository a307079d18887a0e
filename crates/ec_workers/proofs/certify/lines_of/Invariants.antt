use Rattle.std.proofs.Common.{◌≡◌, take}
use Rattle.ec_checker.specs.Certified.{lines_of as lines_spec}
use Rattle.ec_workers.proofs.certify.lines_of.Given as goal

abbrev pub invariant-loop-unit : goal.invariant-loop-unit
invariant-loop-unit l = l.lines.items ≡ lines_spec (take l.unit-index l.all)

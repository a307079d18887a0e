use Rattle.std.proofs.Common.{take}
use Rattle.ec_symmetry.specs.Latest.{IsLatest}
use Rattle.ec_symmetry.proofs.strong.latest_equal.Given as goal

abbrev pub invariant-loop-i : goal.invariant-loop-i
invariant-loop-i l = IsLatest l.load (take l.i l.loads) (take l.i l.places) l.latest

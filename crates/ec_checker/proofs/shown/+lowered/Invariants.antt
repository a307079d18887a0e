use Rattle.std.proofs.Common.{◌≡◌, length}
use Rattle.ec_bounds.specs.Left.{IsRestOf}
use Rattle.ec_loads.specs.Line.{line_of}
use Rattle.ec_symmetry.specs.Ruled.{line_rules}
use Rattle.ec_checker.proofs.BelowLemmas.{AreChildren}
use Rattle.ec_checker.proofs.LevelLemmas.{Lowers}
use Rattle.ec_checker.proofs.shown.+lowered.Given as goal

abbrev pub decreases-lowered : goal.decreases-lowered
decreases-lowered l = length l.order.now

abbrev pub invariant-loop-i : goal.invariant-loop-i
invariant-loop-i l =
    record {
      same : l.loads ≡ l.fn.loads;
      left : IsRestOf l.rest l.loads;
      each : AreChildren (line_of (line_rules l.rules) l.fn.loads) l.unit l.places;
      lowers : Lowers (line_rules l.rules) l.fn.loads l.trees.items l.unit l.later l.places l.i l.first l.least;
    }

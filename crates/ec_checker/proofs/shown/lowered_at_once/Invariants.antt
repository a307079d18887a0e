use Rattle.std.proofs.Common.{◌≡◌, ◌≤◌}
use Rattle.ec_bounds.specs.Left.{IsRestOf}
use Rattle.ec_symmetry.specs.Ruled.{line_rules}
use Rattle.ec_checker.proofs.LevelLemmas.{Follows}
use Rattle.ec_checker.proofs.shown.lowered_at_once.Given as goal

abbrev pub invariant-loop-i : goal.invariant-loop-i
invariant-loop-i l =
    record {
      same : l.loads ≡ l.initial.loads;
      left : IsRestOf l.rest l.loads;
      low : l.least ≤ l.level;
      follows : Follows (line_rules l.fn.rules) l.initial.loads l.trees l.unit l.places l.i l.level l.least;
    }

use Rattle.std.proofs.Common.{◌≡◌, length, drop}
use Rattle.ec_symmetry.specs.Ruled.{line_rules}
use Rattle.ec_bounds.specs.Left.{IsRestOf}
use Rattle.ec_checker.specs.Judged.{next}
use Rattle.ec_checker.proofs.WalkLemmas.{judged_from, kids}
use Rattle.ec_checker.proofs.walk.+walk.Given as goal

abbrev pub decreases-walk : goal.decreases-walk
decreases-walk l = length l.order.now

abbrev pub invariant-loop-i : goal.invariant-loop-i
invariant-loop-i l =
    record {
      same : l.loads ≡ l.initial.loads;
      left : IsRestOf l.rest l.loads;
      judged : judged_from (line_rules l.rules) l.initial.loads l.value l.level (drop l.i l.trees.items) l.unit l.later l.places l.at ≡ judged_from (line_rules l.rules) l.initial.loads l.value l.level l.trees.items l.unit l.later (kids (line_rules l.rules) l.initial.loads l.unit) (next l.number);
    }

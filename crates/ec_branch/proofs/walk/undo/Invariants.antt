use Rattle.std.proofs.Common.{reverse, vec_len}
use Rattle.ec_loads.specs.Line.{Rules}
use Rattle.ec_branch.specs.Stacks.{Task, IsWithin}
use Rattle.ec_branch.proofs.walk.undo.Given as goal

abbrev pub decreases-loop-level : goal.decreases-loop-level
decreases-loop-level l = vec_len l.levels

abbrev pub invariant-loop-level : goal.invariant-loop-level
invariant-loop-level l = (rules : Rules) (task : Task) → IsWithin rules task (reverse l.initial.levels.items) l.initial.loads l.initial.rest → IsWithin rules task (reverse l.levels.items) l.loads l.rest

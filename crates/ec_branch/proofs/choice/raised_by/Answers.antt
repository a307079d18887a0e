use Rattle.ec_branch.proofs.LeafLemmas.{some_at}
use Rattle.ec_symmetry.specs.Ruled.{line_rules}
use Rattle.ec_branch.proofs.choice.raised_by.Goals as goal

pub returns-in-Plain : goal.returns-in-Plain
returns-in-Plain c = some_at c.raised_leaf.result (λ tree closing. closing (line_rules c.args.rules)) c.raised_leaf.ensures

pub returns-in-Turned : goal.returns-in-Turned
returns-in-Turned c = some_at c.raised_leaf-in-Turned.result (λ tree closing. closing (line_rules c.args.rules)) c.raised_leaf-in-Turned.ensures

pub returns-else-is_merged : goal.returns-else-is_merged
returns-else-is_merged c = some_at c.raised_leaf-in-Strong.result (λ tree closing. closing (line_rules c.args.rules)) c.raised_leaf-in-Strong.ensures

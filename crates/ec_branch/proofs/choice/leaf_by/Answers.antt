use Rattle.ec_symmetry.specs.Ruled.{line_rules}
use Rattle.ec_branch.proofs.LeafLemmas.{match_map, ok_at}
use Rattle.ec_branch.proofs.choice.leaf_by.Goals as goal

pub returns-in-Plain : goal.returns-in-Plain
returns-in-Plain c = ok_at c.leaf_of.result (λ leaf. match_map leaf (λ none. none) (λ tree closing. closing (line_rules c.args.rules))) c.leaf_of.ensures

pub returns-in-Turned : goal.returns-in-Turned
returns-in-Turned c = ok_at c.leaf_of-in-Turned.result (λ leaf. match_map leaf (λ none. none) (λ tree closing. closing (line_rules c.args.rules))) c.leaf_of-in-Turned.ensures

use Rattle.ec_symmetry.proofs.RuleLemmas.{reached_by}
use Rattle.ec_symmetry.proofs.law.law_every_plan_is_reached_by.Goals as goal

pub returns : goal.returns
returns c = λ line order plan within is legal. reached_by c.law_every_plan_is_reached.ensures c.law_strong_children_reach.ensures line.rules line.loads line.slots order plan within is legal

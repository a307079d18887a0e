use Rattle.ec_branch.proofs.RoomLeafLemmas.{merge_leaf}
use Rattle.ec_branch.proofs.strong_leaf.strong_leaf.Goals as goal

pub returns-then-merge_bound : goal.returns-then-merge_bound
returns-then-merge_bound c = merge_leaf c.args.loads.now c.args.value c.args.loads.now.places (c.merge_bound.ensures.0 c.if-merge_bound.true)

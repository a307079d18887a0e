use Rattle.ec_tree.proofs.TreeLemmas.{laws_of, tree-bounds-all}
use Rattle.ec_tree.proofs.law.law_trees_bound.Goals as goal

pub returns : goal.returns
returns c = tree-bounds-all (laws_of c.law_every_plan_is_reached_by.ensures c.law_strong_children_reach.ensures c.law_slots_merge.ensures c.law_ticks_repeat.ensures.suffice)

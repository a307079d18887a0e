use Rattle.std.proofs.Common.{◌≡◌, ◌+◌, ◌≤◌, ◌++◌, length, replicate, vec_capacity}
use Rattle.ec_cert.specs.declared.tree.Tree.{OpenLeaf}
use Rattle.ec_branch.proofs.level.left_open.Given as goal

abbrev pub decreases-loop-trees : goal.decreases-loop-trees
decreases-loop-trees l = length l.places

abbrev pub invariant-loop-trees : goal.invariant-loop-trees
invariant-loop-trees l =
    record {
      room : length l.trees.items + length l.places ≤ vec_capacity l.trees;
      items : l.trees.items ++ replicate (length l.places) OpenLeaf ≡ l.initial.trees.items ++ replicate (length l.initial.places) OpenLeaf;
    }

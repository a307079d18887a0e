use Rattle.std.proofs.Common.{◌≡◌, replicate, vec_capacity}
use Rattle.ec_cert.specs.declared.tree.Tree.{OpenLeaf}
use Rattle.ec_book.proofs.finish.open_leaves.Given as goal

abbrev pub invariant-loop-i : goal.invariant-loop-i
invariant-loop-i l = (l.built.items ≡ replicate l.i OpenLeaf) × (vec_capacity l.built ≡ vec_capacity l.initial.built)

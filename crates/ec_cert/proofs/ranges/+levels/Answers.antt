use Rattle.std.proofs.Common.{arith, ap, sym, subst, ◌∙◌}
use Rattle.ec_loads.specs.Shape.{tick, full, average, merging}
use Rattle.ec_cert.specs.Shapes.{shape_of, shapes_of}
use Rattle.ec_cert.specs.WellFormed.{HaveLevels}
use borrow.Author.Tests.{both_ways}
use native.Mathlib.Nat.{not-le_of_lt}
use Rattle.ec_cert.proofs.TreeLemmas.{levels_split, levels_leaf, levels_open, at_most, always, never, same_more, not_more, same_all, shape_of-trees, shape_of-TickLeaf, shape_of-FullLeaf, shape_of-Average, shape_of-OpenLeaf, shape_of-Merge}
use Rattle.ec_cert.proofs.ranges.+levels.Goals as goal

pub has_levels-returns-then-is_child_count : goal.has_levels-returns-then-is_child_count
has_levels-returns-then-is_child_count t c =
    let same = levels_split c.args.kinds c.args.levels c.args.tree.now c.as_ref-trees.result.now (omega arith) (shape_of-trees c.args.tree.now c.in-Split.trees c.as_ref-trees.result.now c.in-Split.is c.as_ref-trees.ensures) in
    let count = c.is_child_count.ensures.0 c.if-is_child_count.true in
    (λ yes. same.1 (omega arith, omega arith, c.have_levels.ensures.0 yes), λ has. c.have_levels.ensures.1 (same.0 has).2)

pub has_levels-returns-else-is_child_count : goal.has_levels-returns-else-is_child_count
has_levels-returns-else-is_child_count t c =
    let same = levels_split c.args.kinds c.args.levels c.args.tree.now c.as_ref-trees.result.now (omega arith) (shape_of-trees c.args.tree.now c.in-Split.trees c.as_ref-trees.result.now c.in-Split.is c.as_ref-trees.ensures) in
    (λ yes. absurd cc, λ has. let (least, most, all) = same.0 has in c.is_child_count.ensures.1 (omega arith, omega arith))

pub has_levels-returns-in-TickLeaf : goal.has_levels-returns-in-TickLeaf
has_levels-returns-in-TickLeaf t c =
    at_most c.in-TickLeaf.tick 1023 _ (levels_leaf c.args.kinds c.args.levels c.args.tree.now (tick c.in-TickLeaf.tick) c.if-levels-eq0.false (ap shape_of c.in-TickLeaf.is ∙ shape_of-TickLeaf c.in-TickLeaf.tick))

pub has_levels-returns-in-Average : goal.has_levels-returns-in-Average
has_levels-returns-in-Average t c =
    always _ ((levels_leaf c.args.kinds c.args.levels c.args.tree.now average c.if-levels-eq0.false (ap shape_of c.in-Average.is ∙ shape_of-Average)).1 tt)

pub has_levels-returns-in-OpenLeaf : goal.has_levels-returns-in-OpenLeaf
has_levels-returns-in-OpenLeaf t c =
    let same = levels_open c.args.kinds c.args.levels c.args.tree.now c.if-levels-eq0.false (ap shape_of c.in-OpenLeaf.is ∙ shape_of-OpenLeaf) in
    (λ yes. same.1 yes, λ has. same.0 has)

pub has_levels-returns-in-Merge : goal.has_levels-returns-in-Merge
has_levels-returns-in-Merge t c =
    let same = levels_leaf c.args.kinds c.args.levels c.args.tree.now merging c.if-levels-eq0.false (ap shape_of c.in-Merge.is ∙ shape_of-Merge) in
    (λ yes. same.1 yes, λ has. same.0 has)

pub has_levels-returns-then-tick-le1023 : goal.has_levels-returns-then-tick-le1023
has_levels-returns-then-tick-le1023 t c =
    let same = levels_leaf c.args.kinds c.args.levels c.args.tree.now (full c.in-FullLeaf.tick c.in-FullLeaf.slot) c.if-levels-eq0.false (ap shape_of c.in-FullLeaf.is ∙ shape_of-FullLeaf c.in-FullLeaf.tick c.in-FullLeaf.slot) in
    at_most c.in-FullLeaf.slot 7 _ (λ has. (same.0 has).1, λ few. same.1 (c.if-tick-le1023.true, few))

pub has_levels-returns-else-tick-le1023 : goal.has_levels-returns-else-tick-le1023
has_levels-returns-else-tick-le1023 t c =
    let same = levels_leaf c.args.kinds c.args.levels c.args.tree.now (full c.in-FullLeaf.tick c.in-FullLeaf.slot) c.if-levels-eq0.false (ap shape_of c.in-FullLeaf.is ∙ shape_of-FullLeaf c.in-FullLeaf.tick c.in-FullLeaf.slot) in
    at_most c.in-FullLeaf.tick 1023 _ (λ has. (same.0 has).0, λ few. absurd (not-le_of_lt c.if-tick-le1023.false few))

pub have_levels-returns-then-not-has_levels : goal.have_levels-returns-then-not-has_levels
have_levels-returns-then-not-has_levels t c =
    let ts = c.deref-tree-items.result.now in
    let no = not_more c.args.kinds c.args.levels ts c.children.tree-index c.tree-item.result c.children-test.true c.tree-item.is (λ has. absurd (both_ways _ c.if-not-has_levels.true (c.has_levels.ensures.1 has))) c.children.invariant in
    never _ (λ all. no (subst (λ l. HaveLevels c.args.kinds c.args.levels (shapes_of l)) (sym c.deref-tree-items.ensures.value) all))

pub have_levels-children-preserved : goal.have_levels-children-preserved
have_levels-children-preserved t c =
    same_more c.args.kinds c.args.levels c.deref-tree-items.result.now c.children.tree-index c.tree-item.result c.children-test.true c.tree-item.is (c.has_levels.ensures.0 c.if-not-has_levels.false) c.children.invariant

pub have_levels-returns : goal.have_levels-returns
have_levels-returns t c =
    always _ (subst (λ l. HaveLevels c.args.kinds c.args.levels (shapes_of l)) c.deref-tree-items.ensures.value (same_all c.args.kinds c.args.levels c.deref-tree-items.result.now c.children.tree-index c.children-test.false c.children.invariant))

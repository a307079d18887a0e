use Rattle.std.proofs.Common.{◌≡◌, ◌∙◌, ap, sym, arith, rules, ◌+◌, ◌-◌, ◌<◌, refl, length, subst, take, get_or, length-append, ◌++◌, ◌∷◌, []}
use Rattle.ec_loads.specs.Search.{open_count, open_counts}
use Rattle.ec_cert.specs.Shapes.{shape_of, shapes_of}
use Rattle.ec_cert.specs.declared.tree.Tree.{the_lemmas}
use Rattle.ec_cert.proofs.TreeLemmas.{shape_of-trees, shape_of-Groups}
use Rattle.ec_book.specs.Numbered.{numbered, draw}
use Rattle.ec_book.specs.Grown.{shape_at}
use Rattle.ec_book.proofs.DrawLemmas.{shape_at-last, shape_of-OpenLeaf, shape_of-Weights, draw-closed}
use Rattle.ec_book.proofs.PartLemmas.{opens_all, IsPart, child_at, child_get, child_above, part-step, part-skip, part-start, part-rest, part-left, part-tree, none_taken}
use Rattle.ec_book.proofs.tree.+filled.Goals.{then-loop-i-test+else-len-floor-2, else-loop-i-test}
use Rattle.ec_book.proofs.tree.+filled.Goals as goal

pub filled-requires : goal.filled-requires
filled-requires t c =
    let ts = c.replace-trees.result.items in
    let ls = c.loop-i.trees.items in
    let j = c.loop-i.i - 1 in
    let x = c.replace-child.result in
    let j_is : j + 1 ≡ c.loop-i.i = omega (arith, c.loop-i-test.true) in
    let at = child_at ts ls c.args.built.now.items c.loop-i.built.items c.loop-i.i j c.loop-i.invariant j_is c.index_mut.result.now x c.index_mut.ensures.value c.replace-child.ensures.value in
    let get : x ≡ get_or ts j x = child_get ts ls c.args.built.now.items c.loop-i.built.items c.loop-i.i j c.loop-i.invariant j_is x at in
    let within : j < length ts = omega (arith, j_is, c.loop-i.invariant.within) in (
      search (rules, the_lemmas, get, within),
      child_above ts ls c.args.built.now.items c.loop-i.built.items c.loop-i.i j c.loop-i.invariant j_is c.args.floor x at (omega (arith, c.requires, opens_all c.args.tree c.replace-trees.result (shape_of-trees c.args.tree c.in-Split.room c.replace-trees.result c.in-Split.is c.replace-trees.ensures.value))),
    )

pub loop-i-preserved-then-not-is_closed_leaf-2 : goal.loop-i-preserved-then-not-is_closed_leaf-2
loop-i-preserved-then-not-is_closed_leaf-2 t c =
    let ts = c.replace-trees.result.items in
    let ls = c.loop-i.trees.items in
    let j = c.loop-i.i - 1 in
    let x = c.replace-child.result in
    let j_is : j + 1 ≡ c.loop-i.i = omega (arith, c.loop-i-test.true) in
    let at = child_at ts ls c.args.built.now.items c.loop-i.built.items c.loop-i.i j c.loop-i.invariant j_is c.index_mut.result.now x c.index_mut.ensures.value c.replace-child.ensures.value in
    part-step ts ls c.args.built.now.items c.loop-i.built.items c.loop-i.i j c.loop-i.invariant j_is x c.replace-child.new.dest c.filled.result c.filled.new.built.items at
    (omega (arith, c.requires, opens_all c.args.tree c.replace-trees.result (shape_of-trees c.args.tree c.in-Split.room c.replace-trees.result c.in-Split.is c.replace-trees.ensures.value))) c.filled.ensures.left c.filled.ensures.tree

pub loop-i-preserved-then-not-is_closed_leaf-3 : goal.loop-i-preserved-then-not-is_closed_leaf-3
loop-i-preserved-then-not-is_closed_leaf-3 t c =
    let ts = c.replace-trees.result.items in
    let ls = c.loop-i.trees.items in
    let j = c.loop-i.i - 1 in
    let x = c.replace-child.result in
    let j_is : j + 1 ≡ c.loop-i.i = omega (arith, c.loop-i-test.true) in
    let at = child_at ts ls c.args.built.now.items c.loop-i.built.items c.loop-i.i j c.loop-i.invariant j_is c.index_mut.result.now x c.index_mut.ensures.value c.replace-child.ensures.value in
    part-step ts ls c.args.built.now.items c.loop-i.built.items c.loop-i.i j c.loop-i.invariant j_is x c.replace-child.new.dest c.filled.result c.filled.new.built.items at
    (omega (arith, c.requires, opens_all c.args.tree c.replace-trees.result (shape_of-trees c.args.tree c.in-Split.room c.replace-trees.result c.in-Split.is c.replace-trees.ensures.value))) c.filled.ensures.left c.filled.ensures.tree

pub loop-i-preserved-then-not-is_closed_leaf-4 : goal.loop-i-preserved-then-not-is_closed_leaf-4
loop-i-preserved-then-not-is_closed_leaf-4 t c =
    let ts = c.replace-trees.result.items in
    let ls = c.loop-i.trees.items in
    let j = c.loop-i.i - 1 in
    let x = c.replace-child.result in
    let j_is : j + 1 ≡ c.loop-i.i = omega (arith, c.loop-i-test.true) in
    let at = child_at ts ls c.args.built.now.items c.loop-i.built.items c.loop-i.i j c.loop-i.invariant j_is c.index_mut.result.now x c.index_mut.ensures.value c.replace-child.ensures.value in
    part-step ts ls c.args.built.now.items c.loop-i.built.items c.loop-i.i j c.loop-i.invariant j_is x c.replace-child.new.dest c.filled.result c.filled.new.built.items at
    (omega (arith, c.requires, opens_all c.args.tree c.replace-trees.result (shape_of-trees c.args.tree c.in-Split.room c.replace-trees.result c.in-Split.is c.replace-trees.ensures.value))) c.filled.ensures.left c.filled.ensures.tree

pub loop-i-preserved : goal.loop-i-preserved
loop-i-preserved t c =
    let ts = c.replace-trees.result.items in
    let ls = c.loop-i.trees.items in
    let j = c.loop-i.i - 1 in
    let x = c.index.result.now in
    let j_is : j + 1 ≡ c.loop-i.i = omega (arith, c.loop-i-test.true) in
    let at = child_at ts ls c.args.built.now.items c.loop-i.built.items c.loop-i.i j c.loop-i.invariant j_is x x c.index.ensures refl in
    let closed = c.if-not-is_closed_leaf.ensures.0 (search rules) in
    part-skip ts ls c.args.built.now.items c.loop-i.built.items c.loop-i.i j c.loop-i.invariant j_is x at (ap open_count closed.1) (omega (arith, c.requires, opens_all c.args.tree c.replace-trees.result (shape_of-trees c.args.tree c.in-Split.room c.replace-trees.result c.in-Split.is c.replace-trees.ensures.value)))

pub loop-i-init : goal.loop-i-init
loop-i-init t c =
    let ts = c.replace-trees.result.items in
    let len : length ts ≡ c.len-i.result = omega (arith, c.len-i.ensures) in
    subst (λ w. IsPart ts ts c.args.built.now.items c.args.built.now.items w) len (part-start ts c.args.built.now.items)

pub returns-after-loop-i-clause-tree : goal.returns-after-loop-i-clause-tree
returns-after-loop-i-clause-tree t c =
    let ts = c.replace-trees.result.items in
    let ls = c.loop-i.trees.items in
    let built0 = c.args.built.now.items in
    let built = c.loop-i.built.items in
    let whole = shape_of-trees c.args.tree c.in-Split.room c.replace-trees.result c.in-Split.is c.replace-trees.ensures.value in
    let opens = opens_all c.args.tree c.replace-trees.result whole in
    let end : IsPart ts ls built0 built 0 = elim c.loop-i-test.branch [
      | then-loop-i-test+else-len-floor-2 w ↦
          let none : open_counts (shapes_of (take c.loop-i.i ts)) ≡ 0 = omega (arith, w.if-len-floor-2.false, w.len-in-loop-i.ensures, c.requires, opens, c.loop-i.invariant.left) in
          part-rest ts ls built0 built c.loop-i.i c.loop-i.invariant none (omega (arith, c.requires, opens))
      | else-loop-i-test w ↦ let zero_is : c.loop-i.i ≡ 0 = omega (arith, w.loop-i-test.false) in subst (IsPart ts ls built0 built) zero_is c.loop-i.invariant
    ] in
    part-tree ts ls built0 built end c.args.tree c.replace-trees.result c.replace.new.b whole refl (ap (λ v. v.items) c.replace.ensures.after) (omega (arith, c.requires))

pub returns-then-len-floor-clause-tree : goal.returns-then-len-floor-clause-tree
returns-then-len-floor-clause-tree t c = sym (draw-closed (shape_at c.args.built.now.items) (shape_of c.args.tree) _ (omega (arith, c.requires, c.if-len-floor.true, c.len.ensures)))

pub returns-in-Weights-clause-left : goal.returns-in-Weights-clause-left
returns-in-Weights-clause-left t c = none_taken c.args.tree c.args.built.now.items (search (rules, the_lemmas))

pub returns-in-Groups-clause-left : goal.returns-in-Groups-clause-left
returns-in-Groups-clause-left t c = none_taken c.args.tree c.args.built.now.items (search (rules, the_lemmas))

pub returns-in_default-clause-left : goal.returns-in_default-clause-left
returns-in_default-clause-left t c = none_taken c.args.tree c.args.built.now.items (search (rules, the_lemmas))

pub returns-in-Some-clause-tree : goal.returns-in-Some-clause-tree
returns-in-Some-clause-tree t c =
    let new = c.pop.new.self.items in
    let x = c.in-Some.tree in
    let len : length (new ++ x ∷ []) - 1 ≡ length new = omega (arith, length-append new (x ∷ [])) in
    rw (c.in-OpenLeaf.is, c.in-Some.ensures.items) (
    sym (ap (λ w. draw (shape_at (new ++ x ∷ [])) (numbered (length (new ++ x ∷ []) - open_count w) w)) shape_of-OpenLeaf
    ∙ ap (shape_at (new ++ x ∷ [])) len ∙ shape_at-last new x))

pub returns-in-Weights-clause-tree : goal.returns-in-Weights-clause-tree
returns-in-Weights-clause-tree t c =
    let none : open_count (shape_of c.args.tree) ≡ 0 = ap open_count (ap shape_of c.in-Weights.is ∙ shape_of-Weights c.in-Weights.weights) in
    ap shape_of (sym c.in-Weights.is) ∙ sym (draw-closed (shape_at c.args.built.now.items) (shape_of c.args.tree) _ none)

pub returns-in-Groups-clause-tree : goal.returns-in-Groups-clause-tree
returns-in-Groups-clause-tree t c =
    let none : open_count (shape_of c.args.tree) ≡ 0 = ap open_count (ap shape_of c.in-Groups.is ∙ shape_of-Groups c.in-Groups.pairs) in
    ap shape_of (sym c.in-Groups.is) ∙ sym (draw-closed (shape_at c.args.built.now.items) (shape_of c.args.tree) _ none)

pub returns-in_default-clause-tree : goal.returns-in_default-clause-tree
returns-in_default-clause-tree t c = sym (draw-closed (shape_at c.args.built.now.items) (shape_of c.args.tree) _ (search (rules, the_lemmas)))

pub returns-after-loop-i-clause-left : goal.returns-after-loop-i-clause-left
returns-after-loop-i-clause-left t c =
    let ts = c.replace-trees.result.items in
    let ls = c.loop-i.trees.items in
    let built0 = c.args.built.now.items in
    let built = c.loop-i.built.items in
    let whole = shape_of-trees c.args.tree c.in-Split.room c.replace-trees.result c.in-Split.is c.replace-trees.ensures.value in
    let opens = opens_all c.args.tree c.replace-trees.result whole in
    let end : IsPart ts ls built0 built 0 = elim c.loop-i-test.branch [
      | then-loop-i-test+else-len-floor-2 w ↦
          let none : open_counts (shapes_of (take c.loop-i.i ts)) ≡ 0 = omega (arith, w.if-len-floor-2.false, w.len-in-loop-i.ensures, c.requires, opens, c.loop-i.invariant.left) in
          part-rest ts ls built0 built c.loop-i.i c.loop-i.invariant none (omega (arith, c.requires, opens))
      | else-loop-i-test w ↦ let zero_is : c.loop-i.i ≡ 0 = omega (arith, w.loop-i-test.false) in subst (IsPart ts ls built0 built) zero_is c.loop-i.invariant
    ] in
    part-left ts ls built0 built end c.args.tree c.replace-trees.result whole refl (omega (arith, c.requires))

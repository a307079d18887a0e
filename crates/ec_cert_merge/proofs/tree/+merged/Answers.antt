use Rattle.std.proofs.Common.{◌≡◌, ◌∙◌, ap, sym, arith, rules, ◌+◌, ◌-◌, ◌<◌, length, subst, get_or}
use Rattle.ec_cert.specs.Shapes.{shape_of}
use Rattle.ec_cert.specs.declared.tree.Tree.{the_lemmas}
use Rattle.ec_cert.proofs.TreeLemmas.{shape_of-trees, shape_of-Split, shape_of-OpenLeaf}
use Rattle.ec_cert_merge.proofs.BothLemmas.{both}
use Rattle.ec_cert_merge.proofs.LoopLemmas.{IsPart, child-here, child-get, other-here, part-more, part-start, part-end, same-count, child-alike, merged-by}
use Rattle.ec_cert_merge.proofs.tree.+merged.Goals as goal

pub loop-i-init : goal.loop-i-init
loop-i-init t c =
    let ts = c.replace-trees.result.items in
    let us = c.replace-rest.result.items in
    part-start ts us c.len-i.result (omega (arith, c.len-i.ensures))
    (same-count c.args.first c.args.second ts us (shape_of-trees c.args.first c.in-Split.room c.replace-trees.result c.in-Split.is c.replace-trees.ensures.value) (shape_of-trees c.args.second c.in-Split-second.others c.replace-rest.result c.in-Split-second.is c.replace-rest.ensures.value) c.requires)

pub merged-requires : goal.merged-requires
merged-requires t c =
    let ts = c.replace-trees.result.items in
    let us = c.replace-rest.result.items in
    let ls = c.loop-i.trees.items in
    let j = c.loop-i.i - 1 in
    let x = c.replace-child.result in
    let j_is : j + 1 ≡ c.loop-i.i = omega (arith, c.loop-i-test.true) in
    let at = child-here ts us ls c.loop-i.rest.items c.loop-i.i j c.loop-i.invariant j_is c.index_mut.result.now x c.index_mut.ensures.value c.replace-child.ensures.value in
    let other = other-here ts us ls c.loop-i.rest.items c.loop-i.i j c.loop-i.invariant j_is c.pop.new.self.items c.in-Some.other c.in-Some.ensures.items in
    let get : x ≡ get_or ts j x = child-get ts j x at in
    let within : j < length ts = omega (arith, j_is, c.loop-i.invariant.within) in (
      search (rules, the_lemmas, get, within),
      child-alike c.args.first c.args.second ts us j x c.in-Some.other (shape_of-trees c.args.first c.in-Split.room c.replace-trees.result c.in-Split.is c.replace-trees.ensures.value) (shape_of-trees c.args.second c.in-Split-second.others c.replace-rest.result c.in-Split-second.is c.replace-rest.ensures.value) c.requires at other.1,
    )

pub loop-i-preserved-in-Some-4 : goal.loop-i-preserved-in-Some-4
loop-i-preserved-in-Some-4 t c =
    let ts = c.replace-trees.result.items in
    let us = c.replace-rest.result.items in
    let ls = c.loop-i.trees.items in
    let j = c.loop-i.i - 1 in
    let x = c.replace-child.result in
    let j_is : j + 1 ≡ c.loop-i.i = omega (arith, c.loop-i-test.true) in
    let at = child-here ts us ls c.loop-i.rest.items c.loop-i.i j c.loop-i.invariant j_is c.index_mut.result.now x c.index_mut.ensures.value c.replace-child.ensures.value in
    part-more ts us ls c.loop-i.rest.items c.loop-i.i j c.loop-i.invariant j_is x c.in-Some.other c.replace-child.new.dest c.merged.result c.pop.new.self.items at c.in-Some.ensures.items c.merged.ensures

pub returns-after-loop-i : goal.returns-after-loop-i
returns-after-loop-i t c =
    let ts = c.replace-trees.result.items in
    let us = c.replace-rest.result.items in
    let ls = c.loop-i.trees.items in
    let end : c.loop-i.i ≡ 0 = omega (arith, c.loop-i-test.false) in
    part-end ts us ls c.loop-i.rest.items c.args.first c.args.second c.replace.new.b (subst (IsPart ts us ls c.loop-i.rest.items) end c.loop-i.invariant)
    (shape_of-trees c.args.first c.in-Split.room c.replace-trees.result c.in-Split.is c.replace-trees.ensures.value) (shape_of-trees c.args.second c.in-Split-second.others c.replace-rest.result c.in-Split-second.is c.replace-rest.ensures.value)
    (ap (λ v. v.items) c.replace.ensures.after) c.requires

pub returns-in-OpenLeaf-second : goal.returns-in-OpenLeaf-second
returns-in-OpenLeaf-second t c =
    let a = ap shape_of c.in-Split.is ∙ shape_of-Split c.in-Split.room in
    let b = ap shape_of c.in-OpenLeaf-second.is ∙ shape_of-OpenLeaf in
    merged-by (shape_of c.args.first) (shape_of c.args.second) _ c.requires (shape_of-Split c.in-Split.room ∙ sym (λ r. both (a r) (b r)))

pub returns-in-OpenLeaf : goal.returns-in-OpenLeaf
returns-in-OpenLeaf t c =
    let a = ap shape_of c.in-OpenLeaf.is ∙ shape_of-OpenLeaf in
    merged-by (shape_of c.args.first) (shape_of c.args.second) (shape_of c.args.second) c.requires (sym (ap (λ w. both w (shape_of c.args.second)) a))

use Rattle.std.proofs.Common.{◌≡◌, ◌<◌, ◌≤◌, Vec, Global, map, get_or, ap, sym, subst, ◌∙◌}
use Rattle.std.proofs.lemmas.Result.{IfOk-from_err, IfOk-weaker}
use Rattle.std.specs.Vec.{vec_len}
use Rattle.ec_loads.specs.Shape.{split}
use Rattle.ec_cert.specs.Shapes.{shape_of, shapes_of}
use Rattle.ec_cert.specs.declared.tree.Tree.{Tree, Weights}
use Rattle.ec_cert.proofs.TreeLemmas.{shape_of-Split, copies_more, copies_all}
use Rattle.ec_cert.proofs.copying.+copy_of.Goals as goal

pub returns-in_err-copies-in-Split : goal.returns-in_err-copies-in-Split
returns-in_err-copies-in-Split t c = IfOk-from_err c.from_residual.result _ c.from_residual.ensures.0

pub returns-in_err-copy_of-in-Split : goal.returns-in_err-copy_of-in-Split
returns-in_err-copy_of-in-Split t c = IfOk-from_err c.from_residual-in_err-copy_of-in-Split.result _ c.from_residual-in_err-copy_of-in-Split.ensures.0

pub returns-in_err-push-in-Split : goal.returns-in_err-push-in-Split
returns-in_err-push-in-Split t c = IfOk-from_err c.from_residual-in_err-push-in-Split.result _ c.from_residual-in_err-push-in-Split.ensures.0

pub returns-in_err-copy-in-Weights : goal.returns-in_err-copy-in-Weights
returns-in_err-copy-in-Weights t c = IfOk-from_err c.from_residual-in_err-copy-in-Weights.result _ c.from_residual-in_err-copy-in-Weights.ensures.0

pub returns-in_err-new-in-Weights : goal.returns-in_err-new-in-Weights
returns-in_err-new-in-Weights t c = IfOk-from_err c.from_residual-in_err-new-in-Weights.result _ c.from_residual-in_err-new-in-Weights.ensures.0

pub loop-i-init : goal.loop-i-init
loop-i-init t c = ap (map shape_of) c.in_ok-copies-in-Split.ensures.items

pub loop-i-preserved : goal.loop-i-preserved
loop-i-preserved t c =
    let ts = c.in-Split.trees.value.items in
    let x = c.index.result.now in
    let is = c.index.ensures ∙ ap (λ (v : Vec Tree Global). get_or v.items c.loop-i.i x) c.deref-in-loop-i.ensures in
    let end = c.len-i-end.ensures ∙ ap vec_len c.deref-in-Split.ensures ∙ c.in-Split.trees.value.ok.0 in
    ap (map shape_of) c.in_ok-push-in-Split.ensures.items ∙ copies_more c.loop-i.copies.items ts c.loop-i.i x c.in_ok-copy_of-in-Split.field-0 (subst (λ n. c.loop-i.i < n) end c.loop-i-test.true) is c.in_ok-copy_of-in-Split.ensures c.loop-i.invariant

pub returns-after-loop-i : goal.returns-after-loop-i
returns-after-loop-i t c =
    let end = c.len-i-end.ensures ∙ ap vec_len c.deref-in-Split.ensures ∙ c.in-Split.trees.value.ok.0 in
    let all = copies_all c.loop-i.copies.items c.in-Split.trees.value.items c.loop-i.i (subst (λ n. n ≤ c.loop-i.i) end c.loop-i-test.false) c.loop-i.invariant in
    let whole = ap shape_of c.in-Split.is ∙ shape_of-Split c.in-Split.trees in
    IfOk-weaker c.split_of.result (λ s. shape_of s ≡ split (shapes_of c.loop-i.copies.items)) (λ s. shape_of s ≡ shape_of c.args.tree.now) (λ s is. is ∙ ap split all ∙ sym whole) c.split_of.ensures

pub returns-in-TickLeaf : goal.returns-in-TickLeaf
returns-in-TickLeaf t c = ap shape_of (sym c.in-TickLeaf.is)

pub returns-in-FullLeaf : goal.returns-in-FullLeaf
returns-in-FullLeaf t c = ap shape_of (sym c.in-FullLeaf.is)

pub returns-in-Average : goal.returns-in-Average
returns-in-Average t c = ap shape_of (sym c.in-Average.is)

pub returns-in-OpenLeaf : goal.returns-in-OpenLeaf
returns-in-OpenLeaf t c = ap shape_of (sym c.in-OpenLeaf.is)

pub returns-in_ok-new-in-Weights : goal.returns-in_ok-new-in-Weights
returns-in_ok-new-in-Weights t c = ap (λ w. shape_of (Weights w)) (c.in_ok-new-in-Weights.ensures ∙ c.in_ok-copy-in-Weights.ensures.items ∙ c.as_slice.ensures) ∙ ap shape_of (sym c.in-Weights.is)

use Rattle.std.proofs.Common.{◌≡◌, ◌<◌, ◌++◌, length, reverse, Some, ap, ◌∙◌, sym, arith}
use Rattle.ec_book.specs.Prefixes.{prefix_at, prefixes_at}
use Rattle.ec_book.proofs.PrefixLemmas.{node-at, parent-below, root, end-at, step-back}
use Rattle.ec_book.proofs.prefixes.Prefixes.places.Goals as goal

pub loop-node-preserved : goal.loop-node-preserved
loop-node-preserved c =
    let ns = c.self.inside.nodes.items in
    let ends = c.self.inside.ends.items in
    let k = c.loop-node.node in
    let n = c.index.result.now in
    let within = c.loop-node.invariant.0 in
    let some : 0 < k = omega (arith, c.loop-node-test.true) in
    let at = node-at ns ends k n c.self.invariant some within c.index.ensures in
    let below = parent-below ns ends k n c.self.invariant some within c.index.ensures in (
      omega (arith, below, within),
      step-back (prefix_at ns n.parent) c.loop-node.places.items c.push.new.self.items _ n.place c.in_ok-push.ensures.items (ap (λ w. w ++ reverse c.loop-node.places.items) (sym at) ∙ c.loop-node.invariant.1),
    )

pub returns : goal.returns
returns c =
    let ns = c.self.inside.nodes.items in
    let ends = c.self.inside.ends.items in
    let inside : c.args.number < length (prefixes_at ns ends) = rw (← c.self.view_is) at c.requires in
    let end = end-at ns ends c.args.number c.index-node.result.now inside c.index-node.ensures in
    let none : c.loop-node.node ≡ 0 = omega (arith, c.loop-node-test.false) in
    let whole = (λ j. (sym (root ns) ∙ ap (prefix_at ns) (sym none)) j ++ reverse c.loop-node.places.items) ∙ c.loop-node.invariant.1 in
    rw (← c.self.view_is) (end ∙ ap Some (sym (c.reverse.ensures.items ∙ whole)))

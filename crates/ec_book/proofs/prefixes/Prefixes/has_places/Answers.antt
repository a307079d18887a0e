use Rattle.std.proofs.Common.{◌≡◌, ◌<◌, ◌==◌, ◌++◌, ◌∷◌, [], length, Some, ap, ◌∙◌, sym, refl, arith}
use borrow.Author.Tests.{both_ways}
use Rattle.ec_book.specs.Prefixes.{prefix_at, prefixes_at}
use Rattle.ec_book.proofs.PrefixLemmas.{node-at, parent-below, root, end-at, same-but-last, one-prefix}
use Rattle.std.proofs.lemmas.List.{length_push, nil_from_length}
use Rattle.std.proofs.lemmas.Bool.{eqb-true}
use Rattle.ec_book.proofs.prefixes.Prefixes.has_places.Goals as goal

pub loop-node-preserved : goal.loop-node-preserved
loop-node-preserved c =
    let ns = c.self.inside.nodes.items in
    let ends = c.self.inside.ends.items in
    let k = c.loop-node.node in
    let n = c.index.result.now in
    let within = c.loop-node.invariant.0 in
    let some : 0 < k = omega (arith, c.loop-node-test.true) in
    let at = node-at ns ends k n c.self.invariant some within c.index.ensures in
    let below = parent-below ns ends k n c.self.invariant some within c.index.ensures in
    let left_is = c.in-Some.ensures.cases.0 in
    let same : c.in-Some.last.now ≡ n.place = c.is_same.ensures.0 c.if-is_same.true in
    let onto : prefix_at ns n.parent ≡ c.in-Some.rest.now → prefix_at ns k ≡ c.loop-node.left.now
    = λ e. at ∙ (λ j. e j ++ sym same j ∷ []) ∙ sym left_is in
    let back : prefix_at ns k ≡ c.loop-node.left.now → prefix_at ns n.parent ≡ c.in-Some.rest.now
    = λ e. (same-but-last (prefix_at ns n.parent) c.in-Some.rest.now (prefix_at ns k) c.loop-node.left.now n.place c.in-Some.last.now at left_is e).0 in
    (omega (arith, below, within), (λ e. c.loop-node.invariant.1.0 (onto e), λ e. back (c.loop-node.invariant.1.1 e)))

pub returns-in_default : goal.returns-in_default
returns-in_default c =
    let ns = c.self.inside.nodes.items in
    let ends = c.self.inside.ends.items in
    let k = c.loop-node.node in
    let n = c.index.result.now in
    let some : 0 < k = omega (arith, c.loop-node-test.true) in
    let at = node-at ns ends k n c.self.invariant some c.loop-node.invariant.0 c.index.ensures in
    let inside : c.args.number < length (prefixes_at ns ends) = rw (← c.self.view_is) at c.requires in
    let end = end-at ns ends c.args.number c.index-node.result.now inside c.index-node.ensures in
    rw (← c.self.view_is) (
      λ t. absurd (both_ways _ refl t),
      λ e.
          let here = c.loop-node.invariant.1.1 (one-prefix (prefixes_at ns ends) c.args.number _ _ end e) in
          let last = (same-but-last (prefix_at ns n.parent) c.in-Some.rest.now (prefix_at ns k) c.loop-node.left.now n.place c.in-Some.last.now at c.in-Some.ensures.cases.0 here).1 in
          absurd (both_ways _ c.if-is_same.false (c.is_same.ensures.1 (sym last))),
    )

pub returns-in_default-2 : goal.returns-in_default-2
returns-in_default-2 c =
    let ns = c.self.inside.nodes.items in
    let ends = c.self.inside.ends.items in
    let k = c.loop-node.node in
    let n = c.index.result.now in
    let some : 0 < k = omega (arith, c.loop-node-test.true) in
    let at = node-at ns ends k n c.self.invariant some c.loop-node.invariant.0 c.index.ensures in
    let inside : c.args.number < length (prefixes_at ns ends) = rw (← c.self.view_is) at c.requires in
    let end = end-at ns ends c.args.number c.index-node.result.now inside c.index-node.ensures in
    let none : length c.loop-node.left.now ≡ 0 = rw c.in_default.is at c.split_last.ensures.cases in
    rw (← c.self.view_is) (
      λ t. absurd (both_ways _ refl t),
      λ e.
          let here = c.loop-node.invariant.1.1 (one-prefix (prefixes_at ns ends) c.args.number _ _ end e) in
          let long = length_push (prefix_at ns n.parent) n.place in
          absurd (omega (arith, none, ap length (sym at ∙ here), long)),
    )

pub returns : goal.returns
returns c =
    let ns = c.self.inside.nodes.items in
    let ends = c.self.inside.ends.items in
    let inside : c.args.number < length (prefixes_at ns ends) = rw (← c.self.view_is) at c.requires in
    let end = end-at ns ends c.args.number c.index-node.result.now inside c.index-node.ensures in
    let none : c.loop-node.node ≡ 0 = omega (arith, c.loop-node-test.false) in
    let empty : prefix_at ns c.loop-node.node ≡ [] = ap (prefix_at ns) none ∙ root ns in
    rw (← c.self.view_is) (
      λ t.
          let left_is = nil_from_length c.loop-node.left.now (eqb-true (length c.loop-node.left.now) 0 (sym c.is_empty.ensures ∙ t)) in
          end ∙ ap Some (c.loop-node.invariant.1.0 (empty ∙ sym left_is)),
      λ e.
          let here = c.loop-node.invariant.1.1 (one-prefix (prefixes_at ns ends) c.args.number _ _ end e) in
          c.is_empty.ensures ∙ ap (λ w. length w == 0) (sym here ∙ empty),
    )

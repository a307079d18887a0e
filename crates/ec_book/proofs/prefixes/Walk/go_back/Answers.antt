use Rattle.std.proofs.Common.{◌≡◌, ◌<◌, ◌-◌, [], length, take, ap, ◌∙◌, sym, arith}
use Rattle.ec_book.specs.Prefixes.{prefix_at, prefixes_at, walk_view}
use Rattle.ec_book.proofs.OpenLemmas.{path_back}
use Rattle.ec_book.proofs.PrefixLemmas.{node-at, parent-below, root}
use Rattle.ec_book.proofs.prefixes.Walk.go_back.Goals as goal

pub invariant_of-self : goal.invariant_of-self
invariant_of-self c =
    let ns = c.self.inside.nodes.items in
    let ends = c.self.inside.ends.items in
    let inv = c.self.invariant in
    let k = c.self.inside.node in
    let n = c.index.result.now in
    let some : 0 < k = omega (arith, c.if-self-gt0.true) in
    let at = node-at ns ends k n inv.0 some inv.1 c.index.ensures in
    let below = parent-below ns ends k n inv.0 some inv.1 c.index.ensures in (
      inv.0,
      omega (arith, below, inv.1),
      path_back (prefix_at ns n.parent) c.self.inside.path.items c.pop.new.self.items n.place _ (inv.2 ∙ at) (omega (arith, c.self.inside.path.ok.0)) c.pop.ensures.rest,
    )

pub returns-else-self-gt0 : goal.returns-else-self-gt0
returns-else-self-gt0 c =
    let ns = c.self.inside.nodes.items in
    let none : c.self.inside.node ≡ 0 = omega (arith, c.if-self-gt0.false) in
    let empty : c.self.inside.path.items ≡ [] = c.self.invariant.2 ∙ ap (prefix_at ns) none ∙ root ns in
    rw (← c.self.view_is) (λ j. walk_view ((empty ∙ ap (λ w. take (length w - 1) w) (sym empty)) j) (prefixes_at ns c.self.inside.ends.items))

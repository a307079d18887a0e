use Rattle.std.proofs.Common.{◌≡◌, ◌++◌, ◌∷◌, [], length, ap, ◌∙◌, arith, sym}
use Rattle.ec_book.specs.Prefixes.{walk_view}
use Rattle.ec_book.proofs.PrefixLemmas.{pushed, pushed-tree, pushed-here}
use Rattle.ec_book.proofs.prefixes.Walk.go_on.Goals as goal

pub invariant_of-self-2 : goal.invariant_of-self-2
invariant_of-self-2 c =
    let ns = c.self.inside.nodes.items in
    let inv = c.self.invariant in
    let more : c.push_reserved.new.self.items ≡ ns ++ record { parent = c.self.inside.node; place = c.args.place } ∷ [] =
    c.push_reserved.ensures.items ∙ ap (λ w. w ++ record { parent = c.self.inside.node; place = c.args.place } ∷ []) c.in_ok-reserve.ensures.items in
    let path : c.push_reserved-2.new.self.items ≡ c.self.inside.path.items ++ c.args.place ∷ [] =
    c.push_reserved-2.ensures.items ∙ ap (λ w. w ++ c.args.place ∷ []) c.in_ok-reserve-2.ensures.items in
    let at : c.len-self-inside.result ≡ length c.push_reserved.new.self.items = omega (arith, c.len-self-inside.ensures, c.push_reserved.new.self.ok.0) in (
      pushed-tree ns c.push_reserved.new.self.items c.self.inside.ends.items _ inv.0 inv.1 more,
      omega (arith, at),
      path ∙ ap (λ w. w ++ c.args.place ∷ []) inv.2 ∙ sym (pushed-here ns c.push_reserved.new.self.items c.self.inside.ends.items _ c.len-self-inside.result inv.0 inv.1 more at),
    )

pub returns-clause-ok : goal.returns-clause-ok
returns-clause-ok c =
    let more : c.push_reserved.new.self.items ≡ c.self.inside.nodes.items ++ record { parent = c.self.inside.node; place = c.args.place } ∷ [] =
    c.push_reserved.ensures.items ∙ ap (λ w. w ++ record { parent = c.self.inside.node; place = c.args.place } ∷ []) c.in_ok-reserve.ensures.items in
    let path : c.push_reserved-2.new.self.items ≡ c.self.inside.path.items ++ c.args.place ∷ [] =
    c.push_reserved-2.ensures.items ∙ ap (λ w. w ++ c.args.place ∷ []) c.in_ok-reserve-2.ensures.items in
    rw (← c.self.view_is) (λ j. walk_view (path j) (pushed c.self.inside.nodes.items c.push_reserved.new.self.items c.self.inside.ends.items _ c.self.invariant.0 more j))

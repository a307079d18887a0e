use Rattle.std.proofs.Common.{◌≡◌, ◌++◌, length, map, ap, ◌∙◌, arith, refl}
use Rattle.ec_book.specs.Prefixes.{moved, moved_node}
use Rattle.ec_book.proofs.PrefixLemmas.{appended, appended-tree}
use Rattle.ec_book.proofs.prefixes.Prefixes.append.Goals as goal

pub invariant_of-self-2 : goal.invariant_of-self-2
invariant_of-self-2 c =
    let ns = c.self.inside.nodes.items in
    let ms = c.others.inside.nodes.items in
    let nodes_are : c.add_nodes.new.nodes.items ≡ ns ++ map (moved_node (length ns)) ms =
    c.add_nodes.ensures ∙ (λ j. c.in_ok-reserve.ensures.items j ++ map (moved_node (length (c.in_ok-reserve.ensures.items j))) (c.as_slice.ensures.value j)) in
    let base_is : c.len-base.result ≡ length ns = omega (arith, c.len-base.ensures, ap length c.in_ok-reserve.ensures.items, c.reserve.new.self.ok.0) in
    let ends_are : c.add_ends.new.ends.items ≡ c.self.inside.ends.items ++ map (moved (length ns)) c.others.inside.ends.items =
    c.add_ends.ensures ∙ (λ j. c.in_ok-reserve-2.ensures.items j ++ map (moved (base_is j)) (c.as_slice-2.ensures.value j)) in
    appended-tree ns ms c.add_nodes.new.nodes.items c.self.inside.ends.items c.others.inside.ends.items c.add_ends.new.ends.items (length ns) refl c.self.invariant c.others.invariant nodes_are ends_are

pub returns-clause-ok : goal.returns-clause-ok
returns-clause-ok c =
    let ns = c.self.inside.nodes.items in
    let ms = c.others.inside.nodes.items in
    let nodes_are : c.add_nodes.new.nodes.items ≡ ns ++ map (moved_node (length ns)) ms =
    c.add_nodes.ensures ∙ (λ j. c.in_ok-reserve.ensures.items j ++ map (moved_node (length (c.in_ok-reserve.ensures.items j))) (c.as_slice.ensures.value j)) in
    let base_is : c.len-base.result ≡ length ns = omega (arith, c.len-base.ensures, ap length c.in_ok-reserve.ensures.items, c.reserve.new.self.ok.0) in
    let ends_are : c.add_ends.new.ends.items ≡ c.self.inside.ends.items ++ map (moved (length ns)) c.others.inside.ends.items =
    c.add_ends.ensures ∙ (λ j. c.in_ok-reserve-2.ensures.items j ++ map (moved (base_is j)) (c.as_slice-2.ensures.value j)) in
    rw (← c.self.view_is, ← c.others.view_is) (appended ns ms c.add_nodes.new.nodes.items c.self.inside.ends.items c.others.inside.ends.items c.add_ends.new.ends.items (length ns) refl c.self.invariant c.others.invariant nodes_are ends_are)

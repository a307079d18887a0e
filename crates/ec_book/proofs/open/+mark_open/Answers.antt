use Rattle.ec_loads.specs.Search.{node_count, node_counts}
use Rattle.ec_cert.specs.Shapes.{shapes_of}
use Rattle.std.proofs.Common.{◌≡◌, take_all, refl, ◌+◌, ◌<◌, ◌++◌, ◌∷◌, [], length, drop, get_or, arith, ap, ◌∙◌, sym}
use Rattle.ec_loads.specs.Line.{line_by}
use Rattle.ec_cert.specs.Shapes.{shape_of}
use Rattle.ec_cert.proofs.TreeLemmas.{shape_of-trees, nodes_step}
use Rattle.ec_symmetry.specs.Orders.{prefix_of}
use Rattle.ec_symmetry.specs.Ruled.{line_rules}
use Rattle.ec_book.specs.Open.{leaf_places, open_places}
use Rattle.ec_book.proofs.DrawLemmas.{shape_of-OpenLeaf}
use Rattle.ec_book.proofs.OpenLemmas.{closed_places, opened_from, opened_all, opened_short, opened_first, split_opened, child_opened, opened_end, no_kids, append_none, opened_step, path_back}
use Rattle.ec_book.proofs.open.+mark_open.Goals.{in-Some-closed_count, in-None+in_ok-go_on-in-None+in_ok-below-in-None}
use Rattle.ec_book.proofs.open.+mark_open.Goals as goal

pub returns-then-path-order-clause-marked : goal.returns-then-path-order-clause-marked
returns-then-path-order-clause-marked t c =
    let loads = c.args.loads.now in
    opened_short (line_by (line_rules c.args.rules) loads.loads loads.slots) c.args.order.now c.args.tree.now c.as_ref-trees.result.now c.args.walk.now.path c.args.walk.now.marked
    (shape_of-trees c.args.tree.now c.in-Split.trees c.as_ref-trees.result.now c.in-Split.is c.as_ref-trees.ensures) (omega (arith, c.if-path-order.true, ap length c.path-path.ensures))

pub next_children-places-requires-clause-order : goal.next_children-places-requires-clause-order
next_children-places-requires-clause-order t c = c.requires.order

pub next_children-places-requires-clause-few : goal.next_children-places-requires-clause-few
next_children-places-requires-clause-few t c = omega (arith, c.if-path-order.false, ap length c.path-path.ensures)

pub loop-i-init : goal.loop-i-init
loop-i-init t c =
    let loads = c.args.loads.now in
    let order = c.args.order.now in
    let path = c.args.walk.now.path in
    let u = c.from-unit.result in
    let long : length c.path-path.result.now ≡ length path = ap length c.path-path.ensures in
    let next : get_or order (length c.path-path.result.now) 0 ≡ u = (λ j. get_or order (length (c.path-path.ensures j)) 0) ∙ ap (λ w. get_or order w 0) (sym long) ∙ sym c.from-unit.ensures in
    record {
      path = refl;
      marked =
          opened_first (line_by (line_rules c.args.rules) loads.loads loads.slots) order c.as_ref-trees.result.now.items u _ path c.path-path.result.now c.next_children-places.result c.args.walk.now.marked
          c.path-path.ensures next c.next_children-places.ensures;
      count = refl;
    }

pub returns-in_default-next-clause-marked : goal.returns-in_default-next-clause-marked
returns-in_default-next-clause-marked t c =
    let q = c.args.walk.now.path in
    let order = c.args.order.now in
    let loads = c.args.loads.now in
    let u = c.from-unit.result in
    let long : length c.path-path.result.now ≡ length q = ap length c.path-path.ensures in
    let short : length q < length order = omega (arith, c.if-path-order.false, long) in
    let at : u ≡ get_or order (length q) 0 = c.from-unit.ensures ∙ ap (λ w. get_or order w 0) long in
    let whole = split_opened (line_by (line_rules c.args.rules) loads.loads loads.slots) order c.args.tree.now c.as_ref-trees.result.now u q (shape_of-trees c.args.tree.now c.in-Split.trees c.as_ref-trees.result.now c.in-Split.is c.as_ref-trees.ensures) short at in
    let none = no_kids (line_by (line_rules c.args.rules) loads.loads loads.slots) order (drop c.loop-i.i c.as_ref-trees.result.now.items) u q c.loop-i.places c.in_default-next.ensures.steps.0 in
    sym (append_none c.loop-i.walk.marked) ∙ ap (λ w. c.loop-i.walk.marked ++ w) (sym none) ∙ c.loop-i.invariant.marked ∙ ap (λ w. c.args.walk.now.marked ++ w) (sym whole)

pub returns-after-loop-i-clause-marked : goal.returns-after-loop-i-clause-marked
returns-after-loop-i-clause-marked t c =
    let q = c.args.walk.now.path in
    let order = c.args.order.now in
    let loads = c.args.loads.now in
    let u = c.from-unit.result in
    let long : length c.path-path.result.now ≡ length q = ap length c.path-path.ensures in
    let short : length q < length order = omega (arith, c.if-path-order.false, long) in
    let at : u ≡ get_or order (length q) 0 = c.from-unit.ensures ∙ ap (λ w. get_or order w 0) long in
    let whole = split_opened (line_by (line_rules c.args.rules) loads.loads loads.slots) order c.args.tree.now c.as_ref-trees.result.now u q (shape_of-trees c.args.tree.now c.in-Split.trees c.as_ref-trees.result.now c.in-Split.is c.as_ref-trees.ensures) short at in
    let none = opened_end (line_by (line_rules c.args.rules) loads.loads loads.slots) order c.as_ref-trees.result.now.items u q c.loop-i.places c.loop-i.i (omega (arith, c.loop-i-test.false, c.len-i-end.ensures)) in
    sym (append_none c.loop-i.walk.marked) ∙ ap (λ w. c.loop-i.walk.marked ++ w) (sym none) ∙ c.loop-i.invariant.marked ∙ ap (λ w. c.args.walk.now.marked ++ w) (sym whole)

pub loop-i-preserved : goal.loop-i-preserved
loop-i-preserved t c =
    let q = c.args.walk.now.path in
    let order = c.args.order.now in
    let loads = c.args.loads.now in
    let line = line_by (line_rules c.args.rules) loads.loads loads.slots in
    let u = c.from-unit.result in
    let long : length c.path-path.result.now ≡ length q = ap length c.path-path.ensures in
    let short : length q < length order = omega (arith, c.if-path-order.false, long) in
    let at : u ≡ get_or order (length q) 0 = c.from-unit.ensures ∙ ap (λ w. get_or order w 0) long in
    let ts = c.as_ref-trees.result.now.items in
    let i = c.loop-i.i in
    let p = c.in-Some.place in
    let rest = opened_from line order (drop (i + 1) ts) u q c.next.new.self in
    let all = opened_from line order (drop i ts) u q c.loop-i.places in
    let whole = c.args.walk.now.marked ++ opened_all line order ts u q in
    let within : i < length ts = omega (arith, c.loop-i-test.true, c.len-i-end.ensures) in
    elim c.match-closed_count.branch [
      | in-Some-closed_count w ↦
          let x = c.index.result.now in
          let is = w.in-Some-closed_count.ensures in
          let child = child_opened line order ts u q c.loop-i.places c.next.new.self p i x short at within c.index.ensures c.in-Some.ensures.steps in
          let step = nodes_step ts i x within c.index.ensures in
          record {
            path = (λ j. (w.walk-is j).path) ∙ c.loop-i.invariant.path;
            marked =
                (λ j. (w.walk-is j).marked ++ rest)
                ∙ opened_step c.loop-i.walk.marked c.loop-i.walk.marked [] rest all whole (sym (append_none c.loop-i.walk.marked)) (child ∙ ap (λ v. v ++ rest) (closed_places line (shape_of x) (prefix_of loads.loads order (q ++ p ∷ [])) (drop (length (q ++ p ∷ [])) order) (q ++ p ∷ []) is.0)) c.loop-i.invariant.marked;
            count = omega (arith, step, is.1, w.more-is, c.loop-i.invariant.count, c.saturating_add-count.ensures);
          }
      | in-None+in_ok-go_on-in-None+in_ok-below-in-None w ↦
          let gone = w.in_ok-go_on-in-None.ensures.ok in
          let below = w.in_ok-below-in-None.ensures in
          let longer : w.go_on.new.self.path ≡ q ++ p ∷ [] = (λ j. (gone j).path) ∙ ap (λ v. v ++ p ∷ []) c.loop-i.invariant.path in
          let x = w.index-in-None.result.now in
          let child = child_opened line order ts u q c.loop-i.places c.next.new.self p i x short at within w.index-in-None.ensures c.in-Some.ensures.steps in
          let made : w.mark_open.new.walk.marked ≡ c.loop-i.walk.marked ++ open_places line order (shape_of x) (q ++ p ∷ []) = below.marked ∙ (λ j. (gone j).marked ++ open_places line order (shape_of x) (longer j)) in
          let step = nodes_step ts i x within w.index-in-None.ensures in
          record {
            path = (λ j. (w.walk-is j).path) ∙ path_back q w.mark_open.new.walk.path w.go_back.new.self.path p _ (below.path ∙ longer) refl (λ j. (w.go_back.ensures j).path);
            marked =
                (λ j. ((w.walk-is ∙ w.go_back.ensures) j).marked ++ rest)
                ∙ opened_step c.loop-i.walk.marked w.mark_open.new.walk.marked (open_places line order (shape_of x) (q ++ p ∷ [])) rest all whole made child c.loop-i.invariant.marked;
            count = omega (arith, step, below.nodes, w.more-is, c.loop-i.invariant.count, c.saturating_add-count.ensures);
          }
    ]

pub returns-after-loop-i-clause-nodes : goal.returns-after-loop-i-clause-nodes
returns-after-loop-i-clause-nodes t c =
    let ts = c.as_ref-trees.result.now.items in
    let all = ap (λ w. node_counts (shapes_of w)) (take_all c.loop-i.i ts (omega (arith, c.loop-i-test.false, c.len-i-end.ensures))) in
    let whole = ap node_count (shape_of-trees c.args.tree.now c.in-Split.trees c.as_ref-trees.result.now c.in-Split.is c.as_ref-trees.ensures) in
    omega (arith, all, whole, c.loop-i.invariant.count)

pub returns-in_ok-mark-in-OpenLeaf-clause-marked : goal.returns-in_ok-mark-in-OpenLeaf-clause-marked
returns-in_ok-mark-in-OpenLeaf-clause-marked t c =
    let q = c.args.walk.now.path in
    let order = c.args.order.now in
    let loads = c.args.loads.now in
    let leaf = ap shape_of c.in-OpenLeaf.is ∙ shape_of-OpenLeaf in
    (λ j. (c.in_ok-mark-in-OpenLeaf.ensures.ok j).marked)
    ∙ ap (λ s. c.args.walk.now.marked ++ leaf_places (line_by (line_rules c.args.rules) loads.loads loads.slots) s (prefix_of loads.loads order q) (drop (length q) order) q) (sym leaf)

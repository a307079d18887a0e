use Rattle.std.proofs.Common.{◌≡◌, ◌+◌, ap, ◌++◌, ◌∷◌, [], arith, refl, ◌∙◌, set, replicate, drop, ◌≤◌, ◌<◌, length, length-append}
use Rattle.ec_loads.specs.Line.{line_by}
use Rattle.ec_loads.specs.Search.{node_count, IsPartialTree}
use Rattle.ec_cert.specs.Shapes.{shape_of}
use Rattle.ec_symmetry.specs.Ruled.{line_rules}
use Rattle.ec_book.specs.declared.piece.Piece.TheVariants.{Free, Taken, Ended}
use Rattle.ec_symmetry.specs.Orders.{prefix_of}
use Rattle.ec_book.specs.Open.{AreOpened, open_places}
use Rattle.ec_book.specs.declared.step.Step.TheVariants.{Reported}
use Rattle.ec_cert.specs.IsBestPlan.{value_of}
use Rattle.ec_book.specs.Steps.{start}
use Rattle.ec_book.specs.Views.{book_view}
use Rattle.ec_book.specs.Faults.{IsWelcome, IsReportFault}
use Rattle.ec_book.proofs.HistoryLemmas.{granted-le, taken-le}
use Rattle.ec_book.proofs.PieceLemmas.{within}
use Rattle.ec_book.specs.Parts.{is_of_part}
use Rattle.ec_book.proofs.ShareLemmas.{parted-report}
use Rattle.ec_book.proofs.KeepLemmas.{counted-report, grown-report}
use Rattle.ec_book.proofs.OpenLemmas.{added}
use Rattle.ec_book.proofs.book.Book.report_counted.Goals as goal

pub judged-requires : goal.judged-requires
judged-requires c = rw c.as_slice-pieces.ensures.value (record { each = c.self.invariant.grown.each })

pub returns-in-Err-clause-err : goal.returns-in-Err-clause-err
returns-in-Err-clause-err c =
    let b = c.self.inside in
    let sub = c.args.counted.sub in
    let fault : IsReportFault b.pieces.items b.prefixes (value_of b.best) c.args.worker c.args.piece c.args.prefix.now sub.threshold (node_count (shape_of sub.tree)) c.in-Err.fault =
    rw (c.as_slice-pieces.ensures.value, c.value_in-value.ensures) at c.in-Err.ensures.err in
    rw (← c.self.view_is) (fault, refl, refl)

pub returns-in-Err-add_opened-clause-err : goal.returns-in-Err-add_opened-clause-err
returns-in-Err-add_opened-clause-err c =
    let b = c.self.inside in
    let sub = c.args.counted.sub in
    let welcome : IsWelcome b.pieces.items b.prefixes (value_of b.best) c.args.worker c.args.piece c.args.prefix.now sub.threshold (node_count (shape_of sub.tree)) c.in-Ok.grant =
    rw (c.as_slice-pieces.ensures.value, c.value_in-value.ensures) at c.in-Ok.ensures.ok in
    rw (← c.self.view_is) ((c.in-Ok.grant, welcome), refl, λ j. book_view b.loads.loads b.loads.slots b.order.items (line_rules b.rules) b.nodes (c.in-Err-add_opened.ensures.same.0 j) (c.in-Err-add_opened.ensures.kept j) b.best b.spent b.log.items (shape_of b.given) b.given_value b.part)

pub push_reserved-requires : goal.push_reserved-requires
push_reserved-requires c =
    let b = c.self.inside in
    let inv = c.self.invariant in
    let sub = c.args.counted.sub in
    let welcome : IsWelcome b.pieces.items b.prefixes (value_of b.best) c.args.worker c.args.piece c.args.prefix.now sub.threshold (node_count (shape_of sub.tree)) c.in-Ok.grant =
    rw (c.as_slice-pieces.ensures.value, c.value_in-value.ensures) at c.in-Ok.ensures.ok in
    let one = taken-le b.pieces.items c.args.piece (Taken c.args.worker c.in-Ok.grant) welcome.held in
    omega (arith, inv.counted.room_is, inv.counted.taken_is, one, b.log.ok.0)

pub index_mut-requires : goal.index_mut-requires
index_mut-requires c =
    let b = c.self.inside in
    let sub = c.args.counted.sub in
    let welcome : IsWelcome b.pieces.items b.prefixes (value_of b.best) c.args.worker c.args.piece c.args.prefix.now sub.threshold (node_count (shape_of sub.tree)) c.in-Ok.grant =
    rw (c.as_slice-pieces.ensures.value, c.value_in-value.ensures) at c.in-Ok.ensures.ok in
    let here : c.args.piece < length c.add_opened.new.pieces.items = rw c.add_opened.ensures.same.0 (within b.pieces.items c.args.piece (Taken c.args.worker c.in-Ok.grant) welcome.held) in
    omega (arith, here, c.add_opened.new.pieces.ok.0)

pub overflow_sub-self : goal.overflow_sub-self
overflow_sub-self c =
    let b = c.self.inside in
    let inv = c.self.invariant in
    let sub = c.args.counted.sub in
    let welcome : IsWelcome b.pieces.items b.prefixes (value_of b.best) c.args.worker c.args.piece c.args.prefix.now sub.threshold (node_count (shape_of sub.tree)) c.in-Ok.grant =
    rw (c.as_slice-pieces.ensures.value, c.value_in-value.ensures) at c.in-Ok.ensures.ok in
    omega (arith, inv.counted.held_is, granted-le b.pieces.items c.args.piece (Taken c.args.worker c.in-Ok.grant) welcome.held, c.from.ensures)

pub overflow_sub-self-2 : goal.overflow_sub-self-2
overflow_sub-self-2 c =
    let b = c.self.inside in
    let inv = c.self.invariant in
    let sub = c.args.counted.sub in
    let welcome : IsWelcome b.pieces.items b.prefixes (value_of b.best) c.args.worker c.args.piece c.args.prefix.now sub.threshold (node_count (shape_of sub.tree)) c.in-Ok.grant =
    rw (c.as_slice-pieces.ensures.value, c.value_in-value.ensures) at c.in-Ok.ensures.ok in
    omega (arith, inv.counted.taken_is, taken-le b.pieces.items c.args.piece (Taken c.args.worker c.in-Ok.grant) welcome.held)

pub overflow_add-self : goal.overflow_add-self
overflow_add-self c =
    let b = c.self.inside in
    let inv = c.self.invariant in
    let sub = c.args.counted.sub in
    let welcome : IsWelcome b.pieces.items b.prefixes (value_of b.best) c.args.worker c.args.piece c.args.prefix.now sub.threshold (node_count (shape_of sub.tree)) c.in-Ok.grant =
    rw (c.as_slice-pieces.ensures.value, c.value_in-value.ensures) at c.in-Ok.ensures.ok in
    let low = granted-le b.pieces.items c.args.piece (Taken c.args.worker c.in-Ok.grant) welcome.held in
    omega (arith, inv.counted.held_is, inv.counted.within, low, welcome.fits, c.in-Ok.ensures.nodes, c.self.ranges)

pub invariant_of-self-2 : goal.invariant_of-self-2
invariant_of-self-2 c =
    let b = c.self.inside in
    let inv = c.self.invariant in
    let sub = c.args.counted.sub in
    let welcome : IsWelcome b.pieces.items b.prefixes (value_of b.best) c.args.worker c.args.piece c.args.prefix.now sub.threshold (node_count (shape_of sub.tree)) c.in-Ok.grant =
    rw (c.as_slice-pieces.ensures.value, c.value_in-value.ensures) at c.in-Ok.ensures.ok in
    let loads = b.loads.loads in
    let slots = b.loads.slots in
    let line = line_by (line_rules b.rules) loads slots in
    let order = b.order.items in
    let p = c.args.piece in
    let g = c.in-Ok.grant in
    let k = c.args.counted.nodes in
    let count = c.in-Ok-add_opened.count in
    let first = c.len-first.result in
    let shape = shape_of sub.tree in
    let q = c.args.prefix.now in
    let partial : IsPartialTree line sub.threshold shape (prefix_of loads order q) (drop (length q) order) = rw (← c.self.view_is) at c.requires.tree in
    let known : AreOpened line order shape q c.args.counted.opened = rw (← c.self.view_is) at c.requires.opened in
    let more = added line order shape q c.args.counted.opened count b.prefixes c.add_opened.new.prefixes known c.in-Ok-add_opened.ensures.known in
    let first_is : first ≡ length b.pieces.items = omega (arith, c.len-first.ensures, b.pieces.ok.0) in
    let pieces_are : c.add_free.new.pieces.items ≡ set b.pieces.items p Ended ++ replicate count Free =
    c.add_free.ensures ∙ (λ j. set (c.add_opened.ensures.same.0 j) p Ended ++ replicate count Free) in
    let reports_are : c.push_reserved-2.new.self.items ≡ b.reports.items ++ (record { piece = p; first = length b.pieces.items; tree = sub.tree }) ∷ [] =
    c.push_reserved-2.ensures.items ∙ (λ j. c.add_opened.ensures.same.1 j ++ (record { piece = p; first = first_is j; tree = sub.tree }) ∷ []) in
    let some : 1 ≤ k = omega (arith, c.in-Ok.ensures.nodes, c.requires.some) in
    let few : k ≤ g = omega (arith, c.in-Ok.ensures.nodes, welcome.fits) in
    rw (c.from.ensures, c.push_reserved.ensures.capacity) (record {
      for = inv.for;
      counted =
          counted-report (is_of_part b.part b.first) (start (shape_of b.given) b.given_value) b.nodes b.pieces.items (value_of b.best) b.spent b.held b.taken b.low b.log.items _ inv.counted c.args.worker p g k first count
          c.add_free.new.pieces.items c.push_reserved.new.self.items welcome.held some few first_is pieces_are c.push_reserved.ensures.items;
      grown =
          grown-report (shape_of b.given) line order b.pieces.items b.prefixes b.reports.items (value_of b.best) b.spent inv.grown p c.args.worker g k count q sub.threshold sub.tree
          c.add_free.new.pieces.items c.add_opened.new.prefixes c.push_reserved-2.new.self.items welcome.held welcome.place welcome.ahead partial c.in-Ok.ensures.nodes more.0 pieces_are more.1 reports_are;
      spare = record {
        none = c.add_opened.ensures.leaves ∙ inv.spare.none;
        each = omega (arith, c.in-Ok-add_opened.ensures.leaf, ap length more.1, length-append b.prefixes (open_places line order shape q), more.0, inv.grown.each, c.add_opened.new.pieces.ok.0, ap length c.add_opened.ensures.same.0);
      };
      shared = record {
        part_is = inv.shared.part_is;
        first_is = inv.shared.first_is;
        parted =
            parted-report (is_of_part b.part b.first) b.pieces.items b.reports.items inv.shared.parted p c.args.worker g count c.add_free.new.pieces.items c.push_reserved-2.new.self.items
            (record { piece = p; first = length b.pieces.items; tree = sub.tree }) welcome.held refl pieces_are reports_are;
      };
    })

pub returns-clause-welcome : goal.returns-clause-welcome
returns-clause-welcome c =
    let b = c.self.inside in
    let sub = c.args.counted.sub in
    let welcome : IsWelcome b.pieces.items b.prefixes (value_of b.best) c.args.worker c.args.piece c.args.prefix.now sub.threshold (node_count (shape_of sub.tree)) c.in-Ok.grant =
    rw (c.as_slice-pieces.ensures.value, c.value_in-value.ensures) at c.in-Ok.ensures.ok in
    rw (← c.self.view_is) (c.in-Ok.grant, welcome)

pub returns-clause-ok : goal.returns-clause-ok
returns-clause-ok c =
    let b = c.self.inside in
    let sub = c.args.counted.sub in
    let line = line_by (line_rules b.rules) b.loads.loads b.loads.slots in
    let order = b.order.items in
    let p = c.args.piece in
    let count = c.in-Ok-add_opened.count in
    let first_is : c.len-first.result ≡ length b.pieces.items = omega (arith, c.len-first.ensures, b.pieces.ok.0) in
    let known : AreOpened line order (shape_of sub.tree) c.args.prefix.now c.args.counted.opened = rw (← c.self.view_is) at c.requires.opened in
    let more = added line order (shape_of sub.tree) c.args.prefix.now c.args.counted.opened count b.prefixes c.add_opened.new.prefixes known c.in-Ok-add_opened.ensures.known in
    let pieces_are : c.add_free.new.pieces.items ≡ set b.pieces.items p Ended ++ replicate count Free =
    c.add_free.ensures ∙ (λ j. set (c.add_opened.ensures.same.0 j) p Ended ++ replicate count Free) in
    let log_is : c.push_reserved.new.self.items ≡ b.log.items ++ (Reported c.args.worker p (node_count (shape_of sub.tree)) (length b.pieces.items) (length (open_places line order (shape_of sub.tree) c.args.prefix.now))) ∷ [] =
    c.push_reserved.ensures.items ∙ (λ j. b.log.items ++ (Reported c.args.worker p (c.in-Ok.ensures.nodes j) (first_is j) (more.0 j)) ∷ []) in
    rw (← c.self.view_is) (λ j. book_view b.loads.loads b.loads.slots order (line_rules b.rules) b.nodes ((pieces_are ∙ ap (λ n. set b.pieces.items p Ended ++ replicate n Free) more.0) j) (more.1 j) b.best (b.spent + c.in-Ok.ensures.nodes j) (log_is j) (shape_of b.given) b.given_value b.part)

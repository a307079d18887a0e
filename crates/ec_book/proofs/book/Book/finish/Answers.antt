use Rattle.std.proofs.Common.{◌≡◌, ◌∙◌, refl, sym, ap, arith, subst, All}
use Rattle.ec_loads.specs.Line.{line_by}
use Rattle.ec_cert.specs.Shapes.{shape_of}
use Rattle.ec_cert.specs.IsBestPlan.{value_of}
use Rattle.ec_symmetry.specs.Ruled.{line_rules}
use Rattle.ec_book.specs.Numbered.{numbered, plain}
use Rattle.ec_book.specs.Grown.{grown}
use Rattle.ec_book.specs.Parts.{is_of_part, IsReportOf, LeavesOthers, NoneIsLeft}
use Rattle.ec_book.specs.Steps.{start, live_count}
use Rattle.ec_book.proofs.HistoryLemmas.{history-replays, history-falls}
use Rattle.ec_book.proofs.ClosedLemmas.{part_closed}
use Rattle.ec_book.proofs.FinishLemmas.{drawn, drawn-partial, drawn-nodes, drawn-open, drawn-closed, drawn-extends, drawn-others}
use Rattle.ec_book.proofs.book.Book.finish.Goals as goal

pub open_leaves-built-requires-clause-none : goal.open_leaves-built-requires-clause-none
open_leaves-built-requires-clause-none c = c.self.invariant.spare.none

pub open_leaves-built-requires-clause-room : goal.open_leaves-built-requires-clause-room
open_leaves-built-requires-clause-room c = omega (arith, c.self.invariant.grown.each, c.self.invariant.spare.each, c.self.inside.pieces.ok.0, c.len.ensures)

pub returns-clause-ok : goal.returns-clause-ok
returns-clause-ok c =
    let b = c.self.inside in
    let line = line_by (line_rules b.rules) b.loads.loads b.loads.slots in
    let order = b.order.items in
    let pieces = b.pieces.items in
    let prefixes = b.prefixes in
    let reports = b.reports.items in
    let value = value_of b.best in
    let given = shape_of b.given in
    let made = c.self.invariant.grown in
    let past = c.self.invariant.counted.history in
    let shape = shape_of c.assembled-tree.result in
    let is : shape ≡ plain (grown (numbered 0 given) reports) = drawn given line order pieces prefixes reports value b.spent made c.len.result _ _ c.assembled-tree.ensures c.open_leaves-built.ensures in
    let others : LeavesOthers b.part given shape =
    drawn-others given line order pieces prefixes reports value b.spent made b.part shape is (subst (λ n. All (IsReportOf (is_of_part b.part n)) reports) c.self.invariant.shared.first_is c.self.invariant.shared.parted.reported) in
    rw (← c.self.view_is) (record {
      best = refl;
      legal = c.self.invariant.for.best_is;
      tree = drawn-partial given line order pieces prefixes reports value b.spent made shape is;
      closed = drawn-closed given line order pieces prefixes reports value b.spent made shape is;
      pieces = (grown (numbered 0 given) reports, is, made.pieces_are, made.tree);
      live = drawn-open given line order pieces prefixes reports value b.spent made shape is;
      left =
          let live = c.open_pieces-left.ensures ∙ ap (λ v. live_count v.pieces) (sym c.self.view_is) in
          let open_leaves = drawn-open given line order pieces prefixes reports value b.spent made shape is in
          omega (arith, live, open_leaves);
      spent = refl;
      nodes = drawn-nodes given line order pieces prefixes reports value b.spent made shape is;
      log = c.new.ensures;
      history = rw c.new.ensures past;
      replayed = rw c.new.ensures (history-replays b.nodes (start given b.given_value) b.log.items (record { pieces = pieces; value = value; spent = b.spent }) past);
      extends = drawn-extends given line order pieces prefixes reports value b.spent made shape is;
      others = others;
      done = λ yes. part_closed b.part given shape pieces others (drawn-open given line order pieces prefixes reports value b.spent made shape is)
          (subst (λ n. NoneIsLeft (is_of_part b.part n) pieces) c.self.invariant.shared.first_is (subst (NoneIsLeft (is_of_part b.part b.first)) c.as_slice.ensures.value (c.none_is_left-done.ensures.0 yes)));
      falls = history-falls b.nodes (start given b.given_value) b.log.items (record { pieces = pieces; value = value; spent = b.spent }) past;
      within = omega (arith, c.self.invariant.counted.within);
    })

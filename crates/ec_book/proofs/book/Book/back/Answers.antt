use Rattle.std.proofs.Common.{arith, refl, set}
use Rattle.ec_loads.specs.Line.{line_by}
use Rattle.ec_cert.specs.Shapes.{shape_of}
use Rattle.ec_symmetry.specs.Ruled.{line_rules}
use Rattle.ec_book.specs.declared.piece.Piece.TheVariants.{Free, Taken}
use Rattle.ec_cert.specs.IsBestPlan.{value_of}
use Rattle.ec_book.specs.Steps.{start}
use Rattle.ec_book.specs.Views.{book_view}
use Rattle.ec_book.proofs.HistoryLemmas.{granted-le, taken-le}
use Rattle.ec_book.proofs.PieceLemmas.{within}
use Rattle.ec_book.specs.Parts.{is_of_part}
use Rattle.ec_book.proofs.ShareLemmas.{parted-back}
use Rattle.ec_book.proofs.KeepLemmas.{counted-back, grown-set}
use Rattle.ec_book.proofs.book.Book.back.Goals as goal

pub returns-in-Err-clause-err : goal.returns-in-Err-clause-err
returns-in-Err-clause-err c =
    let fault = rw c.as_slice.ensures.value at c.in-Err.ensures.err in
    rw (← c.self.view_is) (fault, refl)

pub push_reserved-requires : goal.push_reserved-requires
push_reserved-requires c =
    let b = c.self.inside in
    let counted = c.self.invariant.counted in
    let at = rw c.as_slice.ensures.value at c.in-Ok.ensures.ok in
    let one = taken-le b.pieces.items c.args.piece (Taken c.args.worker c.in-Ok.grant) at in
    omega (arith, counted.room_is, counted.taken_is, one, b.log.ok.0)

pub index_mut-requires : goal.index_mut-requires
index_mut-requires c =
    let b = c.self.inside in
    let at = rw c.as_slice.ensures.value at c.in-Ok.ensures.ok in
    omega (arith, within b.pieces.items c.args.piece (Taken c.args.worker c.in-Ok.grant) at, b.pieces.ok.0)

pub overflow_sub-self : goal.overflow_sub-self
overflow_sub-self c =
    let b = c.self.inside in
    let at = rw c.as_slice.ensures.value at c.in-Ok.ensures.ok in
    omega (arith, c.self.invariant.counted.held_is, granted-le b.pieces.items c.args.piece (Taken c.args.worker c.in-Ok.grant) at, c.from.ensures)

pub overflow_sub-self-2 : goal.overflow_sub-self-2
overflow_sub-self-2 c =
    let b = c.self.inside in
    let at = rw c.as_slice.ensures.value at c.in-Ok.ensures.ok in
    omega (arith, c.self.invariant.counted.taken_is, taken-le b.pieces.items c.args.piece (Taken c.args.worker c.in-Ok.grant) at)

pub invariant_of-self : goal.invariant_of-self
invariant_of-self c =
    let b = c.self.inside in
    let inv = c.self.invariant in
    let at = rw c.as_slice.ensures.value at c.in-Ok.ensures.ok in
    rw (c.from.ensures, c.min-self-inside.ensures, c.push_reserved.ensures.capacity) (record {
      for = inv.for;
      counted =
          counted-back (is_of_part b.part b.first) (start (shape_of b.given) b.given_value) b.nodes b.pieces.items (value_of b.best) b.spent b.held b.taken b.low b.log.items _ inv.counted c.args.worker c.args.piece c.in-Ok.grant
          c.push_reserved.new.self.items at c.push_reserved.ensures.items;
      grown = grown-set (shape_of b.given) (line_by (line_rules b.rules) b.loads.loads b.loads.slots) b.order.items b.pieces.items b.prefixes b.reports.items (value_of b.best) b.spent inv.grown c.args.piece (Taken c.args.worker c.in-Ok.grant) Free at refl;
      spare = inv.spare;
      shared = record { part_is = inv.shared.part_is; first_is = inv.shared.first_is; parted = parted-back (is_of_part b.part b.first) b.pieces.items b.reports.items inv.shared.parted c.args.piece };
    })

pub returns-clause-ok : goal.returns-clause-ok
returns-clause-ok c =
    let b = c.self.inside in
    rw (← c.self.view_is) (λ j. book_view b.loads.loads b.loads.slots b.order.items (line_rules b.rules) b.nodes (set b.pieces.items c.args.piece Free) b.prefixes b.best b.spent (c.push_reserved.ensures.items j) (shape_of b.given) b.given_value b.part)

pub returns-clause-held : goal.returns-clause-held
returns-clause-held c =
    let at = rw c.as_slice.ensures.value at c.in-Ok.ensures.ok in
    rw (← c.self.view_is) (c.in-Ok.grant, at)

use Rattle.std.proofs.Common.{◌≡◌, true, ap, ◌<◌, ◌+◌, ◌-◌, arith, refl, sym, ◌∙◌, vec_capacity, slice_get, Some, rules}
use Rattle.std.proofs.lemmas.Option.{slice_get_within}
use Rattle.ec_loads.specs.Line.{line_by}
use Rattle.ec_loads.specs.Search.{open_count}
use Rattle.ec_cert.specs.Shapes.{shape_of}
use Rattle.ec_symmetry.specs.Ruled.{line_rules}
use Rattle.ec_book.specs.declared.piece.Piece.TheVariants.{Free, Taken}
use Rattle.ec_cert.specs.IsBestPlan.{value_of}
use Rattle.ec_book.specs.Steps.{start, granted}
use Rattle.ec_book.specs.Parts.{is_of_part}
use Rattle.ec_book.proofs.ShareLemmas.{parted-took}
use Rattle.ec_book.proofs.KeepLemmas.{reached_at, counted-took, grown-set}
use Rattle.ec_book.proofs.book.Book.hand_out.Goals as goal

pub invariant_of-self-2 : goal.invariant_of-self-2
invariant_of-self-2 c =
    let b = c.self.inside in
    let inv = c.self.invariant in
    let counted = inv.counted in
    let g = c.min-grant.result in
    let p = c.args.at in
    let free : (slice_get b.pieces.items p ≡ Some Free) × (is_of_part b.part (open_count (shape_of b.given)) p ≡ true) = rw (← c.self.view_is) at c.requires.free in
    let at = free.0 in
    let own : is_of_part b.part b.first p ≡ true = ap (λ n. is_of_part b.part n p) inv.shared.first_is ∙ free.1 in
    let some : 0 < b.nodes - (b.spent + granted b.pieces.items) = rw (← c.self.view_is) at c.requires.left in
    let left : c.left.result ≡ b.nodes - (b.spent + granted b.pieces.items) = rw (← c.self.view_is) at c.left.ensures in
    let log_is = rw c.in-Ok-reserve.ensures.items at c.push_reserved.ensures.items in
    rw c.from-2.ensures (record {
      for = inv.for;
      counted =
          counted-took (is_of_part b.part b.first) (start (shape_of b.given) b.given_value) b.nodes b.pieces.items (value_of b.best) b.spent b.held b.taken b.low b.log.items _ inv.counted c.args.worker p g
          (vec_capacity c.push_reserved.new.self) c.push_reserved.new.self.items at
          (omega (arith, c.min-grant.ensures, c.from.ensures, some, left, c.requires.some)) (omega (arith, c.min-grant.ensures, left, counted.held_is)) log_is
          (omega (arith, c.in-Ok-reserve.ensures.ok, c.in-Some.ensures.1, c.push_reserved.ensures.capacity, c.reserve.ensures.len, b.log.ok.0));
      grown = grown-set (shape_of b.given) (line_by (line_rules b.rules) b.loads.loads b.loads.slots) b.order.items b.pieces.items b.prefixes b.reports.items (value_of b.best) b.spent inv.grown p Free (Taken c.args.worker g) at refl;
      spare = inv.spare;
      shared = record { part_is = inv.shared.part_is; first_is = inv.shared.first_is; parted = parted-took (is_of_part b.part b.first) b.pieces.items b.reports.items inv.shared.parted p c.args.worker g own };
    })

pub returns-clause-ok : goal.returns-clause-ok
returns-clause-ok c =
    let b = c.self.inside in
    let grown = c.self.invariant.grown in
    let place : slice_get b.prefixes c.args.at ≡ Some c.new.result = c.in-Ok.ensures ∙ ap Some (sym c.new.ensures) in (
      refl,
      record {
        free = c.requires.free.0;
        own = c.requires.free.1;
        place = rw (← c.self.view_is) place;
        reached = rw (← c.self.view_is) (reached_at (line_by (line_rules b.rules) b.loads.loads b.loads.slots) b.order.items b.prefixes c.args.at c.new.result place grown.reached);
        value = search rules;
        grant = search rules;
        some = search rules;
        book = search rules;
      },
    )

pub places-requires : goal.places-requires
places-requires c =
    let b = c.self.inside in
    let free : (slice_get b.pieces.items c.args.at ≡ Some Free) × (is_of_part b.part (open_count (shape_of b.given)) c.args.at ≡ true) = rw (← c.self.view_is) at c.requires.free in
    omega (arith, slice_get_within b.pieces.items c.args.at Free free.0, c.self.invariant.grown.each)

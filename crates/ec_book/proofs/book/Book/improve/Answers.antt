use Rattle.std.proofs.Common.{arith, vec_capacity, rules}
use Rattle.ec_loads.specs.Line.{line_by}
use Rattle.ec_cert.specs.Shapes.{shape_of}
use Rattle.ec_symmetry.specs.Ruled.{line_rules}
use Rattle.ec_book.specs.Steps.{start, IsBelow}
use Rattle.ec_book.specs.Faults.{IsPlanOf}
use Rattle.ec_cert.specs.IsBestPlan.{value_of}
use Rattle.ec_book.specs.Parts.{is_of_part}
use Rattle.ec_book.proofs.KeepLemmas.{counted-better, grown-better}
use Rattle.ec_book.proofs.book.Book.improve.Goals as goal

pub invariant_of-self-2 : goal.invariant_of-self-2
invariant_of-self-2 c =
    let b = c.self.inside in
    let inv = c.self.invariant in
    let v = c.args.best.busiest in
    let below : IsBelow v (value_of b.best) = rw c.value_in.ensures at c.in_default.ensures in
    let log_is = rw c.in-Ok.ensures.items at c.push_reserved.ensures.items in
    let plan : IsPlanOf b.loads.loads b.loads.slots c.args.best.plan.places v = rw (← c.self.view_is) at c.requires.plan in
    record {
      for = record { order_is = inv.for.order_is; empty = inv.for.empty; best_is = plan };
      counted =
          counted-better (is_of_part b.part b.first) (start (shape_of b.given) b.given_value) b.nodes b.pieces.items (value_of b.best) b.spent b.held b.taken b.low b.log.items _ inv.counted c.args.worker v
          (vec_capacity c.push_reserved.new.self) c.push_reserved.new.self.items below log_is
          (omega (arith, c.in-Ok.ensures.ok, c.in-Some-checked_add.ensures.1, c.push_reserved.ensures.capacity, c.reserve.ensures.len, b.log.ok.0));
      grown = grown-better (shape_of b.given) (line_by (line_rules b.rules) b.loads.loads b.loads.slots) b.order.items b.pieces.items b.prefixes b.reports.items (value_of b.best) b.spent inv.grown v below;
      spare = inv.spare;
      shared = inv.shared;
    }

pub returns-clause-ok : goal.returns-clause-ok
returns-clause-ok c = search rules

pub returns-in-Some-clause-err : goal.returns-in-Some-clause-err
returns-in-Some-clause-err c = search rules

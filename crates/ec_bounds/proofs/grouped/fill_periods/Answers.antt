use Rattle.std.proofs.Common.{◌≤◌, All, sym, subst, ◌∙◌, arith, rules}
use Rattle.ec_bounds.proofs.StepLemmas.{periods_start, periods_some, periods_none, periods_end, periods_positive}
use Rattle.ec_bounds.proofs.grouped.fill_periods.Goals as goal
use Rattle.ec_bounds.proofs.grouped.fill_periods.Goals.{then-has_period, else-has_period}

pub loop-period-init : goal.loop-period-init
loop-period-init c =
    record {
      room = search rules;
      count = omega arith;
      found = periods_start c.args.left.now c.args.table.now;
    }

pub loop-period-preserved : goal.loop-period-preserved
loop-period-preserved c =
    let inv = c.loop-period.invariant in
    let left = c.args.left.now in
    let table = c.loop-period.table in
    let k = c.loop-period.period in
    let n = c.loop-period.count in
    elim c.if-has_period.branch [
      | then-has_period w ↦
          record {
            room = c.if-has_period.array_long;
            count = omega arith;
            found = rw (w.table-is, w.count-is) (periods_some left table k n c.loop-period-test.true (omega arith) (sym c.has_period.ensures ∙ w.if-has_period.true) inv.found);
          }
      | else-has_period w ↦
          record {
            room = c.if-has_period.array_long;
            count = omega arith;
            found = rw (w.table-is, w.count-is) (periods_none left table k n c.loop-period-test.true (sym c.has_period.ensures ∙ w.if-has_period.false) inv.found);
          }
    ]

pub returns-clause-periods : goal.returns-clause-periods
returns-clause-periods c = periods_end c.args.left.now c.loop-period.table c.loop-period.period c.loop-period.count c.loop-period-test.false c.loop-period.invariant.found

pub returns-clause-positive : goal.returns-clause-positive
returns-clause-positive c =
    subst (All (λ p. 1 ≤ p)) (sym (periods_end c.args.left.now c.loop-period.table c.loop-period.period c.loop-period.count c.loop-period-test.false c.loop-period.invariant.found)) (periods_positive c.args.left.now)

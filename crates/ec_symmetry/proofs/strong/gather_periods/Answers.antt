use Rattle.std.proofs.Common.{arith, refl, sym, ◌∙◌}
use Rattle.ec_symmetry.proofs.LatestLemmas.{periods_none, periods_some, periods_done}
use Rattle.ec_symmetry.proofs.strong.gather_periods.Goals as goal
use Rattle.ec_symmetry.proofs.strong.gather_periods.Goals.{then-is_some, else-is_some}

pub loop-i-preserved : goal.loop-i-preserved
loop-i-preserved c =
    let loads = c.args.loads.now in
    let places = c.args.places.now in
    let i = c.loop-i.i in
    let inv = c.loop-i.invariant in
    elim c.if-is_some.branch [
      | then-is_some w ↦
          record {
            room = c.if-is_some.array_long;
            count = omega arith;
            copied = rw (w.periods-is, w.count-is) (periods_some loads places c.loop-i.periods i c.loop-i.count _ _ _ c.loop-i-test.true (omega arith) (omega arith) (sym c.is_some.ensures ∙ w.if-is_some.true) refl inv.copied);
          }
      | else-is_some w ↦
          record {
            room = c.if-is_some.array_long;
            count = omega arith;
            copied = rw (w.periods-is, w.count-is) (inv.copied ∙ sym (periods_none loads places i (record { bytes = 0; period = 0 }) _ c.loop-i-test.true (omega arith) (sym c.is_some.ensures ∙ w.if-is_some.false)));
          }
    ]

pub returns-clause-periods : goal.returns-clause-periods
returns-clause-periods c = periods_done c.args.loads.now c.args.places.now c.loop-i.periods c.loop-i.i c.loop-i.count c.loop-i-test.false c.requires.each c.loop-i.invariant.copied

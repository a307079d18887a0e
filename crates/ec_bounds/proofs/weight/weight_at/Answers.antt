use Rattle.std.proofs.Common.{sym, ◌∙◌, arith, mod-eq_of_lt}
use Rattle.std.proofs.Math.Nat.{add-mod_right}
use Rattle.ec_bounds.proofs.WeightLemmas.{weight-none, weight-more, weight-end}
use Rattle.ec_bounds.proofs.weight.weight_at.Goals as goal

pub loop-tick-init : goal.loop-tick-init
loop-tick-init c =
    record {
      turn = mod-eq_of_lt c.requires.phase;
      sum = sym (weight-none c.args.weights.now c.args.period c.args.phase c.requires.phase);
      near = omega arith;
      bound = omega arith;
    }

pub loop-tick-preserved : goal.loop-tick-preserved
loop-tick-preserved c =
    let inv = c.loop-tick.invariant in
    let more = weight-more c.args.weights.now c.args.period c.args.phase c.loop-tick.tick c.requires.phase inv.turn in
    record {
      turn = add-mod_right c.loop-tick.tick c.args.period ∙ inv.turn;
      sum = omega (arith, inv.sum, more, c.from-total.ensures);
      near = omega arith;
      bound = omega arith;
    }

pub returns-clause-value : goal.returns-clause-value
returns-clause-value c = c.loop-tick.invariant.sum ∙ weight-end c.args.weights.now c.args.period c.args.phase c.loop-tick.tick (omega arith)

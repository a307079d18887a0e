use Rattle.std.proofs.Common.{◌+◌, ◌<◌, length, get_or, unwrap_or, sym, ap, ◌∙◌, subst, arith}
use Rattle.ec_slave.proofs.StepLemmas.{rewritten}
use Rattle.ec_player.specs.Sent.{tick_sents}
use Rattle.ec_player.specs.Images.{last_byte, all_entries}
use Rattle.ec_player.specs.Lines.{came_back}
use Rattle.ec_player.proofs.TickLemmas.{right-more, after-more, row-more, bytes-more, fault-more, number-more, either}
use Rattle.ec_player.proofs.playing.play_ticks.Goals as goal

pub returns-in-Err-clause-fault : goal.returns-in-Err-clause-fault
returns-in-Err-clause-fault g c =
    let inv = c.loop-tick.invariant in
    either c.in-Err.ensures.fault
    (fault-more g.X.Pass.out g.X.Pass.next c.args.units.now c.args.mapping.now c.args.image.now c.args.slaves.now c.loop-tick.slaves c.args.from c.loop-tick.number c.loop-tick.tick c.args.ticks c.in-Err.fault
    inv.slaves inv.number inv.right c.loop-tick-test.true)

pub loop-tick-preserved : goal.loop-tick-preserved
loop-tick-preserved g c =
    let out = g.X.Pass.out in
    let next = g.X.Pass.next in
    let us = c.args.units.now in
    let m = c.args.mapping.now in
    let image = c.args.image.now in
    let first = c.args.slaves.now in
    let now = c.loop-tick.slaves in
    let n = c.loop-tick.number in
    let t = c.loop-tick.tick in
    let inv = c.loop-tick.invariant in
    let e = c.in-Ok-play_tick.ensures in
    let given = c.as_mut_slice.ensures.value in
    let back = rewritten c.loop-tick.came.len c.play_tick.new.came c.loop-tick.came.items (omega (arith, c.play_tick.ensures.len, ap length given)) (omega (arith, c.loop-tick.came.ok.0)) in
    record {
      right = right-more out next us m image first now c.args.from n t inv.slaves inv.number inv.right e.right;
      number = ap (λ r. n + r.frames) e.row ∙ number-more us m image c.args.from n t inv.number;
      most = omega (arith, inv.most, e.few);
      rows = c.in-Ok-push.ensures.items ∙ row-more out next us m image first now c.loop-tick.rows.items c.in-Ok-play_tick.row t inv.slaves inv.rows e.row;
      slaves = after-more out next us m image first now c.play_tick.new.slaves t inv.slaves e.slaves;
      len = ap length back ∙ c.play_tick.ensures.len ∙ ap length given ∙ inv.len;
      came = λ k l.
          ap (λ w. get_or w k 0) back
          ∙ bytes-more out next us m image first now (65536 + k) (get_or c.loop-tick.came.items k 0) (get_or c.play_tick.new.came k 0) t inv.slaves (inv.came k l)
          (e.came k (subst (λ w. k < w) (sym (ap length given ∙ inv.len)) l)
          ∙ ap (λ w. unwrap_or (last_byte (65536 + k) (all_entries (came_back out next now (tick_sents us m image t)))) (get_or w k 0)) given);
    }

use Rattle.std.proofs.Common.{◌∙◌, arith}
use Rattle.rtrb.specs.Ring.{sent}
use Rattle.ec_player.specs.Boxes.{bytes_in}
use Rattle.ec_player_threads.proofs.LinkLemmas.{same_ring-trans}
use Rattle.ec_player_threads.proofs.WindowLemmas.{ahead-count}
use Rattle.ec_player_threads.proofs.ahead.Ahead.fill.Goals as goal

pub loop-self-preserved : goal.loop-self-preserved
loop-self-preserved g c =
    let inv = c.loop-self.invariant in
    let e = c.in_ok-send_tick.ensures in
    record {
      ring = (same_ring-trans c.args.first.now.end c.loop-self.first.end c.send_tick.new.first.end inv.ring.0 e.ring.0, e.ring.1 ∙ inv.ring.1);
      most = omega (arith, inv.most, e.tick, e.frames);
      ahead = λ t l h. e.ahead c.args.ticks t c.loop-self-test.true (inv.ahead t l h);
    }

pub returns-after-loop-self-clause-ahead : goal.returns-after-loop-self-clause-ahead
returns-after-loop-self-clause-ahead g c = λ t l h. (c.loop-self.invariant.ahead t l h, omega (arith, l, c.loop-self-test.false))

pub returns-else-not-is_full-clause-ahead : goal.returns-else-not-is_full-clause-ahead
returns-else-not-is_full-clause-ahead g c = λ t l h.
    let now = c.loop-self.invariant.ahead t l h in
    let count = ahead-count c.args.units.now c.args.mapping.now c.args.image.now c.args.ticks t c.loop-self.self (bytes_in (sent c.loop-self.first)) now in
    let some = c.is_full.ensures c.if-not-is_full.false in
    (now, omega (arith, count, some))

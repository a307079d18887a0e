use Rattle.std.proofs.Common.{arith}
use Rattle.rtrb.specs.Ring.{sent}
use Rattle.ec_player.specs.Boxes.{bytes_in}
use Rattle.ec_player_threads.proofs.WindowLemmas.{ahead-count}
use Rattle.ec_player_threads.proofs.ahead.Ahead.send.Goals as goal

pub returns-then-not-is_low-clause-ahead : goal.returns-then-not-is_low-clause-ahead
returns-then-not-is_low-clause-ahead g c = λ t l h.
    let count = ahead-count c.args.units.now c.args.mapping.now c.args.image.now c.args.ticks t c.args.self.now (bytes_in (sent c.args.first.now)) h in
    let some = c.is_low.ensures c.if-not-is_low.true in
    (h, omega (arith, count, some))

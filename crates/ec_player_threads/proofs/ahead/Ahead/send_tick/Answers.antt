use Rattle.std.proofs.Common.{◌++◌, map, ap, ◌∙◌, refl, arith}
use Rattle.rtrb.specs.Ring.{sent}
use Rattle.ec_player.specs.Lines.{bytes_of}
use Rattle.ec_player.specs.Trips.{sent_in}
use Rattle.ec_player.specs.Boxes.{bytes_in}
use Rattle.ec_player_threads.proofs.WindowLemmas.{ahead-more}
use Rattle.ec_player_threads.proofs.ahead.Ahead.send_tick.Goals as goal

pub returns-clause-ahead : goal.returns-clause-ahead
returns-clause-ahead g c = λ n t below h.
    let old = bytes_in (sent c.args.first.now) in
    let trips = c.in_ok-trips.trips in
    let e = c.in_ok-trips.ensures in
    let went = c.in_ok-send_all.ensures.sent ∙ ap (λ w. bytes_in (sent c.args.first.now) ++ bytes_of (map sent_in w)) c.as_slice.ensures.value ∙ ap (λ w. bytes_in (sent c.args.first.now) ++ bytes_of w) e.sents in
    ahead-more c.args.units.now c.args.mapping.now c.args.image.now n t c.args.self.now _ old (bytes_in (sent c.send_all.new.first)) trips below refl
    (omega (arith, c.len.ensures, trips.ok.0, e.few)) c.in-Ok.ensures.items e.sents e.few went h

use Rattle.std.proofs.Common.{◌≡◌, ◌+◌, ◌*◌, ◌≤◌, List, ◌++◌, length}
use Rattle.rtrb.specs.Ring.{sent, received, SameProducer, SameConsumer}
use Rattle.ec_player.specs.Sent.{start_sents, ticks_sents}
use Rattle.ec_player.specs.Lines.{came_back}
use Rattle.ec_player.specs.Boxes.{bytes_in}
use Rattle.ec_player_threads.specs.Rounds.{ArePlayed}
use Rattle.ec_player_threads.specs.IsAhead.{IsAhead}
use Rattle.ec_player_threads.proofs.ticks.play_ticks.Given as goal

abbrev pub invariant-loop-tick : goal.invariant-loop-tick
invariant-loop-tick g l =
    let starts = start_sents l.units l.mapping in
    let ticks = ticks_sents l.units l.mapping l.image l.tick in
    record {
      first : SameProducer l.fn.first l.first;
      last : SameConsumer l.fn.last l.last;
      ahead : IsAhead l.units l.mapping l.image l.ticks l.tick l.ahead (bytes_in (sent l.first));
      number : l.number ≡ length starts + length ticks;
      most : l.number ≤ 769 + 8 * l.tick;
      many : length (received l.last) ≡ l.number;
      len : length l.came.items ≡ length l.image;
      played : (slaves : List g.row.X.Denot) → bytes_in (received l.last) ≡ came_back g.X.Pass.out g.X.Pass.next slaves (starts ++ ticks) →
          ArePlayed g.X.Pass.out g.X.Pass.next l.units l.mapping l.image slaves l.tick l.rows.items l.came.items;
    }

use Rattle.std.proofs.Common.{◌<◌, ◌+◌, ◌*◌, ◌-◌, ◌≤◌, ℕ}
use Rattle.rtrb.specs.Ring.{sent, SameProducer}
use Rattle.ec_player.specs.Boxes.{bytes_in}
use Rattle.ec_player_threads.specs.IsAhead.{IsAhead}
use Rattle.ec_player_threads.proofs.ahead.Ahead.fill.Given as goal

abbrev pub invariant-loop-self : goal.invariant-loop-self
invariant-loop-self g l = record {
  ring : SameProducer l.initial.first l.first;
  most : l.self.frames ≤ 769 + 8 * l.self.tick;
  ahead : (t : ℕ) → t < l.ticks → IsAhead l.units l.mapping l.image l.ticks t l.initial.self (bytes_in (sent l.initial.first)) →
      IsAhead l.units l.mapping l.image l.ticks t l.self (bytes_in (sent l.first));
}

abbrev pub decreases-loop-self : goal.decreases-loop-self
decreases-loop-self g l = l.ticks - l.self.tick

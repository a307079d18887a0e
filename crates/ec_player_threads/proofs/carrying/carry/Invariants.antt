use Rattle.std.proofs.Common.{◌≡◌}
use Rattle.rtrb.specs.Ring.{sent, received, SameProducer, SameConsumer}
use Rattle.ec_slave.specs.Journey.{outs, final}
use Rattle.ec_player.specs.Boxes.{bytes_in}
use Rattle.ec_player_threads.proofs.carrying.carry.Given as goal

abbrev pub invariant-loop : goal.invariant-loop
invariant-loop g l =
    SameConsumer l.initial.taken l.taken × SameProducer l.initial.put l.put
    × (l.slave ≡ final g.X.Pass.out g.X.Pass.next l.initial.slave (bytes_in (received l.taken)))
    × (bytes_in (sent l.put) ≡ outs g.X.Pass.out g.X.Pass.next l.initial.slave (bytes_in (received l.taken)))

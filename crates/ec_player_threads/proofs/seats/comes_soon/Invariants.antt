use Rattle.std.proofs.Common.{◌≡◌}
use Rattle.rtrb.specs.Ring.{received, SameConsumer}
use Rattle.ec_player_threads.proofs.seats.comes_soon.Given as goal

abbrev pub invariant-loop : goal.invariant-loop
invariant-loop l = SameConsumer l.initial.taken l.taken × (received l.taken ≡ received l.initial.taken)

use Rattle.std.proofs.Common.{◌≡◌, ◌++◌, List}
use Rattle.ec_player.specs.Boxes.{Boxed}
use Rattle.rtrb.specs.Ring.{received, SameConsumer}
use Rattle.ec_player_threads.proofs.line.drain.Given as goal

abbrev pub invariant-loop : goal.invariant-loop
invariant-loop g l = SameConsumer l.initial.last l.last × ((frames : List Boxed) × (received l.last ≡ received l.initial.last ++ frames))

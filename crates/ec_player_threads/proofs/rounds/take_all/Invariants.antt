use Rattle.std.proofs.Common.{◌≡◌, ◌≤◌, ◌++◌, None, map, length, vec_capacity}
use Rattle.rtrb.specs.Ring.{received, SameConsumer}
use Rattle.ec_player.specs.Faults.{first_fault}
use Rattle.ec_player.specs.Trips.{sent_in}
use Rattle.ec_player.specs.Boxes.{bytes_in}
use Rattle.ec_player_threads.proofs.rounds.take_all.Given as goal

abbrev pub invariant-loop : goal.invariant-loop
invariant-loop g l = record {
  last : SameConsumer l.initial.last l.last;
  came : received l.last ≡ received l.initial.last ++ l.backs.items;
  few : length l.backs.items ≤ length l.due;
  room : vec_capacity l.backs ≡ length l.due;
  right : first_fault l.from (map sent_in l.due) (bytes_in l.backs.items) ≡ None;
}

use Rattle.std.proofs.Common.{◌≡◌, ◌+◌, ◌++◌, drop, length}
use Rattle.std.specs.Vec.Iter.{into_iter_items}
use Rattle.ec_play_trial.specs.Members.{members}
use Rattle.ec_play_trial.proofs.member.members_of.Given as goal

abbrev pub invariant-loop-slave : goal.invariant-loop-slave
invariant-loop-slave l =
    record {
      count : length (into_iter_items l.slave-iterator) + l.number ≡ length l.stations;
      line : l.line.items ++ members l.lost (drop l.number l.stations) (into_iter_items l.slave-iterator) ≡ members l.lost l.stations l.fn.slaves.items;
    }

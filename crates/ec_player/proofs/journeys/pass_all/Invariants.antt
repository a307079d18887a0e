use Rattle.std.proofs.Common.{◌≡◌, ◌++◌, take, drop}
use Rattle.ec_slave.specs.Journey.{through, passed}
use Rattle.ec_player.proofs.journeys.pass_all.Given as goal

abbrev pub invariant-loop-i : goal.invariant-loop-i
invariant-loop-i g l =
    let out = g.X.Pass.out in
    let next = g.X.Pass.next in
    record {
      frame : through out next (drop l.i l.slaves) l.frame.items ≡ through out next l.initial.slaves l.initial.frame.items;
      slaves : take l.i l.slaves ++ passed out next (drop l.i l.slaves) l.frame.items ≡ passed out next l.initial.slaves l.initial.frame.items;
    }

use Rattle.std.proofs.Common.{◌≡◌, ◌+◌, ◌≤◌, length}
use Rattle.ec_slave.specs.Step.{extent, datagrams_step}
use Rattle.ec_slave.proofs.datagram.step_datagrams.Given as goal

abbrev pub invariant-datagrams : goal.invariant-datagrams
invariant-datagrams l = record {
  room : extent l.views + l.at ≤ length l.frame;
  steps : datagrams_step l.at l.views (l.memory, l.frame) ≡ datagrams_step 16 l.parsed (l.initial.memory, l.initial.frame);
}

abbrev pub decreases-datagrams : goal.decreases-datagrams
decreases-datagrams l = length l.views

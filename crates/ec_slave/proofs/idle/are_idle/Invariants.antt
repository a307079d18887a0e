use Rattle.std.proofs.Common.{◌≡◌, ◌≤◌, length}
use Rattle.std.specs.List.{list_all}
use Rattle.ec_slave.specs.Idle.{is_idle}
use Rattle.ec_slave.specs.Step.{extent}
use Rattle.ec_slave.proofs.idle.are_idle.Given as goal

abbrev pub invariant-datagrams : goal.invariant-datagrams
invariant-datagrams l = record {
  room : extent l.views ≤ extent l.parsed;
  idle : list_all (is_idle l.memory) l.views ≡ list_all (is_idle l.memory) l.parsed;
}

abbrev pub decreases-datagrams : goal.decreases-datagrams
decreases-datagrams l = length l.views

use Rattle.std.proofs.Common.{◌≡◌, ℕ, ◌+◌, ◌<◌, ◌≤◌, false, length, get_or}
use Rattle.ec_slave.specs.Step.{extent}
use Rattle.ec_player.specs.Faults.{may_change}
use Rattle.ec_player.proofs.judging.is_reply_to.Given as goal

abbrev pub invariant-datagrams : goal.invariant-datagrams
invariant-datagrams l = record {
  room : extent l.views + l.at ≤ 2063;
  before : (k : ℕ) → k < l.at → may_change 16 l.parsed k ≡ false → get_or l.back k 0 ≡ get_or l.sent k 0;
  rest : (k : ℕ) → l.at ≤ k → may_change 16 l.parsed k ≡ may_change l.at l.views k;
}

abbrev pub decreases-datagrams : goal.decreases-datagrams
decreases-datagrams l = length l.views

use Rattle.std.proofs.Common.{rules}
use Rattle.ec_player.proofs.judging.judge.Goals as goal

pub returns-in-Some : goal.returns-in-Some
unfolding Rattle.ec_player.specs.Faults.fault_of
returns-in-Some c = search rules

pub returns-in-None : goal.returns-in-None
unfolding Rattle.ec_player.specs.Faults.fault_of
returns-in-None c = search rules

pub returns-then-not-is_reply : goal.returns-then-not-is_reply
unfolding Rattle.ec_player.specs.Faults.fault_of
returns-then-not-is_reply c = search rules

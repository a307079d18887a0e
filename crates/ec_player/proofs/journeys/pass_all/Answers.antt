use Rattle.std.proofs.Common.{rules}
use Rattle.ec_player.proofs.journeys.pass_all.Goals as goal

pub loop-i-init : goal.loop-i-init
loop-i-init g c = search rules

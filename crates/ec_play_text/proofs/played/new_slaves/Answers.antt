use Rattle.std.proofs.Common.{rules}
use Rattle.ec_play_text.proofs.played.new_slaves.Goals as goal

pub loop-init : goal.loop-init
loop-init c = search rules

pub returns : goal.returns
returns c = search rules

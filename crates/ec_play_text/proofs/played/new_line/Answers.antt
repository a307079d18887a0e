use Rattle.std.proofs.Common.{rules}
use Rattle.ec_play_text.proofs.played.new_line.Goals as goal

pub returns-clause-image : goal.returns-clause-image
returns-clause-image c = search rules

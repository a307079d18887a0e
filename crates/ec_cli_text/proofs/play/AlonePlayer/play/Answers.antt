use Rattle.std.proofs.Common.{rules}
use Rattle.ec_cli_text.proofs.play.AlonePlayer.play.Goals as goal

pub returns : goal.returns
returns c = search rules

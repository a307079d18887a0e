use Rattle.std.proofs.Common.{rules}
use Rattle.ec_frames.proofs.command.writes.Goals as goal

pub returns-in-Lrd : goal.returns-in-Lrd
returns-in-Lrd c = search rules

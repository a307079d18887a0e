use Rattle.std.proofs.Common.{rules}
use Rattle.ec_frames.proofs.command.name_of.Goals as goal

pub returns-in-Lrw : goal.returns-in-Lrw
returns-in-Lrw c = search rules

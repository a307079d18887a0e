use Rattle.std.proofs.Common.{rules}
use Rattle.ec_frames.proofs.command.command_of.Goals as goal

pub returns-in-14 : goal.returns-in-14
returns-in-14 c = search rules

pub returns-in-13 : goal.returns-in-13
returns-in-13 c = search rules

pub returns-in_default : goal.returns-in_default
returns-in_default c = search rules

use Rattle.std.proofs.Common.{rules}
use Rattle.ec_frames.proofs.command.code_of.Goals as goal

pub returns-in-Armw : goal.returns-in-Armw
returns-in-Armw c = search rules

pub returns-in-Frmw : goal.returns-in-Frmw
returns-in-Frmw c = search rules

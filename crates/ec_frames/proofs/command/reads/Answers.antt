use Rattle.std.proofs.Common.{rules}
use Rattle.ec_frames.proofs.command.reads.Goals as goal

pub returns-in-Aprd : goal.returns-in-Aprd
returns-in-Aprd c = search rules

pub returns-in-Apwr : goal.returns-in-Apwr
returns-in-Apwr c = search rules

pub returns-in-Fprd : goal.returns-in-Fprd
returns-in-Fprd c = search rules

pub returns-in-Fpwr : goal.returns-in-Fpwr
returns-in-Fpwr c = search rules

pub returns-in-Brd : goal.returns-in-Brd
returns-in-Brd c = search rules

pub returns-in-Bwr : goal.returns-in-Bwr
returns-in-Bwr c = search rules

pub returns-in-Lrd : goal.returns-in-Lrd
returns-in-Lrd c = search rules

pub returns-in-Lwr : goal.returns-in-Lwr
returns-in-Lwr c = search rules

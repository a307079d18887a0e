use Rattle.std.proofs.Common.{rules}
use Rattle.ec_cli_text.proofs.frames.plan_capture.Goals as goal

pub returns-clause-file : goal.returns-clause-file
returns-clause-file c = search rules

pub returns-clause-status : goal.returns-clause-status
returns-clause-status c = search rules

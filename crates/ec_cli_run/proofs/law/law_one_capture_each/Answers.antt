use Rattle.ec_cli_run.proofs.OneCapture.{file_once, frames_told}
use Rattle.ec_cli_run.proofs.law.law_one_capture_each.Goals as goal

pub returns-clause-files : goal.returns-clause-files
returns-clause-files c = file_once

pub returns-clause-texts : goal.returns-clause-texts
returns-clause-texts c = frames_told

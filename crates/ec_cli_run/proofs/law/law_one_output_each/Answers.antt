use Rattle.ec_cli_run.proofs.OneOutput.{output_once}
use Rattle.ec_cli_run.proofs.law.law_one_output_each.Goals as goal

pub returns : goal.returns
returns c = output_once

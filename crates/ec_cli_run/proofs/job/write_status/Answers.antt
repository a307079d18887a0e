use Rattle.std.proofs.Common.{refl}
use Rattle.ec_cli_run.proofs.job.write_status.Goals as goal

pub returns-in-Err-clause-failed : goal.returns-in-Err-clause-failed
returns-in-Err-clause-failed g c = λ _. refl

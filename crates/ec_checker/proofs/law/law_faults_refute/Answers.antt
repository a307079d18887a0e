use Rattle.ec_checker.proofs.CheckLemmas.{refutes}
use Rattle.ec_checker.proofs.law.law_faults_refute.Goals as goal

pub returns : goal.returns
returns c = refutes

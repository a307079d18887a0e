use Rattle.ec_cert_text.proofs.FrontLaws.{fault_stays}
use Rattle.ec_cert_text.proofs.law.law_faults_stay.Goals as goal

pub returns : goal.returns
returns c = fault_stays

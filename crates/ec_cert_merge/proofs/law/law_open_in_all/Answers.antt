use Rattle.ec_cert_merge.proofs.BothLemmas.{open-in-both}
use Rattle.ec_cert_merge.proofs.law.law_open_in_all.Goals as goal

pub returns : goal.returns
returns c = open-in-both

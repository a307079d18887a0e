use Rattle.ec_cert_merge.proofs.PartLemmas.{parts-close}
use Rattle.ec_cert_merge.proofs.law.law_parts_close.Goals as goal

pub returns : goal.returns
returns c = parts-close

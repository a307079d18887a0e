use Rattle.ec_cert_merge.proofs.PartLemmas.{parts-merge}
use Rattle.ec_cert_merge.proofs.law.law_parts_merge.Goals as goal

pub returns : goal.returns
returns c = parts-merge

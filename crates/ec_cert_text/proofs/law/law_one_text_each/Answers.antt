use Rattle.ec_cert_text.proofs.TextLaws.{law_one_text_each}
use Rattle.ec_cert_text.proofs.law.law_one_text_each.Goals as goal

pub returns : goal.returns
returns c = law_one_text_each

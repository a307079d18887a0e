use Rattle.std.proofs.Common.{◌∙◌, sym}
use Rattle.ec_cert_merge.proofs.BothLemmas.{merged-is}
use Rattle.ec_cert_merge.proofs.law.law_merges_are_one.Goals as goal

pub returns : goal.returns
returns c = λ a b m o one two. merged-is a b m one ∙ sym (merged-is a b o two)

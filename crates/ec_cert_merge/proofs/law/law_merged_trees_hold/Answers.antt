use Rattle.ec_cert_merge.proofs.TreeLemmas.{merged-hold}
use Rattle.ec_cert_merge.proofs.law.law_merged_trees_hold.Goals as goal

pub returns : goal.returns
returns c = merged-hold

use Rattle.ec_symmetry.proofs.MergeLemmas.{merge}
use Rattle.ec_symmetry.proofs.law.law_slots_merge.Goals as goal

pub returns : goal.returns
returns c = merge

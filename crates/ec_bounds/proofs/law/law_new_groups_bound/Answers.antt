use Rattle.ec_bounds.proofs.GroupLemmas.{groups-bound}
use Rattle.ec_bounds.proofs.law.law_new_groups_bound.Goals as goal

pub returns : goal.returns
returns c = groups-bound

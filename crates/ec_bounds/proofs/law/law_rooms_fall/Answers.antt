use Rattle.ec_bounds.proofs.FallLemmas.{merges-fall, counts-fall, groups-fall}
use Rattle.ec_bounds.proofs.law.law_rooms_fall.Goals as goal

pub returns-clause-merges : goal.returns-clause-merges
returns-clause-merges c = merges-fall

pub returns-clause-counts : goal.returns-clause-counts
returns-clause-counts c = counts-fall

pub returns-clause-groups : goal.returns-clause-groups
returns-clause-groups c = groups-fall

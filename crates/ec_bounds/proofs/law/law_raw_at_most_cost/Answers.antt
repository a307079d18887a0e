use Rattle.ec_bounds.proofs.AverageLemmas.{raw_cost-le}
use Rattle.ec_bounds.proofs.law.law_raw_at_most_cost.Goals as goal

pub returns : goal.returns
returns c = raw_cost-le

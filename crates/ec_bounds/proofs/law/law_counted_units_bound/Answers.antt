use Rattle.ec_bounds.proofs.CountLemmas.{counts-bound}
use Rattle.ec_bounds.proofs.law.law_counted_units_bound.Goals as goal

pub returns : goal.returns
returns c = counts-bound

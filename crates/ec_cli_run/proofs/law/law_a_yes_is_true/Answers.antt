use Rattle.ec_cli_run.proofs.SoundLemmas.{yes_true}
use Rattle.ec_cli_run.proofs.law.law_a_yes_is_true.Goals as goal

pub returns : goal.returns
returns c = yes_true c.law_trees_bound.ensures c.law_levels_bound.ensures

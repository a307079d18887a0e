use Rattle.ec_cli_run.proofs.AgreeLemmas.{all_agree}
use Rattle.ec_cli_run.proofs.law.law_answers_agree.Goals as goal

pub returns : goal.returns
returns c = all_agree c.law_trees_bound.ensures c.law_levels_bound.ensures

use Rattle.ec_search_laws.proofs.NodeLemmas.{found}
use Rattle.ec_search_laws.proofs.law.law_first_wrong_is_found.Goals as goal

pub returns : goal.returns
returns c = found

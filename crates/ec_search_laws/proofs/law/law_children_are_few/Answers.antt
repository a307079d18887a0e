use Rattle.ec_loads.specs.Held.{no_places}
use Rattle.ec_symmetry.proofs.CountLemmas.{AreLeft-none}
use Rattle.ec_search_laws.proofs.ChildLemmas.{few-below}
use Rattle.ec_search_laws.proofs.law.law_children_are_few.Goals as goal

pub returns : goal.returns
returns c = λ line order places u rest all some most is reached next. few-below line order (no_places line.loads) places u rest all some most is.below (AreLeft-none line order is) reached next

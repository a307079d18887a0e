use Rattle.ec_loads.specs.Held.{no_places}
use Rattle.ec_symmetry.specs.Renamed.{renamed}
use Rattle.ec_symmetry.proofs.CanonLemmas.{canon-all, canon-legal}
use Rattle.ec_symmetry.proofs.law.law_every_plan_is_reached.Goals as goal

pub returns : goal.returns
returns c = λ loads n order plan all legal.
    let other = renamed 0 order plan in
    let canon = canon-all loads n order plan all (record { whole = legal.whole; phases = legal.phases; slots = legal.slots }) in
    (other, canon-legal loads n (no_places loads) order plan other canon legal, canon.costs, canon.canonical)

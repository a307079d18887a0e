use Rattle.ec_loads.specs.Held.{no_places}
use Rattle.ec_symmetry.proofs.UsedLemmas.{NoGap-none}
use Rattle.ec_symmetry.proofs.CanonLemmas.{Extends-none}
use Rattle.ec_symmetry.proofs.ReachLemmas.{NoGap-placed}
use Rattle.ec_symmetry.proofs.law.law_slots_have_no_gap.Goals as goal

pub returns : goal.returns
returns c = λ line order plan s all whole reached.
    let dense = NoGap-placed line (no_places line.loads) order plan all whole (Extends-none line.loads plan whole) (NoGap-none line.loads) reached in
    (dense.each s, dense.below s)

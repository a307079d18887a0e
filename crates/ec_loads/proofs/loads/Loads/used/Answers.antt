use Rattle.std.proofs.Common.{arith}
use Rattle.ec_loads.proofs.UsedLemmas.{used-few}
use Rattle.ec_loads.proofs.loads.Loads.used.Goals as goal

pub returns-clause-bound : goal.returns-clause-bound
returns-clause-bound c =
    let inv = c.self.invariant in
    let few = used-few c.self.inside.places.items in
    omega (arith, few, inv.used.number, inv.each, inv.few)

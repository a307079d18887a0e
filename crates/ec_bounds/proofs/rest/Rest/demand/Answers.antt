use Rattle.std.proofs.Common.{take, arith}
use Rattle.ec_bounds.proofs.RestLemmas.{rest-limit}
use Rattle.ec_bounds.proofs.rest.Rest.demand.Goals as goal

pub returns-clause-bound : goal.returns-clause-bound
returns-clause-bound c =
    let s = c.self.inside in
    let inv = c.self.invariant in
    let h = c.ticks-ticks.ensures in
    let l = rest-limit s.hyper s.count s.table (take s.count s.unplaced) inv.few inv.units (omega (arith, h.value, h.range, inv.whole)) in
    omega (arith, l, inv.running)

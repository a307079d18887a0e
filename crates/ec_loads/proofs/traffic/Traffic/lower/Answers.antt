use Rattle.std.proofs.Common.{length}
use Rattle.ec_loads.proofs.TrailLemmas.{lowered}
use Rattle.ec_loads.proofs.traffic.Traffic.lower.Goals as goal

pub returns-clause-table : goal.returns-clause-table
returns-clause-table c = λ xs n most k.
    let s = c.args.self.now in
    lowered xs n (length s.costs.items) s.counts.items s.cells.items s.costs.items s.raws.items s.total s.payload s.cost c.args.payload c.args.cost _ _ k most c.min-self.ensures c.min-self-2.ensures

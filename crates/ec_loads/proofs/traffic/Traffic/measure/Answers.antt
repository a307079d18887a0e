use Rattle.std.proofs.Common.{length}
use Rattle.ec_loads.proofs.TrailLemmas.{most-cells}
use Rattle.ec_loads.proofs.traffic.Traffic.measure.Goals as goal

pub returns-clause-table : goal.returns-clause-table
returns-clause-table c = λ xs n few k.
    let s = c.args.self.now in
    let low = rw c.as_slice.ensures.value at c.most-payload.ensures in
    let cheap = rw c.as_slice-2.ensures.value at c.most-cost.ensures in
    c.lower.ensures.table xs n (most-cells xs n (length s.costs.items) s.counts.items s.cells.items s.costs.items s.raws.items s.total s.payload s.cost _ _ k few low cheap) k

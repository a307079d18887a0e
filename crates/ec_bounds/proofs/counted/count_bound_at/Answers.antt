use Rattle.ec_bounds.proofs.ShownLemmas.{counts-shown}
use Rattle.ec_bounds.proofs.counted.count_bound_at.Goals as goal

pub returns-clause-holds : goal.returns-clause-holds
returns-clause-holds g c = λ rest yes.
    let held = c.args.loads.now in
    counts-shown held.loads held.slots c.args.value held.places c.args.period c.args.bytes (g.T.Ticks.ticks c.args.table.now) ((c.count_bound_by.ensures rest).0 yes)

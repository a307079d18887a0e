use Rattle.ec_bounds.proofs.ShownLemmas.{groups-shown}
use Rattle.ec_bounds.proofs.grouped.groups_bound_at.Goals as goal

pub returns-clause-holds : goal.returns-clause-holds
returns-clause-holds g c = λ rest yes.
    let held = c.args.loads.now in
    groups-shown held.loads held.slots c.args.value held.places c.args.pairs.now (g.T.Ticks.ticks c.args.table.now) ((c.groups_bound_by.ensures rest).0 yes)

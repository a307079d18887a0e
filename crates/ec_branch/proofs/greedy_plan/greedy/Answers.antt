use Rattle.std.proofs.Common.{sym, subst}
use Rattle.ec_units.specs.Load.{loads_of}
use Rattle.ec_loads.specs.Held.{Held, items_of, no_places}
use Rattle.ec_loads.specs.Legal.{Fits}
use Rattle.ec_branch.specs.Walks.{IsReadyFor}
use Rattle.ec_branch.proofs.ReadyLemmas.{order_ready}
use Rattle.ec_branch.proofs.GreedyLemmas.{empty_fits}
use Rattle.ec_branch.proofs.greedy_plan.greedy.Goals as goal

pub place_best-requires-clause-ready : goal.place_best-requires-clause-ready
place_best-requires-clause-ready c =
    let loads = loads_of c.args.units.now.units in
    let n = c.args.units.now.slots in
    let order = c.in_ok-order.order.items in
    subst (λ (w : Held). IsReadyFor w.loads w.slots w.places c.as_slice.result.now) (sym c.in_ok-loads.ensures)
    (subst (IsReadyFor loads n (no_places loads)) (sym c.as_slice.ensures.value) (order_ready loads n order c.in_ok-order.ensures.sorted.each))

pub place_best-requires-clause-fits : goal.place_best-requires-clause-fits
place_best-requires-clause-fits c =
    subst (λ (w : Held). Fits (items_of w) w.slots) (sym c.in_ok-loads.ensures) (empty_fits (loads_of c.args.units.now.units) c.args.units.now.slots)

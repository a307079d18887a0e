use Rattle.std.proofs.Common.{◌-◌, ◌+◌, sym, ap, ◌∙◌, arith}
use Rattle.ec_loads.specs.Cost.{items}
use Rattle.ec_loads.specs.Rooms.{is_open}
use Rattle.ec_bounds.proofs.StepLemmas.{room_open, room_closed}
use Rattle.ec_bounds.proofs.rooms.room.Goals as goal

pub returns-then-is_open_in : goal.returns-then-is_open_in
returns-then-is_open_in g c =
    let held = c.args.loads.now in
    let xs = items held.loads held.places in
    c.saturating_sub.ensures ∙ ap (λ u. u - c.top-most.result) c.saturating_sub-limit.ensures
    ∙ room_open (c.args.value - 1) (g.T.Tops.tops c.args.tops.now c.args.period c.args.phase) c.top-most.result (is_open xs c.args.period c.args.phase) (sym c.is_open_in.ensures ∙ c.if-is_open_in.true) c.top-most.ensures.value

pub returns : goal.returns
returns g c =
    let held = c.args.loads.now in
    let xs = items held.loads held.places in
    let most = c.top-most.ensures.value in
    c.saturating_sub-2.ensures ∙ ap (λ u. u - (c.top-most.result + c.from.result)) c.saturating_sub-limit.ensures
    ∙ room_closed (c.args.value - 1) (g.T.Tops.tops c.args.tops.now c.args.period c.args.phase) (c.top-most.result + c.from.result) (is_open xs c.args.period c.args.phase) (sym c.is_open_in.ensures ∙ c.if-is_open_in.false) (omega (arith, most, c.from.ensures))

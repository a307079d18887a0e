use Rattle.std.proofs.Common.{◌-◌, sym, ◌∙◌}
use Rattle.ec_loads.specs.Cost.{items}
use Rattle.ec_loads.specs.Rooms.{is_open, room_by}
use Rattle.std.proofs.lemmas.Bool.{cond-true, cond-false}
use Rattle.ec_bounds.proofs.rooms.room_beside.Goals as goal

pub returns-then-is_open_in : goal.returns-then-is_open_in
returns-then-is_open_in g c =
    let xs = items c.args.loads.now.loads c.args.loads.now.places in
    let all = room_by xs (g.T.Tops.tops c.args.tops.now) c.args.value c.args.period c.args.phase in
    c.room-all.ensures ∙ sym (cond-true (is_open xs c.args.period c.args.phase) all (all - c.args.bytes) (sym c.is_open_in.ensures ∙ c.if-is_open_in.true))

pub returns : goal.returns
returns g c =
    let xs = items c.args.loads.now.loads c.args.loads.now.places in
    let all = room_by xs (g.T.Tops.tops c.args.tops.now) c.args.value c.args.period c.args.phase in
    c.saturating_sub.ensures ∙ (λ i. c.room-all.ensures i - c.from.ensures i) ∙ sym (cond-false (is_open xs c.args.period c.args.phase) all (all - c.args.bytes) (sym c.is_open_in.ensures ∙ c.if-is_open_in.false))

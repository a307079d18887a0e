use Rattle.std.proofs.Common.{◌∙◌, ap, refl, to_z-of_z}
use Rattle.toml.specs.View.{items_view}
use Rattle.ec_unit_text.specs.UnitText.{is_stationed_in, has_station_in}
use Rattle.ec_unit_text.proofs.Beside.{any_passed, any_found, any_none}
use Rattle.ec_unit_text.proofs.judge.has_station_in.Goals as goal

pub loop-unit-preserved : goal.loop-unit-preserved
loop-unit-preserved c =
    any_passed (has_station_in _) (is_stationed_in _) c.args.units.now c.loop-unit.unit-index c.unit-item.result c.is_stationed_in.result (λ e es. refl)
    c.loop-unit-test.true c.unit-item.is c.is_stationed_in.ensures c.if-is_stationed_in.false
    ∙ c.loop-unit.invariant

pub returns-then-is_stationed_in : goal.returns-then-is_stationed_in
returns-then-is_stationed_in c =
    any_found (has_station_in _) (is_stationed_in _) c.args.units.now c.loop-unit.unit-index c.unit-item.result c.is_stationed_in.result (λ e es. refl)
    c.loop-unit-test.true c.unit-item.is c.is_stationed_in.ensures c.if-is_stationed_in.true
    ∙ c.loop-unit.invariant ∙ ap (λ z. has_station_in z (items_view c.args.units.now)) (to_z-of_z c.ranges.station)

pub returns : goal.returns
returns c =
    any_none (has_station_in _) c.args.units.now c.loop-unit.unit-index refl c.loop-unit-test.false
    ∙ c.loop-unit.invariant ∙ ap (λ z. has_station_in z (items_view c.args.units.now)) (to_z-of_z c.ranges.station)

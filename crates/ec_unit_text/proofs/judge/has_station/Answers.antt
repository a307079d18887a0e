use Rattle.std.proofs.Common.{◌∙◌, ap, refl, to_z-of_z}
use Rattle.toml.specs.View.{items_view}
use Rattle.ec_unit_text.specs.UnitText.{is_stationed, has_station}
use Rattle.ec_unit_text.proofs.Beside.{any_passed, any_found, any_none}
use Rattle.ec_unit_text.proofs.judge.has_station.Goals as goal

pub loop-slave-preserved : goal.loop-slave-preserved
loop-slave-preserved c =
    any_passed (has_station _) (is_stationed _) c.args.slaves.now c.loop-slave.slave-index c.slave-item.result c.is_stationed.result (λ e es. refl)
    c.loop-slave-test.true c.slave-item.is c.is_stationed.ensures c.if-is_stationed.false
    ∙ c.loop-slave.invariant

pub returns-then-is_stationed : goal.returns-then-is_stationed
returns-then-is_stationed c =
    any_found (has_station _) (is_stationed _) c.args.slaves.now c.loop-slave.slave-index c.slave-item.result c.is_stationed.result (λ e es. refl)
    c.loop-slave-test.true c.slave-item.is c.is_stationed.ensures c.if-is_stationed.true
    ∙ c.loop-slave.invariant ∙ ap (λ z. has_station z (items_view c.args.slaves.now)) (to_z-of_z c.ranges.station)

pub returns : goal.returns
returns c =
    any_none (has_station _) c.args.slaves.now c.loop-slave.slave-index refl c.loop-slave-test.false
    ∙ c.loop-slave.invariant ∙ ap (λ z. has_station z (items_view c.args.slaves.now)) (to_z-of_z c.ranges.station)

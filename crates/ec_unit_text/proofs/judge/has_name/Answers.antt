use Rattle.std.proofs.Common.{◌∙◌, refl}
use Rattle.ec_unit_text.specs.UnitText.{is_named, has_name}
use Rattle.ec_unit_text.proofs.Beside.{any_passed, any_found, any_none}
use Rattle.ec_unit_text.proofs.judge.has_name.Goals as goal

pub loop-unit-preserved : goal.loop-unit-preserved
loop-unit-preserved c =
    any_passed (has_name c.args.name.now) (is_named c.args.name.now) c.args.units.now c.loop-unit.unit-index c.unit-item.result c.is_named.result (λ e es. refl)
    c.loop-unit-test.true c.unit-item.is c.is_named.ensures c.if-is_named.false
    ∙ c.loop-unit.invariant

pub returns-then-is_named : goal.returns-then-is_named
returns-then-is_named c =
    any_found (has_name c.args.name.now) (is_named c.args.name.now) c.args.units.now c.loop-unit.unit-index c.unit-item.result c.is_named.result (λ e es. refl)
    c.loop-unit-test.true c.unit-item.is c.is_named.ensures c.if-is_named.true
    ∙ c.loop-unit.invariant

pub returns : goal.returns
returns c = any_none (has_name c.args.name.now) c.args.units.now c.loop-unit.unit-index refl c.loop-unit-test.false ∙ c.loop-unit.invariant

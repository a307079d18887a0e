use Rattle.std.proofs.Common.{take, ◌∙◌, sym, ap, arith}
use Rattle.toml.specs.Data.{as_table}
use Rattle.toml.specs.View.{view, items_view, table_view}
use Rattle.ec_unit_text.specs.UnitText.{first, faults_of_unit_item}
use Rattle.ec_unit_text.proofs.Beside.{unit_passed, unit_found}
use Rattle.ec_unit_text.proofs.walk.units_fault.Goals as goal

pub loop-index-preserved : goal.loop-index-preserved
loop-index-preserved c =
    unit_passed c.args.rule (table_view c.args.top.now) c.args.units.now c.loop-index.index c.index-units-index.result (omega arith)
    (ap (λ v. first (faults_of_unit_item c.args.rule (table_view c.args.top.now) (items_view (take c.loop-index.index c.args.units.now)) c.loop-index.index (as_table (view v)))) (sym c.index-units-index.is)
    ∙ sym c.unit_item_fault.ensures ∙ c.in_default.is)
    ∙ c.loop-index.invariant

pub returns-in-Some : goal.returns-in-Some
returns-in-Some c =
    sym (unit_found c.args.rule (table_view c.args.top.now) c.args.units.now c.loop-index.index c.index-units-index.result _ (omega arith)
    (ap (λ v. first (faults_of_unit_item c.args.rule (table_view c.args.top.now) (items_view (take c.loop-index.index c.args.units.now)) c.loop-index.index (as_table (view v)))) (sym c.index-units-index.is)
    ∙ sym c.unit_item_fault.ensures ∙ c.in-Some.is))
    ∙ c.loop-index.invariant

use Rattle.std.proofs.Common.{take, ◌∙◌, sym, ap, arith}
use Rattle.toml.specs.Data.{as_table}
use Rattle.toml.specs.View.{view, items_view}
use Rattle.ec_unit_text.specs.UnitText.{first, faults_of_slave_item}
use Rattle.ec_unit_text.proofs.Beside.{slave_passed, slave_found}
use Rattle.ec_unit_text.proofs.walk.slaves_fault.Goals as goal

pub loop-index-preserved : goal.loop-index-preserved
loop-index-preserved c =
    slave_passed c.args.rule (items_view c.args.units.now) c.args.unit c.args.slaves.now c.loop-index.index c.index-slaves-index.result (omega arith)
    (ap (λ v. first (faults_of_slave_item c.args.rule (items_view c.args.units.now) (items_view (take c.loop-index.index c.args.slaves.now)) c.args.unit c.loop-index.index (as_table (view v)))) (sym c.index-slaves-index.is)
    ∙ sym c.slave_item_fault.ensures ∙ c.in_default.is)
    ∙ c.loop-index.invariant

pub returns-in-Some : goal.returns-in-Some
returns-in-Some c =
    sym (slave_found c.args.rule (items_view c.args.units.now) c.args.unit c.args.slaves.now c.loop-index.index c.index-slaves-index.result _ (omega arith)
    (ap (λ v. first (faults_of_slave_item c.args.rule (items_view c.args.units.now) (items_view (take c.loop-index.index c.args.slaves.now)) c.args.unit c.loop-index.index (as_table (view v)))) (sym c.index-slaves-index.is)
    ∙ sym c.slave_item_fault.ensures ∙ c.in-Some.is))
    ∙ c.loop-index.invariant

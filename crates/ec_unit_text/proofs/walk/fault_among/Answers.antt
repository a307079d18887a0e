use Rattle.std.proofs.Common.{◌∙◌, sym, arith}
use Rattle.toml.specs.View.{table_view}
use Rattle.ec_unit_text.specs.UnitText.{faults_by}
use Rattle.ec_unit_text.specs.declared.rule.Rule.TheVariants.{Missing}
use Rattle.ec_unit_text.proofs.Beside.{passed, found}
use Rattle.ec_unit_text.proofs.walk.fault_among.Goals as goal

pub loop-rule-preserved : goal.loop-rule-preserved
loop-rule-preserved c =
    passed (faults_by (table_view c.args.top.now)) c.args.rules.now c.loop-rule.rule-index Missing (omega arith) (sym c.fault_by.ensures ∙ c.in_default.is)
    ∙ c.loop-rule.invariant

pub returns-in-Some : goal.returns-in-Some
returns-in-Some c =
    sym (found (faults_by (table_view c.args.top.now)) c.args.rules.now c.loop-rule.rule-index Missing _ (omega arith) (sym c.fault_by.ensures ∙ c.in-Some.is))
    ∙ c.loop-rule.invariant

use Rattle.std.proofs.Common.{◌∙◌, sym, ap}
use Rattle.toml.specs.Data.{no_items}
use Rattle.toml.specs.View.{table_view}
use Rattle.ec_unit_text.specs.UnitText.{first, unit_faults_from}
use Rattle.ec_unit_text.proofs.Beside.{first-append_none, first-append_some}
use Rattle.ec_unit_text.proofs.walk.fault_by.Goals as goal

pub returns : goal.returns
returns c =
    c.units_fault.ensures ∙ ap (λ ds. first (unit_faults_from c.args.rule (table_view c.args.top.now) no_items 0 ds)) c.values_at.ensures
    ∙ sym (first-append_none _ _ (sym c.top_fault.ensures ∙ c.in_default.is))

pub returns-in-Some : goal.returns-in-Some
returns-in-Some c = sym (first-append_some _ _ _ (sym c.top_fault.ensures ∙ c.in-Some.is))

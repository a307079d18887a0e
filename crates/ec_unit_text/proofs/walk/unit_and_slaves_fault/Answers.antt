use Rattle.std.proofs.Common.{◌∙◌, sym, ap}
use Rattle.toml.specs.Data.{no_items}
use Rattle.toml.specs.View.{items_view}
use Rattle.ec_unit_text.specs.UnitText.{first, slave_faults_from}
use Rattle.ec_unit_text.proofs.Beside.{first-append_none, first-append_some}
use Rattle.ec_unit_text.proofs.walk.unit_and_slaves_fault.Goals as goal

pub returns : goal.returns
returns c =
    c.slaves_fault.ensures ∙ ap (λ ds. first (slave_faults_from c.args.rule (items_view c.args.earlier.now) no_items c.args.index 0 ds)) c.values_at.ensures
    ∙ sym (first-append_none _ _ (sym c.unit_fault.ensures ∙ c.in_default.is))

pub returns-in-Some : goal.returns-in-Some
returns-in-Some c = sym (first-append_some _ _ _ (sym c.unit_fault.ensures ∙ c.in-Some.is))

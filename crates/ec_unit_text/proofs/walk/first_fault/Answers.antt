use Rattle.std.proofs.Common.{◌≡◌, ◌∙◌, sym, ap, length, true, false}
use Rattle.std.specs.List.{flat_map}
use Rattle.toml.specs.View.{table_view}
use Rattle.ec_unit_text.specs.AtKey.{item_count}
use Rattle.ec_unit_text.specs.UnitText.{first, faults_by, early_rules}
use Rattle.ec_unit_text.proofs.Beside.{first-append_none, first-append_some, hyper_test, item_count-items_view}
use Rattle.ec_unit_text.proofs.Faultless.{periods_fit, few_periods}
use Rattle.ec_unit_text.proofs.walk.first_fault.Goals as goal

pub is_too_long-requires-clause-fit : goal.is_too_long-requires-clause-fit
is_too_long-requires-clause-fit c = rw c.values_at.ensures (periods_fit (table_view c.args.top.now) (sym c.fault_among.ensures ∙ c.in_default.is))

pub is_too_long-requires-clause-few : goal.is_too_long-requires-clause-few
is_too_long-requires-clause-few c =
    let counted : length c.values_at.result.now ≡ item_count _ = sym (item_count-items_view c.values_at.result.now) ∙ ap item_count c.values_at.ensures in
    rw counted (few_periods (table_view c.args.top.now) (sym c.fault_among.ensures ∙ c.in_default.is))

pub returns : goal.returns
unfolding Rattle.ec_unit_text.specs.UnitText.unit_faults
returns c =
    let none = hyper_test (table_view c.args.top.now) _ _ false c.values_at.ensures c.is_too_long.ensures c.if-is_too_long.false in
    c.fault_among-2.ensures ∙ sym (first-append_none (flat_map (faults_by (table_view c.args.top.now)) early_rules) _ (sym c.fault_among.ensures ∙ c.in_default.is) ∙ first-append_none _ _ (ap first none))

pub returns-in-Some : goal.returns-in-Some
unfolding Rattle.ec_unit_text.specs.UnitText.unit_faults
returns-in-Some c = sym (first-append_some (flat_map (faults_by (table_view c.args.top.now)) early_rules) _ _ (sym c.fault_among.ensures ∙ c.in-Some.is))

pub returns-then-is_too_long : goal.returns-then-is_too_long
unfolding Rattle.ec_unit_text.specs.UnitText.unit_faults
returns-then-is_too_long c =
    let long = hyper_test (table_view c.args.top.now) _ _ true c.values_at.ensures c.is_too_long.ensures c.if-is_too_long.true in
    sym (first-append_none (flat_map (faults_by (table_view c.args.top.now)) early_rules) _ (sym c.fault_among.ensures ∙ c.in_default.is) ∙ first-append_some _ _ _ (ap first long))

use Rattle.std.proofs.Common.{◌≡◌, drop}
use Rattle.std.specs.List.{flat_map}
use Rattle.toml.specs.View.{table_view}
use Rattle.ec_unit_text.specs.UnitText.{first, faults_by}
use Rattle.ec_unit_text.proofs.walk.fault_among.Given as goal

abbrev pub invariant-loop-rule : goal.invariant-loop-rule
invariant-loop-rule l =
    first (flat_map (faults_by (table_view l.top)) (drop l.rule-index l.rules)) ≡ first (flat_map (faults_by (table_view l.top)) l.rules)

use Rattle.std.proofs.Common.{◌≡◌, take, drop}
use Rattle.toml.specs.Data.{no_items}
use Rattle.toml.specs.View.{items_view, table_view}
use Rattle.ec_unit_text.specs.UnitText.{first, unit_faults_from}
use Rattle.ec_unit_text.proofs.walk.units_fault.Given as goal

abbrev pub invariant-loop-index : goal.invariant-loop-index
invariant-loop-index l =
    first (unit_faults_from l.rule (table_view l.top) (items_view (take l.index l.units)) l.index (items_view (drop l.index l.units)))
    ≡ first (unit_faults_from l.rule (table_view l.top) no_items 0 (items_view l.units))

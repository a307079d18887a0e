use Rattle.std.proofs.Common.{◌≡◌, take, drop}
use Rattle.toml.specs.Data.{no_items}
use Rattle.toml.specs.View.{items_view}
use Rattle.ec_unit_text.specs.UnitText.{first, slave_faults_from}
use Rattle.ec_unit_text.proofs.walk.slaves_fault.Given as goal

abbrev pub invariant-loop-index : goal.invariant-loop-index
invariant-loop-index l =
    first (slave_faults_from l.rule (items_view l.units) (items_view (take l.index l.slaves)) l.unit l.index (items_view (drop l.index l.slaves)))
    ≡ first (slave_faults_from l.rule (items_view l.units) no_items l.unit 0 (items_view l.slaves))

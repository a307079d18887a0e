use Rattle.std.proofs.Common.{◌≡◌, drop}
use Rattle.toml.specs.View.{items_view}
use Rattle.ec_unit_text.specs.UnitText.{has_name}
use Rattle.ec_unit_text.proofs.judge.has_name.Given as goal

abbrev pub invariant-loop-unit : goal.invariant-loop-unit
invariant-loop-unit l = has_name l.name (items_view (drop l.unit-index l.units)) ≡ has_name l.name (items_view l.units)

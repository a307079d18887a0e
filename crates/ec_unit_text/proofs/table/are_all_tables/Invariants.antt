use Rattle.std.proofs.Common.{◌≡◌, drop}
use Rattle.toml.specs.View.{items_view}
use Rattle.ec_unit_text.specs.AtKey.{all_tables}
use Rattle.ec_unit_text.proofs.table.are_all_tables.Given as goal

abbrev pub invariant-loop-value : goal.invariant-loop-value
invariant-loop-value l = all_tables (items_view (drop l.value-index l.values)) ≡ all_tables (items_view l.values)

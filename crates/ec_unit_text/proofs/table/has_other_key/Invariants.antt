use Rattle.std.proofs.Common.{◌≡◌}
use Rattle.toml.specs.View.{table_view}
use Rattle.ec_unit_text.specs.AtKey.{is_one_of, has_other_key}
use Rattle.ec_unit_text.proofs.Beside.{any_other}
use Rattle.ec_unit_text.proofs.table.has_other_key.Given as goal

abbrev pub invariant-loop-key : goal.invariant-loop-key
invariant-loop-key l = any_other (is_one_of l.keys) l.key-iterator ≡ has_other_key l.keys (table_view l.table)

use Rattle.std.proofs.Common.{◌≡◌, drop}
use Rattle.std.specs.List.{flat_map}
use Rattle.toml.specs.View.{table_view}
use Rattle.ec_unit_text.specs.UnitText.{first, missing_at}
use Rattle.ec_unit_text.proofs.judge.missing_key.Given as goal

abbrev pub invariant-loop-key : goal.invariant-loop-key
invariant-loop-key l =
    first (flat_map (missing_at l.spot (table_view l.table)) (drop l.key-index l.keys)) ≡ first (flat_map (missing_at l.spot (table_view l.table)) l.keys)

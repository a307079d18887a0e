use Rattle.std.proofs.Common.{◌≡◌, ◌≤◌, take}
use Rattle.std.specs.Prelude.{count_by, bytes_eq}
use Rattle.std.specs.List.{list_any}
use Rattle.ec_cli_files.proofs.names.shared.Given as goal

abbrev pub invariant-loop-name : goal.invariant-loop-name
invariant-loop-name l = (l.count ≡ count_by (λ name. list_any (λ other. bytes_eq other.now name.now) l.those) (take l.name-index l.these)) × (l.count ≤ l.name-index)

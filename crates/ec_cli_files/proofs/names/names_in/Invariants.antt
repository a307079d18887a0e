use Rattle.std.proofs.Common.{◌≡◌, map}
use Rattle.std.specs.Prelude.{flat_map}
use Rattle.ec_cli_files.specs.Names.{name_in}
use Rattle.ec_cli_files.proofs.names.names_in.Given as goal

abbrev pub invariant-loop-line : goal.invariant-loop-line
invariant-loop-line l = map (λ n. n.now) l.names.items ≡ flat_map (λ line. name_in line.now) l.yielded

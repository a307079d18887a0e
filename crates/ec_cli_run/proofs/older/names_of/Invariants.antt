use Rattle.std.proofs.Common.{◌≡◌, map, take}
use Rattle.ec_cli_run.proofs.older.names_of.Given as goal

abbrev pub invariant-loop-line : goal.invariant-loop-line
invariant-loop-line l = map (λ n. n.now) l.names.items ≡ map (λ u. u.name) (take l.line-index l.cert.units)

use Rattle.std.proofs.Common.{◌≡◌, ◌≤◌, ◌-◌, ◌+◌, length, vec_len}
use Rattle.std.specs.Io.KnownBytes.{Consumes}
use Rattle.ec_cli_inputs.proofs.input.read_all.Given as goal

abbrev pub invariant-fill : goal.invariant-fill
invariant-fill g l = record {
  within : length l.bytes.items ≤ l.limit + 1;
  room : length l.chunk ≡ 4096;
  read : Consumes (g.R.Read.remaining l.initial.input.inner) (g.R.Read.remaining l.input.inner) l.bytes.items;
  taken : l.input.taken ≤ l.initial.input.taken + length l.bytes.items;
  failed : l.input.failed ≡ l.initial.input.failed;
}

abbrev pub decreases-fill : goal.decreases-fill
decreases-fill g l = l.limit + 1 - vec_len l.bytes

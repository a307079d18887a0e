use Rattle.std.proofs.Common.{All, string_bytes}
use Rattle.ec_cli_explain.specs.IsPlain.{IsPlain}
use Rattle.ec_cli_explain.proofs.plain.plain_text.Given as goal

abbrev pub invariant-loop-byte : goal.invariant-loop-byte
invariant-loop-byte l = All IsPlain (string_bytes l.out)

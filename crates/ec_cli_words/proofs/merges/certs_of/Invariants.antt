use Rattle.std.proofs.Common.{◌≡◌, map, take, string_bytes}
use Rattle.ec_cli_words.proofs.merges.certs_of.Given as goal

abbrev pub invariant-loop-text : goal.invariant-loop-text
invariant-loop-text l = map string_bytes l.certs.items ≡ map (λ s. s.now) (take l.text-index l.texts)

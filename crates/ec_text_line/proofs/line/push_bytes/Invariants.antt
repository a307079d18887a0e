use Rattle.std.proofs.Common.{◌≡◌, ◌++◌, take}
use Rattle.ec_text_line.proofs.line.push_bytes.Given as goal

abbrev pub invariant-loop-byte : goal.invariant-loop-byte
invariant-loop-byte l = l.line.items ≡ l.initial.line.items ++ take l.byte-index l.bytes

use Rattle.std.proofs.Common.{◌≡◌, ◌+◌, ◌≤◌, drop}
use Rattle.ec_cert_text.specs.Reading.{space_count}
use Rattle.ec_cert_text.proofs.weights.spaces.Given as goal

abbrev pub invariant-loop-byte : goal.invariant-loop-byte
invariant-loop-byte l = record {
  count : l.count + space_count (drop l.byte-index l.text) ≡ space_count l.text;
  small : l.count ≤ l.byte-index;
}

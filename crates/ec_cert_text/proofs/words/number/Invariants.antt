use Rattle.std.proofs.Common.{◌≡◌, ◌≤◌, min, drop}
use Rattle.std.specs.Str.{all_ascii_digits}
use Rattle.ec_cert_text.specs.Reading.{value, value_after}
use Rattle.ec_cert_text.proofs.words.number.Given as goal

abbrev pub invariant-loop-byte : goal.invariant-loop-byte
invariant-loop-byte l = record {
  digits : all_ascii_digits l.word ≡ all_ascii_digits (drop l.byte-index l.word);
  value : min (value_after l.value (drop l.byte-index l.word)) 1000000 ≡ min (value l.word) 1000000;
  small : l.value ≤ 1000000;
}

use Rattle.std.proofs.Common.{◌≡◌, ◌≤◌, true, take}
use Rattle.std.specs.Str.{all_ascii_digits}
use Rattle.ec_cert_text.specs.Reading.{value}
use Rattle.ec_cert_text.proofs.spelled.spelled_number.Given as goal

abbrev pub invariant-loop-i : goal.invariant-loop-i
invariant-loop-i l = record {
  digits : all_ascii_digits (take l.i l.text) ≡ true;
  value : value (take l.i l.text) ≡ l.value;
  small : l.value ≤ l.high;
}

use Rattle.std.proofs.Common.{◌≡◌, ◌-◌}
use Rattle.ec_cert_text.specs.Reading.{are_numbers}
use Rattle.ec_cert_text.proofs.indexes.are_numbers.Given as goal

abbrev pub invariant-words : goal.invariant-words
invariant-words l = are_numbers (l.more - l.counter) l.rest ≡ are_numbers l.more l.text

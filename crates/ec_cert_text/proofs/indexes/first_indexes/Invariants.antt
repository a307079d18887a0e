use Rattle.std.proofs.Common.{◌≡◌, ◌-◌}
use Rattle.ec_cert_text.specs.Reading.{with_front, many_from, index_in}
use Rattle.ec_cert_text.proofs.indexes.first_indexes.Given as goal

abbrev pub invariant-words : goal.invariant-words
invariant-words l =
    with_front l.indexes.items (many_from (index_in l.line l.high) (l.high - l.counter) l.rest) ≡ many_from (index_in l.line l.high) l.high l.text

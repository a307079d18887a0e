use Rattle.std.proofs.Common.{◌≡◌, ◌-◌}
use Rattle.ec_cert_text.specs.Reading.{with_front, many_from, index_in}
use Rattle.ec_cert_text.proofs.weights.first_weights.Given as goal

abbrev pub invariant-words : goal.invariant-words
invariant-words l =
    with_front l.weights.items (many_from (index_in l.line 65535) (l.more - l.counter) l.rest) ≡ many_from (index_in l.line 65535) l.more l.text

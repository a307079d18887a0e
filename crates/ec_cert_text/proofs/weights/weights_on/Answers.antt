use Rattle.std.proofs.Common.{rules}
use Rattle.ec_cert_text.proofs.weights.weights_on.Goals as goal

pub returns-then-are_numbers : goal.returns-then-are_numbers
unfolding Rattle.ec_cert_text.specs.Reading.weights_in
returns-then-are_numbers c = search rules

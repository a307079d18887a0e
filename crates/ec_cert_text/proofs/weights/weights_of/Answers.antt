use Rattle.std.proofs.Common.{rules}
use Rattle.ec_cert_text.proofs.weights.weights_of.Goals as goal

pub returns-in_ok-push-in-Ok : goal.returns-in_ok-push-in-Ok
unfolding Rattle.ec_cert_text.specs.Reading.indexes_in
returns-in_ok-push-in-Ok c = search rules

pub returns-in-Err : goal.returns-in-Err
unfolding Rattle.ec_cert_text.specs.Reading.indexes_in
returns-in-Err c = search rules

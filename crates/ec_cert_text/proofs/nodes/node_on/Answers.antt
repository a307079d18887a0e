use Rattle.std.proofs.Common.{arith}
use Rattle.std.proofs.lemmas.Grind.{common_steps}
use Rattle.ec_cert_text.proofs.nodes.node_on.Goals as goal

pub returns-in_err-weights : goal.returns-in_err-weights
unfolding Rattle.ec_cert_text.specs.Reading.node_on
returns-in_err-weights c = grind (arith, common_steps)

pub returns-then-kinds : goal.returns-then-kinds
unfolding Rattle.ec_cert_text.specs.Reading.node_on
returns-then-kinds c = grind (arith, common_steps)

pub returns-then-kinds-2 : goal.returns-then-kinds-2
unfolding Rattle.ec_cert_text.specs.Reading.node_on
returns-then-kinds-2 c = grind (arith, common_steps)

pub returns-then-kinds-3 : goal.returns-then-kinds-3
unfolding Rattle.ec_cert_text.specs.Reading.node_on
returns-then-kinds-3 c = grind (arith, common_steps)

use Rattle.ec_cert_text.proofs.NodeLaws.{node_spelled}
use Rattle.ec_cert_text.proofs.nodes.node_of.Goals as goal

pub returns-in-Some-clause-exact : goal.returns-in-Some-clause-exact
returns-in-Some-clause-exact c = node_spelled c.args.kinds c.args.levels c.args.place.line c.args.place.rest.now c.in-Some.rest.now c.in-Some.node c.if-levels-gt0.true c.in-Some.ensures

use Rattle.std.proofs.Common.{arith}
use Rattle.ec_cert_text.proofs.NodeLaws.{tick_spelled}
use Rattle.ec_cert_text.proofs.nodes.tick_of.Goals as goal

pub returns : goal.returns
returns c = λ version. tick_spelled version c.args.levels c.args.place.line c.in_ok-tick.tick c.args.place.rest.now c.in_ok-tick.rest.now (omega arith) c.in_ok-tick.ensures

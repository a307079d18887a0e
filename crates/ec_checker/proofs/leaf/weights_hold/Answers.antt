use Rattle.std.proofs.Common.{rules}
use Rattle.ec_checker.proofs.leaf.weights_hold.Goals as goal

pub returns : goal.returns
returns c = search rules

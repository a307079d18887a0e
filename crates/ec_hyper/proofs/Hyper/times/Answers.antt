use Rattle.std.proofs.Common.{rules}
use Rattle.ec_hyper.proofs.Hyper.times.Goals as goal

pub returns : goal.returns
returns c = search rules

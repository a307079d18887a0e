use Rattle.std.proofs.Common.{rules}
use Rattle.ec_outcome.proofs.play.PlayTextFaultFromAllocError.from.Goals as goal

pub returns : goal.returns
returns c = search rules

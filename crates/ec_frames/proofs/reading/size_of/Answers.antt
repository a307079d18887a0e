use Rattle.std.proofs.Common.{rules}
use Rattle.ec_frames.proofs.reading.size_of.Goals as goal

pub returns : goal.returns
returns c = search rules

use Rattle.std.proofs.Common.{rules}
use Rattle.ec_frames.proofs.reading.type_of.Goals as goal

pub returns : goal.returns
returns c = search rules

use Rattle.std.proofs.Common.{rules}
use Rattle.ec_frames.proofs.writing.write.Goals as goal

pub returns : goal.returns
unfolding Rattle.ec_frames.specs.Written.written
returns c = search rules

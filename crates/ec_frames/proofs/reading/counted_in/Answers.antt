use Rattle.std.proofs.Common.{rules}
use Rattle.ec_frames.proofs.reading.counted_in.Goals as goal

pub returns-then-frame-size : goal.returns-then-frame-size
returns-then-frame-size c = search rules

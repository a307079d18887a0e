use Rattle.std.proofs.Common.{rules}
use Rattle.ec_frames.proofs.reading.is_ether_cat.Goals as goal

pub returns-then-frame : goal.returns-then-frame
returns-then-frame c = search rules

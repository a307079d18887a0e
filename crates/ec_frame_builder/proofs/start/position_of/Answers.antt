use Rattle.std.proofs.Common.{rules}
use Rattle.ec_frame_builder.proofs.start.position_of.Goals as goal

pub returns : goal.returns
returns c = search rules

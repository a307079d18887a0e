use Rattle.std.proofs.Common.{rules}
use Rattle.ec_frames.proofs.writing.put_u16.Goals as goal

pub returns : goal.returns
returns c = search rules

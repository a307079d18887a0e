use Rattle.std.proofs.Common.{rules}
use Rattle.ec_frames.proofs.reading.payload_of.Goals as goal

pub returns : goal.returns
unfolding Rattle.ec_frames.specs.Parsing.payload_in
returns c = search rules

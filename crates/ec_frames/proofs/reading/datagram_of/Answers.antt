use Rattle.std.proofs.Common.{rules}
use Rattle.ec_frames.proofs.reading.datagram_of.Goals as goal

pub returns-in-None-clause-read : goal.returns-in-None-clause-read
unfolding Rattle.ec_frames.specs.Parsing.datagram_at
returns-in-None-clause-read c = search rules

use Rattle.std.proofs.Common.{rules}
use Rattle.ec_frames.proofs.reading.FrameFaultDisplay.fmt.Goals as goal

pub returns-in-UnknownCommand-clause-writes : goal.returns-in-UnknownCommand-clause-writes
returns-in-UnknownCommand-clause-writes c = search rules

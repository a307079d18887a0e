use Rattle.std.proofs.Common.{rules}
use Rattle.ec_frames.proofs.reading.ended.Goals as goal

pub returns-then-is_empty-clause-read : goal.returns-then-is_empty-clause-read
returns-then-is_empty-clause-read c = search rules

pub returns-clause-read : goal.returns-clause-read
returns-clause-read c = search rules

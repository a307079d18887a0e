use Rattle.ec_frames.proofs.WrittenReads.{read_again}
use Rattle.ec_frames.proofs.laws.law_written_is_read.Goals as goal

pub returns : goal.returns
returns c = read_again

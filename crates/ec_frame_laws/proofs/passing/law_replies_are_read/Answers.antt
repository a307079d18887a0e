use Rattle.ec_frame_laws.proofs.ReplyLemmas.{reply-reads}
use Rattle.ec_frame_laws.proofs.passing.law_replies_are_read.Goals as goal

pub returns : goal.returns
returns c = reply-reads

use Rattle.ec_frame_laws.proofs.ReplyLemmas.{as-many}
use Rattle.ec_frame_laws.proofs.passing.law_as_many_datagrams.Goals as goal

pub returns : goal.returns
returns c = as-many

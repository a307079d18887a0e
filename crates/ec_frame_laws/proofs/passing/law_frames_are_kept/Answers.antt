use Rattle.ec_frame_laws.proofs.ReplyLemmas.{frame-kept, line-kept}
use Rattle.ec_frame_laws.proofs.passing.law_frames_are_kept.Goals as goal

pub returns-clause-slave : goal.returns-clause-slave
returns-clause-slave c = frame-kept

pub returns-clause-line : goal.returns-clause-line
returns-clause-line c = line-kept

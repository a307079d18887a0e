use Rattle.std.proofs.Common.{refl}
use Rattle.ec_frame_laws.proofs.texts.law_same_frames.Goals as goal

pub returns : goal.returns
returns c = λ v m t. refl

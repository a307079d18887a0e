use Rattle.std.proofs.Common.{refl}
use Rattle.ec_cli_text.proofs.frames.plan_frames.Goals as goal

pub frames_text-requires : goal.frames_text-requires
frames_text-requires c = (c.args.plan.now.places, record { legal = c.requires; layout = c.in-Ok.ensures })

pub returns : goal.returns
returns c = (record { mapping = c.in-Ok.mapping; layout = c.in-Ok.ensures; lines = c.in_ok-text.ensures }, refl)

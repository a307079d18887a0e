-- Which refusal says over what memory ran out, or why a plan isn't played to its end.
use Rattle.ec_outcome.specs.declared.text.TextFault.{TextFault}
use Rattle.ec_outcome.specs.declared.text.TextFault.TheVariants as fault
use Rattle.ec_outcome.specs.declared.play.PlayTextFault.{PlayTextFault}
use Rattle.ec_outcome.specs.declared.play.PlayTextFault.TheVariants as played
use Rattle.ec_cli_refusals.specs.declared.refusal.Refusal.{Refusal}
use Rattle.ec_cli_refusals.specs.declared.refusal.Refusal.TheVariants as refusal
use Rattle.ec_cli_refusals.specs.Refusals.{out_of_memory, frame_memory}

-- over the frames of a plan, or over the text that tells them
abbrev pub text_memory : TextFault → Refusal
text_memory fault.Frames = frame_memory
text_memory fault.Text = out_of_memory

-- over a play, or over the text that tells it
abbrev pub play_memory : PlayTextFault → Refusal
play_memory (played.Play f) = refusal.Play f
play_memory played.Text = out_of_memory

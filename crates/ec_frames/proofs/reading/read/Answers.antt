use Rattle.std.proofs.Common.{◌∙◌, sym, ap}
use Rattle.ec_frames.specs.Parsing.{and_then, payload_read}
use Rattle.ec_frames.proofs.ParsingSteps.{parsed}
use Rattle.ec_frames.proofs.reading.read.Goals as goal

pub returns : goal.returns
returns c = sym (ap (λ r. and_then r payload_read) (sym c.in_ok-payload.ensures) ∙ parsed _ (sym c.in_ok-check.ensures))

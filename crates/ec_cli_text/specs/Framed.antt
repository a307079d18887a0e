-- The capture file of the plan of which frames tell.
use Rattle.std.specs.Prelude.{◌≡◌, ℕ, ◌≤◌, List, length, Option, Ok}
use Rattle.ec_units.specs.declared.slave.Place.{Place}
use Rattle.ec_unit_text.specs.Reading.{reading}
use Rattle.ec_units.specs.Views.{UnitsView}
use Rattle.ec_frame_text.specs.Lines.{IsFramesText}
use Rattle.ec_frame_text.specs.Captures.{IsCapture}
use Rattle.ec_cli_text.specs.Plans.{IsFramedPlan}
use Rattle.ec_cli_text.specs.Output.{Written}

-- the capture file of that plan, for the bytes of units
pub record IsCaptureFor (cert : Option (List ℕ)) (bytes : List ℕ) (file : List ℕ) : Type 0 where
  pub short : length bytes ≤ 1048576
  pub units : UnitsView
  pub said : reading bytes ≡ Ok units
  pub places : List Place
  pub plan : IsFramedPlan cert units places
  pub capture : IsCapture units places file

-- that file, and the text of the frames of the same plan, with status 0
pub record IsCaptured (cert : Option (List ℕ)) (bytes : List ℕ) (w : Written) (file : List ℕ) : Type 0 where
  pub drawn : IsCaptureFor cert bytes file
  pub text : IsFramesText drawn.units drawn.places w.text
  pub status : w.code ≡ 0

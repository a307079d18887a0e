-- Frames as they are sent, and as they come back.
use Rattle.std.specs.Prelude.{ℕ, List, map}
use Rattle.ec_player.specs.Sent.{Sent}
use Rattle.ec_player.specs.Boxes.{bytes_in}
use Rattle.ec_player.specs.Trips.{sent_in}
use Rattle.ec_player.specs.Lines.{came_back}
use Rattle.ec_play_trial.specs.declared.round.Round.{Round}

-- what is sent, and what comes back of it
pub record RoundView : Type 0 where
  pub sents : List Sent
  pub backs : List (List ℕ)

abbrev pub round_in : Round → RoundView
round_in r = record { sents = map sent_in r.trips.items; backs = bytes_in r.backs.items }

-- frames that are sent through slaves
abbrev pub round_of : {X : Type 0} → (X → List ℕ → List ℕ) → (X → List ℕ → X) → List X → List Sent → RoundView
round_of out next slaves sents = record { sents = sents; backs = came_back out next slaves sents }

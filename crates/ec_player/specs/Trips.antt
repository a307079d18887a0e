-- What is sent, by the frames that the code holds.
use Rattle.std.specs.Prelude.{ℕ, suc, ◌==◌, if◌then◌else◌, List, [], ◌∷◌, map}
use Rattle.ec_fmmu.specs.declared.group.Group.{Group}
use Rattle.ec_frame_builder.specs.Frames.{going, frame_of}
use Rattle.ec_player.specs.declared.faults.Stage.TheVariants as stage
use Rattle.ec_player.specs.declared.trips.Trip.{Trip}
use Rattle.ec_player.specs.Sent.{Sent}

abbrev pub sent_in : Trip → Sent
sent_in t = record { stage = t.stage; bytes = t.frame.value.items; wants = t.wants }

-- start frames from number i on, of a line of n slaves
abbrev pub starts_from : ℕ → ℕ → List (List ℕ) → List Sent
starts_from i n [] = []
starts_from i n (b ∷ bs) = record { stage = stage.Start; bytes = b; wants = (if i == 0 then n else 1) ∷ [] } ∷ starts_from (suc i) n bs

-- the frame of slot s in tick t, of groups whose bytes are these
abbrev pub slot_from : List Group → List ℕ → ℕ → ℕ → Sent
slot_from groups bytes t s = record { stage = stage.Tick t s; bytes = frame_of (going groups t s) bytes; wants = map (λ g. g.counter) (going groups t s) }

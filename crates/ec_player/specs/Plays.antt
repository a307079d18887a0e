-- What a play answers.
use Rattle.std.specs.Prelude.{◌≡◌, ◌⊎◌, ℕ, List, length, Some, Result, Ok, Err}
use Rattle.ec_units.specs.declared.units.Units.{Units}
use Rattle.ec_fmmu.specs.declared.mapping.Mapping.{Mapping}
use Rattle.ec_frame_builder.specs.Start.{starts_of}
use Rattle.ec_outcome.specs.declared.play.PlayFault.{PlayFault}
use Rattle.ec_player.specs.declared.playing.Played.{Played}
use Rattle.ec_player.specs.Sent.{start_sents, ticks_sents, all_sents}
use Rattle.ec_player.specs.Faults.{first_fault}
use Rattle.ec_player.specs.Images.{image_after}
use Rattle.ec_player.specs.Lines.{came_back, slaves_after, AreRight}
use Rattle.ec_player.specs.Rows.{rows_of}

module _ {X : Type 0} (out : X → List ℕ → List ℕ) (next : X → List ℕ → X) where
  -- the start frames and those of n ticks went through the slaves, and none that came back is faulty
  pub record IsPlayed (us : Units) (m : Mapping) (image : List ℕ) (n : ℕ) (slaves : List X) (p : Played X) : Type 0 where
    pub right : AreRight out next slaves 0 (all_sents us m image n)
    pub starts : p.start ≡ length (starts_of us m)
    pub rows : p.ticks ≡ rows_of out next us m image slaves (start_sents us m) n
    pub inputs : p.image.items ≡ image_after m.fmmus image (came_back out next (slaves_after out next slaves (start_sents us m)) (ticks_sents us m image n))
    pub line : p.slaves.items ≡ slaves_after out next slaves (all_sents us m image n)

  -- so it is, or the fault is that of the first faulty frame, or what the play needs could not be had
  abbrev pub IsAnswer : (PlayFault → Type 0) → Units → Mapping → List ℕ → ℕ → List X → Result (Played X) PlayFault → Type 0
  IsAnswer lacks us m image n slaves (Ok p) = IsPlayed us m image n slaves p
  IsAnswer lacks us m image n slaves (Err f) = lacks f ⊎ (first_fault 0 (all_sents us m image n) (came_back out next slaves (all_sents us m image n)) ≡ Some f)

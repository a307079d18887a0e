-- What comes back of the frames of a tick.
use Rattle.std.specs.Prelude.{◌≡◌, ℕ, ◌+◌, ◌<◌, List, [], ◌++◌, length, get_or, unwrap_or, Some, None}
use Rattle.ec_units.specs.declared.units.Units.{Units}
use Rattle.ec_fmmu.specs.declared.mapping.Mapping.{Mapping}
use Rattle.ec_outcome.specs.declared.play.PlayFault.{PlayFault}
use Rattle.ec_player.specs.declared.rows.TickRow.{TickRow}
use Rattle.ec_frame_builder.specs.Start.{starts_of}
use Rattle.ec_player.specs.Sent.{Sent, start_sents, ticks_sents, all_sents}
use Rattle.ec_player.specs.Faults.{first_fault}
use Rattle.ec_player.specs.Images.{last_byte, all_entries, image_after}
use Rattle.ec_player.specs.Lines.{came_back, slaves_after, AreRight}
use Rattle.ec_player.specs.Rows.{row_of, rows_of}

-- all of a tick's frames came back behind those that came before, none of them faulty; what is told of them, and the bytes that came
pub record IsRound (n : ℕ) (sents : List Sent) (old new : List (List ℕ)) (before after : List ℕ) (row : TickRow) : Type 0 where
  pub backs : List (List ℕ)
  pub came : new ≡ old ++ backs
  pub many : length backs ≡ length sents
  pub right : first_fault n sents backs ≡ None
  pub told : row ≡ row_of sents backs
  pub bytes : (k : ℕ) → k < length before → get_or after k 0 ≡ unwrap_or (last_byte (65536 + k) (all_entries backs)) (get_or before k 0)

-- frames came back up to the first that is faulty
pub record IsStopped (n : ℕ) (sents : List Sent) (old new : List (List ℕ)) (f : PlayFault) : Type 0 where
  pub backs : List (List ℕ)
  pub came : new ≡ old ++ backs
  pub fault : first_fault n sents backs ≡ Some f

module _ {X : Type 0} (out : X → List ℕ → List ℕ) (next : X → List ℕ → X) where
  -- the start frames and those of the ticks below t went through these slaves, and none that came back is faulty; what is told of
  -- the ticks, and for each byte of the image what came last
  pub record ArePlayed (us : Units) (m : Mapping) (image : List ℕ) (slaves : List X) (t : ℕ) (rows : List TickRow) (bytes : List ℕ) : Type 0 where
    pub begun : AreRight out next slaves 0 (start_sents us m)
    pub right : AreRight out next (slaves_after out next slaves (start_sents us m)) (length (start_sents us m)) (ticks_sents us m image t)
    pub told : rows ≡ rows_of out next us m image (slaves_after out next slaves (start_sents us m)) [] t
    pub came : (k : ℕ) → k < length image → get_or bytes k 0
        ≡ unwrap_or (last_byte (65536 + k) (all_entries (came_back out next (slaves_after out next slaves (start_sents us m)) (ticks_sents us m image t)))) 0

  -- what is said of a play but for its slaves: no frame is faulty, and what is told
  pub record IsLinePlayed (us : Units) (m : Mapping) (image : List ℕ) (n : ℕ) (slaves : List X) (start : ℕ) (rows : List TickRow) (bytes : List ℕ) : Type 0 where
    pub right : AreRight out next slaves 0 (all_sents us m image n)
    pub starts : start ≡ length (starts_of us m)
    pub told : rows ≡ rows_of out next us m image slaves (start_sents us m) n
    pub inputs : bytes ≡ image_after m.fmmus image (came_back out next (slaves_after out next slaves (start_sents us m)) (ticks_sents us m image n))

  -- the fault is that of the first faulty frame that is sent in n ticks
  abbrev pub IsFirstFault : Units → Mapping → List ℕ → ℕ → List X → PlayFault → Type 0
  IsFirstFault us m image n slaves f = first_fault 0 (all_sents us m image n) (came_back out next slaves (all_sents us m image n)) ≡ Some f

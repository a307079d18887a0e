-- What is told of a plan that is played through new modelled slaves for a hyperperiod, with an image of zeros.
use Rattle.std.specs.Prelude.{◌≡◌, ◌⊎◌, ℕ, List, ◌++◌, length, map, replicate}
use Rattle.std.specs.List.{flat_map, range_with_len}
use Rattle.ec_hyper.specs.Lcm.{lcm_of}
use Rattle.ec_units.specs.declared.slave.Place.{Place}
use Rattle.ec_units.specs.Load.{periods_of}
use Rattle.ec_units.specs.Views.{UnitsView, view_loads}
use Rattle.ec_fmmu.specs.declared.mapping.Mapping.{Mapping}
use Rattle.ec_fmmu.specs.Seats.{seats_of}
use Rattle.ec_fmmu.specs.Mappings.{IsLayout}
use Rattle.ec_slave.specs.Step.{frame_after, memory_after}
use Rattle.ec_frame_builder.specs.Start.{start_list}
use Rattle.ec_player.specs.declared.rows.TickRow.{TickRow}
use Rattle.ec_outcome.specs.declared.play.PlayFault.{PlayFault}
use Rattle.ec_outcome.specs.declared.play.PlayFault.TheVariants as fault
use Rattle.ec_player.specs.Sent.{Sent, start_sent, slot_sent}
use Rattle.ec_player.specs.Lines.{came_back, slaves_after}
use Rattle.ec_player.specs.Rows.{row_of}
use Rattle.ec_frame_text.specs.Lines.{stations_in, zeros, slots_of}
use Rattle.ec_outcome.specs.declared.play.PlayTextFault.{PlayTextFault}
use Rattle.ec_outcome.specs.declared.play.PlayTextFault.TheVariants as text
use Rattle.ec_play_text.specs.Lines.{play_text}

-- the start frames of slaves with these stations
abbrev pub starts_at : List ℕ → Mapping → List Sent
starts_at stations m = map start_sent (start_list stations m.fmmus)

-- the frames of tick t: those of the slots below n that carry something
abbrev pub sents_at : Mapping → ℕ → ℕ → List Sent
sents_at m n t = map (slot_sent m (zeros m) t) (slots_of m n t)

-- a new slave for each station: its memory is all 0
abbrev pub new_slaves : List ℕ → List (List ℕ)
new_slaves stations = replicate (length stations) (replicate 65536 0)

-- the slaves as the frames of tick t find them
abbrev pub slaves_at : List ℕ → Mapping → ℕ → ℕ → List (List ℕ)
slaves_at stations m n t = slaves_after frame_after memory_after (new_slaves stations) (starts_at stations m ++ flat_map (sents_at m n) (range_with_len 0 t))

-- what is told of tick t
abbrev pub row_at : List ℕ → Mapping → ℕ → ℕ → TickRow
row_at stations m n t = row_of (sents_at m n t) (came_back frame_after memory_after (slaves_at stations m n t) (sents_at m n t))

-- the number of start frames, and each tick below the hyperperiod
unfoldable pub played : UnitsView → Mapping → List ℕ
played v m =
    play_text (length (start_list (stations_in v.units) m.fmmus))
    (map (row_at (stations_in v.units) m v.slots) (range_with_len 0 (lcm_of (periods_of (view_loads v.units)))))

-- the text of units at these places: that of their layout
pub record IsPlayText (v : UnitsView) (places : List Place) (told : List ℕ) : Type 0 where
  pub mapping : Mapping
  pub layout : IsLayout (seats_of v.units places) mapping
  pub lines : told ≡ played v mapping

-- memory ran out, over what is played or over the text
abbrev pub IsNoMemory : PlayTextFault → Type 0
IsNoMemory f = (f ≡ text.Text) ⊎ (f ≡ text.Play fault.OutOfMemory)

-- or a ring couldn't be made or finished, or a thread not be started
abbrev pub IsNoThread : PlayTextFault → Type 0
IsNoThread f = (f ≡ text.Play fault.Ring) ⊎ (f ≡ text.Play fault.Spawn)

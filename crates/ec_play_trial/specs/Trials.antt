-- A play that loses slaves.
use Rattle.std.specs.Prelude.{ℕ, List, map}
use Rattle.std.specs.List.{range_with_len}
use Rattle.ec_hyper.specs.Lcm.{lcm_of}
use Rattle.ec_units.specs.declared.units.Units.{Units}
use Rattle.ec_units.specs.Load.{loads_of, periods_of}
use Rattle.ec_units.specs.Views.{unit_view}
use Rattle.ec_fmmu.specs.declared.mapping.Mapping.{Mapping}
use Rattle.ec_slave.specs.Step.{frame_after, memory_after}
use Rattle.ec_frame_text.specs.Lines.{stations_in, zeros}
use Rattle.ec_player.specs.declared.faults.Wrong.{Wrong}
use Rattle.ec_player.specs.declared.rows.TickRow.{TickRow}
use Rattle.ec_player.specs.Sent.{Sent, start_sents, tick_sents, ticks_sents}
use Rattle.ec_player.specs.Lines.{came_back, slaves_after}
use Rattle.ec_player.specs.Rows.{row_of, counters_of}
use Rattle.ec_play_text.specs.Plays.{new_slaves}
use Rattle.ec_play_trial.specs.declared.tick.Tick.{Tick}
use Rattle.ec_play_trial.specs.declared.member.Member.{Member}
use Rattle.ec_play_trial.specs.Members.{handed_on, left, members}
use Rattle.ec_play_trial.specs.Shorts.{wants_of, wrongs}
use Rattle.ec_play_trial.specs.Rounds.{RoundView, round_in, round_of}

-- a tick: its frames, what is told of it, and the counters that aren't wanted
pub record TickView : Type 0 where
  pub round : RoundView
  pub row : TickRow
  pub shorts : List Wrong

abbrev pub tick_in : Tick → TickView
tick_in t = record { round = round_in t.round; row = t.row; shorts = t.shorts.items }

-- that of frames which are sent through members of a line
abbrev pub tick_of : List Member → List Sent → TickView
tick_of line sents = record {
  round = round_of handed_on left line sents;
  row = row_of sents (came_back handed_on left line sents);
  shorts = wrongs (wants_of sents) (counters_of (came_back handed_on left line sents));
}

-- tick t, of a line that tick 0 finds so
abbrev pub tick_at : Units → Mapping → List ℕ → List Member → ℕ → TickView
tick_at us m image line t = tick_of (slaves_after handed_on left line (ticks_sents us m image t)) (tick_sents us m image t)

-- the ticks below n
abbrev pub ticks_of : Units → Mapping → List ℕ → List Member → ℕ → List TickView
ticks_of us m image line n = map (tick_at us m image line) (range_with_len 0 n)

-- the start frames, through modelled slaves
abbrev pub start_round : Units → Mapping → List (List ℕ) → RoundView
start_round us m slaves = round_of frame_after memory_after slaves (start_sents us m)

-- the stations of the units' slaves
abbrev pub stations_at : Units → List ℕ
stations_at us = stations_in (map unit_view us.units)

-- the line that tick 0 finds: new slaves that the start frames passed, of which those with a station of some are lost
abbrev pub started_line : Units → Mapping → List ℕ → List Member
started_line us m lost = members lost (stations_at us) (slaves_after frame_after memory_after (new_slaves (stations_at us)) (start_sents us m))

-- each tick of a hyperperiod, with an image of zeros
abbrev pub tried_ticks : Units → Mapping → List ℕ → List TickView
tried_ticks us m lost = ticks_of us m (zeros m) (started_line us m lost) (lcm_of (periods_of (loads_of us.units)))

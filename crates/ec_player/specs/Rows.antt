-- What is told of the ticks that were played.
use Rattle.std.specs.Prelude.{ℕ, ◌+◌, List, ◌++◌, length, map, sum_by}
use Rattle.std.specs.List.{flat_map, range_with_len}
use Rattle.ec_units.specs.declared.units.Units.{Units}
use Rattle.ec_fmmu.specs.declared.mapping.Mapping.{Mapping}
use Rattle.ec_player.specs.declared.rows.TickRow.{TickRow}
use Rattle.ec_player.specs.Sent.{Sent, tick_sents, ticks_sents}
use Rattle.ec_player.specs.Faults.{entries_of}
use Rattle.ec_player.specs.Lines.{came_back, slaves_after}

-- the working counters of frames
abbrev pub counters_of : List (List ℕ) → List ℕ
counters_of frames = flat_map (λ b. map (λ d. d.counter) (entries_of b)) frames

-- what is told of a tick: its frames, their bytes on the wire, 24 more each, and the counters with which they came back
abbrev pub row_of : List Sent → List (List ℕ) → TickRow
row_of sents backs = record { frames = length sents; bytes = sum_by (λ s. length s.bytes + 24) sents; counters = counters_of backs }

module _ {X : Type 0} (out : X → List ℕ → List ℕ) (next : X → List ℕ → X) where
  -- what comes back in tick t of slaves that got other frames before tick 0
  abbrev pub backs_at : Units → Mapping → List ℕ → List X → List Sent → ℕ → List (List ℕ)
  backs_at us m image slaves before t = came_back out next (slaves_after out next slaves (before ++ ticks_sents us m image t)) (tick_sents us m image t)

  abbrev pub row_at : Units → Mapping → List ℕ → List X → List Sent → ℕ → TickRow
  row_at us m image slaves before t = row_of (tick_sents us m image t) (backs_at us m image slaves before t)

  -- the rows of the ticks below n
  abbrev pub rows_of : Units → Mapping → List ℕ → List X → List Sent → ℕ → List TickRow
  rows_of us m image slaves before n = map (row_at us m image slaves before) (range_with_len 0 n)

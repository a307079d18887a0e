-- The frames of a play as a capture file.
use Rattle.std.specs.Prelude.{ℕ, ◌+◌, ◌-◌, ◌*◌, ◌/◌, List, [], ◌∷◌, ◌++◌, length, sum_by}
use Rattle.ec_player.specs.Sent.{Sent}
use Rattle.ec_frame_text.specs.Captures.{file_header, frame_record}
use Rattle.ec_play_trial.specs.Rounds.{RoundView}
use Rattle.ec_play_trial.specs.Trials.{TickView}

-- the time in ns that a frame takes on the wire: 24 bytes more than it has, at 80 ns a byte
abbrev pub passing : Sent → ℕ
passing s = 80 * (length s.bytes + 24)

-- frames with what came back of each: the first is sent then, each other one once the one before it came back
abbrev pub pairs : ℕ → List Sent → List (List ℕ) → List ℕ
pairs ns (s ∷ ss) (b ∷ bs) = frame_record ns s.bytes ++ (frame_record (ns + passing s) b ++ pairs (ns + passing s) ss bs)
pairs ns ss bs = []

abbrev pub round_records : ℕ → RoundView → List ℕ
round_records ns r = pairs ns r.sents r.backs

-- how long they take
abbrev pub round_ns : RoundView → ℕ
round_ns r = sum_by passing r.sents

-- the first whole tick from then on
abbrev pub first_tick : ℕ → ℕ → ℕ
first_tick ns tick_ns = (ns + tick_ns - 1) / tick_ns * tick_ns

-- ticks, the first of which begins then
abbrev pub ticks_records : ℕ → ℕ → List TickView → List ℕ
ticks_records ns tick_ns [] = []
ticks_records ns tick_ns (t ∷ ts) = round_records ns t.round ++ ticks_records (ns + tick_ns) tick_ns ts

-- the file: the start frames, and then each tick
unfoldable pub trial_capture : ℕ → RoundView → List TickView → List ℕ
trial_capture tick_ns start ticks = file_header ++ (round_records 0 start ++ ticks_records (first_tick (round_ns start) tick_ns) tick_ns ticks)

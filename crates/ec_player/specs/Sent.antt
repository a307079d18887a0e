-- What is sent: the start frames, and then the frames of each tick.
use Rattle.std.specs.Prelude.{ℕ, List, [], ◌∷◌, ◌++◌, map, filter}
use Rattle.std.specs.List.{flat_map, range_with_len}
use Rattle.ec_units.specs.declared.units.Units.{Units}
use Rattle.ec_fmmu.specs.declared.mapping.Mapping.{Mapping}
use Rattle.ec_frame_builder.specs.Frames.{going, carries, slot_frame}
use Rattle.ec_frame_builder.specs.Start.{StartFrame, start_bytes, starts_of}
use Rattle.ec_player.specs.declared.faults.Stage.{Stage}
use Rattle.ec_player.specs.declared.faults.Stage.TheVariants as stage

-- a frame: when it is sent, its bytes, and the working counters with which its datagrams are to come back
pub record Sent : Type 0 where
  pub stage : Stage
  pub bytes : List ℕ
  pub wants : List ℕ

abbrev pub start_sent : StartFrame → Sent
start_sent f = record { stage = stage.Start; bytes = start_bytes f; wants = f.want ∷ [] }

abbrev pub start_sents : Units → Mapping → List Sent
start_sents us m = map start_sent (starts_of us m)

-- the frame of a slot in a tick, whose datagrams are to come back with the counters of their groups
abbrev pub slot_sent : Mapping → List ℕ → ℕ → ℕ → Sent
slot_sent m image t s = record { stage = stage.Tick t s; bytes = slot_frame m image t s; wants = map (λ g. g.counter) (going m.groups t s) }

-- those of a tick, by slot
abbrev pub tick_sents : Units → Mapping → List ℕ → ℕ → List Sent
tick_sents us m image t = map (slot_sent m image t) (filter (carries m.groups t) (range_with_len 0 us.slots))

-- those of the ticks below n
abbrev pub ticks_sents : Units → Mapping → List ℕ → ℕ → List Sent
ticks_sents us m image n = flat_map (tick_sents us m image) (range_with_len 0 n)

-- all that is sent before tick n
abbrev pub all_sents : Units → Mapping → List ℕ → ℕ → List Sent
all_sents us m image n = start_sents us m ++ ticks_sents us m image n

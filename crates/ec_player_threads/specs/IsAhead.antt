-- Frames that were sent ahead of the tick that is due.
use Rattle.std.specs.Prelude.{◌≡◌, ℕ, ◌+◌, ◌-◌, ◌*◌, ◌≤◌, List, ◌++◌, length, map, All, Vec}
use Rattle.std.specs.List.{range_with_len}
use Rattle.std.specs.declared.alloc.Global.{Global}
use Rattle.ec_units.specs.declared.units.Units.{Units}
use Rattle.ec_fmmu.specs.declared.mapping.Mapping.{Mapping}
use Rattle.ec_player.specs.declared.trips.Trip.{Trip}
use Rattle.ec_player.specs.Sent.{Sent, start_sents, tick_sents, ticks_sents}
use Rattle.ec_player.specs.Lines.{bytes_of}
use Rattle.ec_player.specs.Trips.{sent_in}
use Rattle.ec_player_threads.specs.declared.ahead.Ahead.{Ahead}

-- what is sent in ticks, tick by tick
abbrev pub sents_in : List (Vec Trip Global) → List (List Sent)
sents_in trips = map (λ v. map sent_in v.items) trips

-- the frames of the ticks below `a.tick` were sent behind the start frames, and those from tick t on are kept, at most 8 for a tick
pub record IsAhead (us : Units) (m : Mapping) (image : List ℕ) (n t : ℕ) (a : Ahead) (sent : List (List ℕ)) : Type 0 where
  pub begun : t ≤ a.tick
  pub within : a.tick ≤ n
  pub most : a.frames ≤ 769 + 8 * a.tick
  pub kept : sents_in a.trips.items ≡ map (tick_sents us m image) (range_with_len t (a.tick - t))
  pub few : All (λ v. length v.items ≤ 8) a.trips.items
  pub went : sent ≡ bytes_of (start_sents us m ++ ticks_sents us m image a.tick)

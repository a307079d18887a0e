-- What a table of ticks, one for each class, shows of a prefix. A tick that isn't of its class shows the least top, so there may seem to be more room than there is,
-- and what it shows holds.
use Rattle.std.specs.Prelude.{ℕ, ◌&&◌, nat_lt, max, if◌then◌else◌, List, Option}
use Rattle.ec_hyper.specs.Lcm.{lcm_of}
use Rattle.ec_hyper.specs.Travel.{travels}
use Rattle.ec_units.specs.declared.slave.Place.{Place}
use Rattle.ec_units.specs.declared.unit.Load.{Load}
use Rattle.ec_units.specs.Load.{periods_of}
use Rattle.ec_loads.specs.declared.item.Item.{Item}
use Rattle.ec_loads.specs.declared.pair.Pair.{Pair}
use Rattle.ec_loads.specs.Cost.{items, raw_cost}
use Rattle.ec_loads.specs.Rooms.{CountHoldsBy, GroupsHoldBy}

-- what a tick shows of the top of a class: what it costs without padding, 40 at least; 40 where it isn't one of the class below h
abbrev pub tick_top : List Item → ℕ → ℕ → ℕ → ℕ → ℕ → ℕ
tick_top xs n h p f t = if nat_lt t h && travels p f t then max 40 (raw_cost xs n t) else 40

-- the tops that a table of ticks shows, one for each period and phase
abbrev pub shown_tops : List Item → ℕ → ℕ → (ℕ → ℕ → ℕ) → ℕ → ℕ → ℕ
shown_tops xs n h ticks p f = tick_top xs n h p f (ticks p f)

-- what the ticks of a table show: that units are more than have room, and that new groups cost too much
abbrev pub CountShows : List Load → ℕ → Option ℕ → List (Option Place) → ℕ → ℕ → (ℕ → ℕ → ℕ) → Type 0
CountShows loads n v places p c ticks = CountHoldsBy loads (shown_tops (items loads places) n (lcm_of (periods_of loads)) ticks) v places p c

abbrev pub GroupsShow : List Load → ℕ → Option ℕ → List (Option Place) → List Pair → (ℕ → ℕ → ℕ) → Type 0
GroupsShow loads n v places pairs ticks = GroupsHoldBy loads n (shown_tops (items loads places) n (lcm_of (periods_of loads)) ticks) v places pairs

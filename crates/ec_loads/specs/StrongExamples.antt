-- Worked examples of the strong children, which the definitions compute by themselves.
use Rattle.std.specs.Prelude.{◌≡◌, ℕ, List, [], ◌∷◌, Some, None, refl}
use Rattle.ec_hyper.specs.Lcm.{lcm, lcm_of}
use Rattle.ec_units.specs.declared.slave.Place.{Place}
use Rattle.ec_units.specs.declared.unit.Load.{Load}
use Rattle.ec_loads.specs.Strong.{gcd, strong_children}

abbrev load : ℕ → ℕ → Load
load bytes period = record { bytes = bytes; period = period }

abbrev at : ℕ → ℕ → Place
at phase slot = record { phase = phase; slot = slot }

-- 10 bytes every second, every third and every sixth tick
abbrev two_three_six : List Load
two_three_six = load 10 2 ∷ load 10 3 ∷ load 10 6 ∷ []

-- the first unit has phase 0 alone
first_of_all : strong_children two_three_six 1 (None ∷ None ∷ None ∷ []) 0 ≡ at 0 0 ∷ []
unfolding strong_children gcd lcm lcm_of
first_of_all = refl

-- so has the second, whose period has no divisor in common with the first one's
nothing_in_common : strong_children two_three_six 1 (Some (at 0 0) ∷ None ∷ None ∷ []) 1 ≡ at 0 0 ∷ []
unfolding strong_children gcd lcm lcm_of
nothing_in_common = refl

-- the third has all six, since both periods together count, and not one of them
both_periods : strong_children two_three_six 1 (Some (at 0 0) ∷ Some (at 0 0) ∷ None ∷ []) 2 ≡ at 0 0 ∷ at 1 0 ∷ at 2 0 ∷ at 3 0 ∷ at 4 0 ∷ at 5 0 ∷ []
unfolding strong_children gcd lcm lcm_of
both_periods = refl

-- and three where the unit of every second tick has no place
one_period : strong_children two_three_six 1 (None ∷ Some (at 0 0) ∷ None ∷ []) 2 ≡ at 0 0 ∷ at 1 0 ∷ at 2 0 ∷ []
unfolding strong_children gcd lcm lcm_of
one_period = refl

-- two units of 20 bytes each tick: the place of an equal unit is a child itself
at_the_same_place : strong_children (load 20 1 ∷ load 20 1 ∷ []) 1 (Some (at 0 0) ∷ None ∷ []) 1 ≡ at 0 0 ∷ []
unfolding strong_children gcd lcm lcm_of
at_the_same_place = refl

-- two units of 100 bytes every second tick: none below an equal one
none_below : strong_children (load 100 2 ∷ load 100 2 ∷ []) 1 (Some (at 1 0) ∷ None ∷ []) 1 ≡ at 1 0 ∷ []
unfolding strong_children gcd lcm lcm_of
none_below = refl

-- neither in a lower slot of the same phase; a unit later in the file counts as well
none_in_a_lower_slot : strong_children (load 100 2 ∷ load 100 2 ∷ []) 2 (None ∷ Some (at 0 1) ∷ []) 0 ≡ at 0 1 ∷ at 1 0 ∷ at 1 1 ∷ []
unfolding strong_children gcd lcm lcm_of
none_in_a_lower_slot = refl

-- equal periods alone don't make equal units
other_bytes : strong_children (load 100 2 ∷ load 90 2 ∷ load 80 2 ∷ []) 1 (Some (at 0 0) ∷ Some (at 1 0) ∷ None ∷ []) 2 ≡ at 0 0 ∷ at 1 0 ∷ []
unfolding strong_children gcd lcm lcm_of
other_bytes = refl

-- nor do equal bytes alone
other_periods : strong_children (load 100 2 ∷ load 100 4 ∷ []) 1 (Some (at 1 0) ∷ None ∷ []) 1 ≡ at 0 0 ∷ at 1 0 ∷ []
unfolding strong_children gcd lcm lcm_of
other_periods = refl

-- 200 bytes every second and every third tick
meeting_anyway : strong_children (load 200 2 ∷ load 200 3 ∷ []) 1 (Some (at 0 0) ∷ None ∷ []) 1 ≡ at 0 0 ∷ []
unfolding strong_children gcd lcm lcm_of
meeting_anyway = refl

-- 30 and 50 bytes each tick, in two slots: the slot in use and the next one
one_slot_more : strong_children (load 30 1 ∷ load 50 1 ∷ []) 2 (Some (at 0 0) ∷ None ∷ []) 1 ≡ at 0 0 ∷ at 0 1 ∷ []
unfolding strong_children gcd lcm lcm_of
one_slot_more = refl

-- Where process bytes lie in logical memory: each after those that stand before it.
use Rattle.std.specs.Prelude.{◌≡◌, ℕ, ◌+◌, List, [], ◌∷◌, ◌++◌, map, take, length, filter, sum_by, count_by, All, AllPairs, true}
use Rattle.std.specs.List.{flat_map, range_with_len, list_any}
use Rattle.ec_fmmu.specs.declared.seat.Seat.{Seat}
use Rattle.ec_fmmu.specs.declared.group.Group.{Group}
use Rattle.ec_fmmu.specs.Order.{is_before, is_same}
use Rattle.ec_fmmu.specs.Seats.{key_numbers, seat_counter}

-- the two sides of a slave: its outputs come before its inputs
abbrev pub outputs : ℕ
outputs = 0

abbrev pub inputs : ℕ
inputs = 1

-- a process byte, by the numbers that put bytes into order: slot, period, phase, unit, slave, side and offset
abbrev pub process_byte : Seat → ℕ → ℕ → List ℕ
process_byte s side k = s.key.slot ∷ s.key.period ∷ s.key.phase ∷ s.unit ∷ s.slave ∷ side ∷ k ∷ []

-- the bytes of a slave
abbrev pub seat_bytes : Seat → List (List ℕ)
seat_bytes s = map (process_byte s outputs) (range_with_len 0 s.out_bytes) ++ map (process_byte s inputs) (range_with_len 0 s.in_bytes)

-- all process bytes
abbrev pub process_bytes : List Seat → List (List ℕ)
process_bytes seats = flat_map seat_bytes seats

-- the address of a byte, or of what begins with these numbers: 0x00010000 and the number of process bytes that stand before it
unfoldable pub address_of : List Seat → List ℕ → ℕ
address_of seats b = 65536 + count_by (λ a. is_before a b) (process_bytes seats)

-- the number of process bytes
unfoldable pub total_of : List Seat → ℕ
total_of seats = length (process_bytes seats)

-- the numbers of a group
abbrev pub group_numbers : Group → List ℕ
group_numbers g = g.slot ∷ g.period ∷ g.phase ∷ []

-- the number of process bytes of the group with these numbers
unfoldable pub bytes_in : List Seat → List ℕ → ℕ
bytes_in seats g = count_by (λ b. is_same (take 3 b) g) (process_bytes seats)

-- the working counter of that group: that of all its slaves
abbrev pub counter_in : List Seat → List ℕ → ℕ
counter_in seats g = sum_by seat_counter (filter (λ s. is_same (key_numbers s.key) g) seats)

-- a group of these slaves: it begins at its address, with the bytes and the counter of its slaves
pub record IsGroup (seats : List Seat) (g : Group) : Type 0 where
  pub found : list_any (λ s. is_same (key_numbers s.key) (group_numbers g)) seats ≡ true
  pub start : g.start ≡ address_of seats (group_numbers g)
  pub len : g.len ≡ bytes_in seats (group_numbers g)
  pub counter : g.counter ≡ counter_in seats (group_numbers g)

-- each begins where the one before it ends, the first at the one address and the last ending at the other
abbrev pub Fills : ℕ → List Group → ℕ → Type 0
Fills from [] to = from ≡ to
Fills from (g ∷ gs) to = (g.start ≡ from) × Fills (from + g.len) gs to

-- the groups of these slaves: in order, each slave in one of them, and together they are all process bytes, without a gap
pub record AreGroups (seats : List Seat) (groups : List Group) : Type 0 where
  pub each : All (IsGroup seats) groups
  pub ordered : AllPairs (λ g h. is_before (group_numbers g) (group_numbers h) ≡ true) groups
  pub whole : All (λ s. count_by (λ g. is_same (group_numbers g) (key_numbers s.key)) groups ≡ 1) seats
  pub filled : Fills 65536 groups (65536 + total_of seats)

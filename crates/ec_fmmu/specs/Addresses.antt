-- What addresses say: the order of the process bytes is that of their addresses, and these have no gap.
use Rattle.std.specs.Prelude.{◌≡◌, ℕ, ◌+◌, ◌<◌, ◌≤◌, ◌↔◌, true, List}
use Rattle.std.specs.List.{list_any}
use Rattle.ec_fmmu.specs.declared.seat.Seat.{Seat}
use Rattle.ec_fmmu.specs.Order.{is_before, is_same}
use Rattle.ec_fmmu.specs.Seats.{AreKept}
use Rattle.ec_fmmu.specs.Layout.{process_bytes, address_of, total_of}

-- these numbers are those of a process byte of these slaves
abbrev pub IsProcessByte : List Seat → List ℕ → Type 0
IsProcessByte seats b = list_any (is_same b) (process_bytes seats) ≡ true

-- of any two process bytes, one stands before the other exactly if its address is less
abbrev pub OrderIsByAddress : Type 0
OrderIsByAddress = (seats : List Seat) (a b : List ℕ) → IsProcessByte seats a → IsProcessByte seats b → (is_before a b ≡ true) ↔ (address_of seats a < address_of seats b)

-- each process byte lies at one of so many addresses, from 0x00010000 on, as there are process bytes
abbrev pub AddressesAreWithin : Type 0
AddressesAreWithin = (seats : List Seat) (b : List ℕ) → IsProcessByte seats b → (65536 ≤ address_of seats b) × (address_of seats b < 65536 + total_of seats)

-- and at each of these lies one, where the slaves stand in file order
abbrev pub AddressesHaveNoGap : Type 0
AddressesHaveNoGap = (seats : List Seat) → AreKept seats → (n : ℕ) → n < total_of seats → (b : List ℕ) × IsProcessByte seats b × (address_of seats b ≡ 65536 + n)

-- which is the only one there
abbrev pub AddressesAreApart : Type 0
AddressesAreApart = (seats : List Seat) (a b : List ℕ) → IsProcessByte seats a → IsProcessByte seats b → address_of seats a ≡ address_of seats b → a ≡ b

-- Slaves at the places of their units, in file order.
use Rattle.std.specs.Prelude.{◌≡◌, ℕ, suc, ◌+◌, ◌≤◌, true, nat_lt, if◌then◌else◌, List, [], ◌∷◌, ◌++◌, length, All, AllPairs}
use Rattle.ec_units.specs.declared.slave.Place.{Place}
use Rattle.ec_units.specs.Views.{SlaveView, UnitView}
use Rattle.ec_fmmu.specs.declared.seat.Key.{Key}
use Rattle.ec_fmmu.specs.declared.seat.Seat.{Seat}
use Rattle.ec_fmmu.specs.Order.{is_before}

-- the numbers that put groups into order
abbrev pub key_numbers : Key → List ℕ
key_numbers k = k.slot ∷ k.period ∷ k.phase ∷ []

-- the numbers that put slaves into order
abbrev pub spot : Seat → List ℕ
spot s = s.key.slot ∷ s.key.period ∷ s.key.phase ∷ s.unit ∷ s.slave ∷ []

-- the process bytes of a slave
abbrev pub size : Seat → ℕ
size s = s.out_bytes + s.in_bytes

-- what a slave adds to the working counter of a logical read-write datagram: 2 where it has outputs, 1 where it has inputs
abbrev pub counter_of : SlaveView → ℕ
counter_of s = (if nat_lt 0 s.out_bytes then 2 else 0) + (if nat_lt 0 s.in_bytes then 1 else 0)

-- the same of a slave at its place
abbrev pub seat_counter : Seat → ℕ
seat_counter s = (if nat_lt 0 s.out_bytes then 2 else 0) + (if nat_lt 0 s.in_bytes then 1 else 0)

abbrev pub seat : Key → ℕ → ℕ → SlaveView → Seat
seat k u i s = record { key = k; unit = u; slave = i; out_bytes = s.out_bytes; in_bytes = s.in_bytes; out_at = s.out_at; in_at = s.in_at }

-- the slaves of a unit, from this number on
abbrev pub slave_seats : Key → ℕ → ℕ → List SlaveView → List Seat
slave_seats k u i [] = []
slave_seats k u i (s ∷ ss) = seat k u i s ∷ slave_seats k u (suc i) ss

abbrev pub key_at : UnitView → Place → Key
key_at u p = record { slot = p.slot; period = u.period; phase = p.phase }

-- the slaves of units, from this number on
abbrev pub seats_from : ℕ → List UnitView → List Place → List Seat
seats_from n [] places = []
seats_from n (u ∷ us) [] = []
seats_from n (u ∷ us) (p ∷ ps) = slave_seats (key_at u p) n 0 u.slaves ++ seats_from (suc n) us ps

abbrev pub seats_of : List UnitView → List Place → List Seat
seats_of units places = seats_from 0 units places

-- the numbers of a slave in the file
abbrev pub number : Seat → List ℕ
number s = s.unit ∷ s.slave ∷ []

-- its areas end within a slave's memory
abbrev pub HasAreas : Seat → Type 0
HasAreas s = (s.out_at + s.out_bytes ≤ 65536) × (s.in_at + s.in_bytes ≤ 65536)

-- what slaves in file order keep: there are few, each has its areas and stands before those after it
pub record AreKept (seats : List Seat) : Type 0 where
  pub few : length seats ≤ 384
  pub areas : All HasAreas seats
  pub rising : AllPairs (λ a b. is_before (number a) (number b) ≡ true) seats

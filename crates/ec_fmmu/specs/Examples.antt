-- Worked examples, which the definitions compute by themselves.
use Rattle.std.specs.Prelude.{◌≡◌, ℕ, [], ◌∷◌, List, None, refl}
use Rattle.ec_units.specs.declared.slave.Place.{Place}
use Rattle.ec_units.specs.Views.{SlaveView, UnitView}
use Rattle.ec_fmmu.specs.declared.seat.Seat.{Seat}
use Rattle.ec_fmmu.specs.Seats.{seats_of}
use Rattle.ec_fmmu.specs.Layout.{address_of, total_of, bytes_in, counter_in}
use Rattle.ec_fmmu.specs.Records.{record_bytes}
use Rattle.ec_fmmu.specs.Mappings.{fmmu_for}

abbrev slave : ℕ → ℕ → ℕ → SlaveView
slave station out_bytes in_bytes = record { station = station; out_bytes = out_bytes; in_bytes = in_bytes; out_at = 4096; in_at = 8192 }

abbrev of_one : ℕ → SlaveView → UnitView
of_one period s = record { name = 97 ∷ []; period = period; slaves = s ∷ []; place = None }

abbrev at : ℕ → ℕ → Place
at phase slot = record { phase = phase; slot = slot }

-- one slave with 2 bytes of outputs and 4 of inputs: a byte is a slot, a period, a phase, a unit, a slave, a side and an offset
abbrev one : List Seat
one = seats_of (of_one 1 (slave 1001 2 4) ∷ []) (at 0 0 ∷ [])

first_output : address_of one (0 ∷ 1 ∷ 0 ∷ 0 ∷ 0 ∷ 0 ∷ 0 ∷ []) ≡ 0x00010000
unfolding address_of
first_output = refl

first_input : address_of one (0 ∷ 1 ∷ 0 ∷ 0 ∷ 0 ∷ 1 ∷ 0 ∷ []) ≡ 0x00010002
unfolding address_of
first_input = refl

counts_three : counter_in one (0 ∷ 1 ∷ 0 ∷ []) ≡ 3
counts_three = refl

outputs_record : record_bytes (fmmu_for 2 0x00010000 2 4096) ≡ 0 ∷ 0 ∷ 1 ∷ 0 ∷ 2 ∷ 0 ∷ 0 ∷ 7 ∷ 0 ∷ 0x10 ∷ 0 ∷ 2 ∷ 1 ∷ 0 ∷ 0 ∷ 0 ∷ []
outputs_record = refl

inputs_record : record_bytes (fmmu_for 1 0x00010002 4 8192) ≡ 2 ∷ 0 ∷ 1 ∷ 0 ∷ 4 ∷ 0 ∷ 0 ∷ 7 ∷ 0 ∷ 0x20 ∷ 0 ∷ 1 ∷ 1 ∷ 0 ∷ 0 ∷ 0 ∷ []
inputs_record = refl

no_record : record_bytes (fmmu_for 2 0x00010000 0 4096) ≡ 0 ∷ 0 ∷ 0 ∷ 0 ∷ 0 ∷ 0 ∷ 0 ∷ 0 ∷ 0 ∷ 0 ∷ 0 ∷ 0 ∷ 0 ∷ 0 ∷ 0 ∷ 0 ∷ []
no_record = refl

-- two units of 100 bytes every second tick, apart: two groups, the second behind the first
abbrev two : Place → Place → List Seat
two a b = seats_of (of_one 2 (slave 1001 100 0) ∷ of_one 2 (slave 1002 100 0) ∷ []) (a ∷ b ∷ [])

second_group : address_of (two (at 0 0) (at 1 0)) (0 ∷ 2 ∷ 1 ∷ []) ≡ 0x00010064
unfolding address_of
second_group = refl

all_bytes : total_of (two (at 0 0) (at 1 0)) ≡ 200
unfolding total_of
all_bytes = refl

-- together: one group with the bytes and the counters of both
one_group : bytes_in (two (at 0 0) (at 0 0)) (0 ∷ 2 ∷ 0 ∷ []) ≡ 200
unfolding bytes_in
one_group = refl

counts_four : counter_in (two (at 0 0) (at 0 0)) (0 ∷ 2 ∷ 0 ∷ []) ≡ 4
counts_four = refl

-- the slot counts before the order of the file: the second unit is first
second_first : address_of (two (at 0 1) (at 0 0)) (1 ∷ 2 ∷ 0 ∷ []) ≡ 0x00010064
unfolding address_of
second_first = refl

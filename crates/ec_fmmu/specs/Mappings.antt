-- The FMMU records of the slaves of a plan.
use Rattle.std.specs.Prelude.{◌≡◌, ◌⊎◌, ◌↔◌, ℕ, ◌+◌, ◌<◌, ◌==◌, false, true, if◌then◌else◌, List, [], ◌∷◌, map, All}
use Rattle.ec_fmmu.specs.declared.seat.Seat.{Seat}
use Rattle.ec_fmmu.specs.declared.fmmu.Fmmu.{Fmmu}
use Rattle.ec_fmmu.specs.declared.mapping.Mapping.{Mapping}
use Rattle.ec_fmmu.specs.Layout.{outputs, inputs, process_byte, address_of, total_of, AreGroups}
use Rattle.ec_fmmu.specs.Records.{Triple, Direction, reads, writes, IsMapped}

-- a record without bytes
abbrev pub unused : Fmmu
unused = record { logical = 0; len = 0; physical = 0; kind = 0; active = false }

-- a record of this type for so many bytes
abbrev pub fmmu_for : ℕ → ℕ → ℕ → ℕ → Fmmu
fmmu_for kind logical len physical =
    if len == 0 then unused else record { logical = logical; len = len; physical = physical; kind = kind; active = true }

-- the records of a slave: the first for its outputs, which are written to its memory, the second for its inputs, which are read from it
abbrev pub records_of : List Seat → Seat → List Fmmu
records_of seats s =
    fmmu_for 2 (address_of seats (process_byte s outputs 0)) s.out_bytes s.out_at
    ∷ fmmu_for 1 (address_of seats (process_byte s inputs 0)) s.in_bytes s.in_at ∷ []

abbrev pub triple : ℕ → ℕ → Direction → Triple
triple logical memory direction = record { logical = logical; memory = memory; direction = direction }

-- what a slave wants: each output byte is written to its place in the area of outputs, each input byte is read from its place in that of inputs
abbrev pub IsWanted : List Seat → Seat → Triple → Type 0
IsWanted seats s t =
    ((k : ℕ) × (k < s.out_bytes) × (t ≡ triple (address_of seats (process_byte s outputs k)) (s.out_at + k) writes))
    ⊎ ((k : ℕ) × (k < s.in_bytes) × (t ≡ triple (address_of seats (process_byte s inputs k)) (s.in_at + k) reads))

-- a slave's records map just what it wants
abbrev pub MapsWanted : List Seat → Seat → Type 0
MapsWanted seats s = (t : Triple) → IsMapped (records_of seats s) t ↔ IsWanted seats s t

-- the layout of these slaves
pub record IsLayout (seats : List Seat) (m : Mapping) : Type 0 where
  pub groups : AreGroups seats m.groups
  pub total : m.total ≡ total_of seats
  pub fmmus : m.fmmus ≡ map (records_of seats) seats
  pub wanted : All (MapsWanted seats) seats

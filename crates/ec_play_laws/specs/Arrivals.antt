-- Outputs in the memories of slaves, and inputs in the image.
use Rattle.std.specs.Prelude.{◌≡◌, ℕ, ◌+◌, ◌-◌, ◌<◌, true, false, List, [], length, get_or}
use Rattle.ec_units.specs.declared.units.Units.{Units}
use Rattle.ec_fmmu.specs.declared.mapping.Mapping.{Mapping}
use Rattle.ec_slave.specs.Step.{frame_after, memory_after}
use Rattle.ec_player.specs.Sent.{start_sents, ticks_sents}
use Rattle.ec_player.specs.Images.{image_after}
use Rattle.ec_player.specs.Lines.{came_back, slaves_after}
use Rattle.ec_hyper.specs.Travel.{travels}
use Rattle.ec_fmmu.specs.declared.seat.Seat.{Seat}
use Rattle.ec_fmmu.specs.Layout.{outputs, inputs, process_byte, address_of}

-- of slaves at these seats, the memory of one holds its outputs: each is the byte of the image, whose first is at 0x00010000, at its
-- logical address
abbrev pub HoldsOutputs : List Seat → List ℕ → Seat → List ℕ → Type 0
HoldsOutputs seats image s m = (k : ℕ) → k < s.out_bytes → get_or m (s.out_at + k) 0 ≡ get_or image (address_of seats (process_byte s outputs k) - 65536) 0

-- so does each slave whose unit travels in tick t
abbrev pub OutputsArrived : List Seat → List ℕ → ℕ → List (List ℕ) → Type 0
OutputsArrived seats image t ms = (i : ℕ) (s : Seat) → i < length seats → travels (get_or seats i s).key.period (get_or seats i s).key.phase t ≡ true → HoldsOutputs seats image (get_or seats i s) (get_or ms i [])

-- the image that a play of n ticks through modelled slaves answers
abbrev pub inputs_after : Units → Mapping → List ℕ → ℕ → List (List ℕ) → List ℕ
inputs_after us m image n slaves =
    image_after m.fmmus image (came_back frame_after memory_after (slaves_after frame_after memory_after slaves (start_sents us m)) (ticks_sents us m image n))

-- each input of a slave whose unit travels in tick t is the byte of the slave's memory
abbrev pub InputsArrived : List Seat → List ℕ → ℕ → List (List ℕ) → Type 0
InputsArrived seats image t ms =
    (i : ℕ) (s : Seat) → i < length seats → travels (get_or seats i s).key.period (get_or seats i s).key.phase t ≡ true → (k : ℕ) → k < (get_or seats i s).in_bytes →
    get_or image (address_of seats (process_byte (get_or seats i s) inputs k) - 65536) 0 ≡ get_or (get_or ms i []) ((get_or seats i s).in_at + k) 0

-- each input of a slave whose unit travels in no tick below n is 0
abbrev pub InputsAreAbsent : List Seat → List ℕ → ℕ → Type 0
InputsAreAbsent seats image n =
    (i : ℕ) (s : Seat) → i < length seats → ((t : ℕ) → t < n → travels (get_or seats i s).key.period (get_or seats i s).key.phase t ≡ false) → (k : ℕ) → k < (get_or seats i s).in_bytes →
    get_or image (address_of seats (process_byte (get_or seats i s) inputs k) - 65536) 0 ≡ 0

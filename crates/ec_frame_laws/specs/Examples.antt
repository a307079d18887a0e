-- Worked examples, which the definitions compute by themselves: two frames of a tick, a record as a slave reads it, and a datagram that
-- comes back.
use Rattle.std.specs.Prelude.{◌≡◌, ℕ, true, false, List, [], ◌∷◌, replicate, refl}
use Rattle.ec_frames.specs.declared.command.Command.TheVariants as command
use Rattle.ec_frames.specs.Reading.{Entry}
use Rattle.ec_fmmu.specs.Records.{reads, writes, record_bytes}
use Rattle.ec_fmmu.specs.Mappings.{fmmu_for}
use Rattle.ec_slave.specs.Fmmus.{fmmu_at, has}
use Rattle.ec_frame_text.specs.Captures.{stamp}
use Rattle.ec_frame_laws.specs.Maps.{side_of}
use Rattle.ec_frame_laws.specs.Replies.{IsBackOf}
use Rattle.ec_frame_laws.specs.Stamps.{passed_at}

-- a frame of 60 bytes takes 84 on the wire, one of 100 bytes 124, and a byte 80 ns
abbrev two : List (List ℕ)
two = replicate 60 0 ∷ replicate 100 0 ∷ []

first_passed : passed_at 20000 two 0 ≡ 26720
first_passed = refl

second_begins : stamp 20000 two 1 ≡ 26720
second_begins = refl

second_passed : passed_at 20000 two 1 ≡ 36640
second_passed = refl

-- a record of 2 bytes of outputs, which are written to a memory from 4096 on
abbrev memory : List ℕ
memory = record_bytes (fmmu_for 2 0x00010000 2 4096)

begins_at : (fmmu_at memory 0).logical ≡ 0x00010000
begins_at = refl

has_bytes : (fmmu_at memory 0).len ≡ 2
has_bytes = refl

goes_to : (fmmu_at memory 0).physical ≡ 4096
goes_to = refl

written : has (fmmu_at memory 0) (side_of writes) ≡ true
written = refl

not_read : has (fmmu_at memory 0) (side_of reads) ≡ false
not_read = refl

-- of a logical read-write datagram other data and another counter come back
abbrev datagram : ℕ → List ℕ → Entry
datagram counter bytes = record { command = command.Lrw; index = 0; address = 0x00010000; circulating = false; event = 0; counter = counter; bytes = bytes }

came_back : IsBackOf (datagram 0 (1 ∷ 2 ∷ [])) (datagram 3 (1 ∷ 9 ∷ []))
came_back = record { command = refl; index = refl; address = λ h. refl; circulating = refl; event = refl; size = refl }

-- What a frame that passes leaves in the slave's memory and in the frame.
use Rattle.std.specs.Prelude.{ℕ, ◌+◌, ◌%◌, ◌==◌, Bool, true, false, if◌then◌else◌, List, [], ◌∷◌, length, sum_by, Option, Some, None, Result, Ok, Err}
use Rattle.byteorder.specs.Endian.{little_bytes}
use Rattle.ec_frames.specs.declared.command.AddressKind.{AddressKind}
use Rattle.ec_frames.specs.declared.command.AddressKind.TheVariants as kind
use Rattle.ec_frames.specs.declared.reading.FrameFault.{FrameFault}
use Rattle.ec_frames.specs.Reading.{Entry}
use Rattle.ec_frames.specs.Parsing.{frame_read}
use Rattle.ec_slave.specs.declared.request.Request.{Request}
use Rattle.ec_slave.specs.Requests.{request_of}
use Rattle.ec_slave.specs.Access.{Effect, put, low_half, offset_of, is_addressed, accessed, no_effect}
use Rattle.ec_slave.specs.Logical.{mapped}

-- what a datagram does where its address names a slave and an offset into its memory: nothing where the slave isn't addressed
abbrev pub effect_at : Request → List ℕ → ℕ → List ℕ → Effect
effect_at r memory address bytes =
    if is_addressed r.kind memory address then accessed r memory (offset_of address) bytes else no_effect memory

abbrev pub effect_by : AddressKind → Request → List ℕ → ℕ → List ℕ → Effect
effect_by kind.Logical r memory address bytes = mapped r memory address bytes
effect_by _ r memory address bytes = effect_at r memory address bytes

-- what a datagram does
unfoldable pub effect_of : Request → List ℕ → ℕ → List ℕ → Effect
effect_of r memory address bytes = effect_by r.kind r memory address bytes

-- each slave counts positions and broadcasts up, whether it is addressed or not
abbrev pub is_raised : AddressKind → Bool
is_raised kind.Position = true
is_raised kind.Broadcast = true
is_raised _ = false

-- the frame with the position, the low half of the address, 1 higher, modulo 65536. The datagram begins at `at`: its address
-- is 2 bytes further
abbrev pub raised : AddressKind → ℕ → ℕ → List ℕ → List ℕ
raised k at address frame = if is_raised k then put (at + 2) (little_bytes 2 ((low_half address + 1) % 65536)) frame else frame

-- the frame with the reply in place of the data, if there is one
abbrev pub replied : ℕ → Option (List ℕ) → List ℕ → List ℕ
replied at None frame = frame
replied at (Some bytes) frame = put at bytes frame

-- the frame with the counter as much higher, modulo 65536
abbrev pub counted : ℕ → ℕ → ℕ → List ℕ → List ℕ
counted at counter gain frame = if gain == 0 then frame else put at (little_bytes 2 ((counter + gain) % 65536)) frame

-- memory and frame after the datagram that begins at `at` did this
abbrev pub after_effect : ℕ → Entry → AddressKind → Effect → List ℕ → List ℕ × List ℕ
after_effect at d k e frame =
    (e.memory, counted (at + 10 + length d.bytes) d.counter e.gain (replied (at + 10) e.reply (raised k at d.address frame)))

-- memory and frame after a datagram, whose bytes begin at `at`: it has 10 bytes of header, its data and 2 bytes of counter
abbrev pub asked : ℕ → Entry → Option Request → List ℕ × List ℕ → List ℕ × List ℕ
asked at d None s = s
asked at d (Some r) s = after_effect at d r.kind (effect_of r s.0 d.address d.bytes) s.1

unfoldable pub datagram_step : ℕ → Entry → List ℕ × List ℕ → List ℕ × List ℕ
datagram_step at d s = asked at d (request_of d.command) s

-- the bytes that datagrams take
abbrev pub extent : List Entry → ℕ
extent ds = sum_by (λ d. length d.bytes + 12) ds

-- one datagram after the other, the first of which begins at `at`
abbrev pub datagrams_step : ℕ → List Entry → List ℕ × List ℕ → List ℕ × List ℕ
datagrams_step at [] s = s
datagrams_step at (d ∷ ds) s = datagrams_step (at + (length d.bytes + 12)) ds (datagram_step at d s)

-- a frame that isn't read passes unchanged
abbrev pub frame_step : Result (List Entry) FrameFault → List ℕ × List ℕ → List ℕ × List ℕ
frame_step (Err f) s = s
frame_step (Ok ds) s = datagrams_step 16 ds s

-- the slave's memory and the frame after the frame passed
unfoldable pub slave_step : List ℕ → List ℕ → List ℕ × List ℕ
slave_step memory frame = frame_step (frame_read frame) (memory, frame)

abbrev pub memory_after : List ℕ → List ℕ → List ℕ
memory_after memory frame = (slave_step memory frame).0

abbrev pub frame_after : List ℕ → List ℕ → List ℕ
frame_after memory frame = (slave_step memory frame).1

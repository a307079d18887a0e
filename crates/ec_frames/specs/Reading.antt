-- How bytes are read as a frame: relations between bytes and datagrams.
use Rattle.std.specs.Prelude.{◌≡◌, ◌≢◌, ◌≤◌, ◌<◌, ◌⊎◌, ℕ, ◌+◌, ◌/◌, ◌%◌, Bool, true, false, ◌==◌, List, [], ◌∷◌, length, take, drop, slice_index, Some, None}
use Rattle.byteorder.specs.Endian.{little_number}
use Rattle.ec_frames.specs.Table.{command_with}
use Rattle.ec_frames.specs.declared.command.Command.{Command}
use Rattle.ec_frames.specs.declared.reading.FrameFault.{FrameFault}
use Rattle.ec_frames.specs.declared.reading.FrameFault.TheVariants as fault

-- a datagram of a frame, whatever its place in memory
pub record Entry : Type 0 where
  pub command : Command
  pub index : ℕ
  pub address : ℕ
  pub circulating : Bool
  pub event : ℕ
  pub counter : ℕ
  pub bytes : List ℕ

-- the 16 bits at bytes 6 and 7 of a datagram
abbrev pub word_at : List ℕ → ℕ
word_at source = little_number 2 (drop 6 source)

-- bits 0 to 10 of it: the bytes of data. Bits 11 to 13 are reserved, and nothing reads them.
abbrev pub size_at : List ℕ → ℕ
size_at source = word_at source % 2048

-- bit 14 of it: the circulating bit
abbrev pub circulates : List ℕ → Bool
circulates source = word_at source / 16384 % 2 == 1

-- bit 15 of it: more datagrams follow
abbrev pub more_follow : List ℕ → Bool
more_follow source = word_at source / 32768 % 2 == 1

-- the source begins with this datagram: 10 bytes of header, the data and 2 bytes of counter; its more
-- bit says `more`, and `rest` follows it
pub record BeginsWith (source : List ℕ) (d : Entry) (more : Bool) (rest : List ℕ) : Type 0 where
  pub header : 10 ≤ length source
  pub command : command_with (slice_index source 0) ≡ Some d.command
  pub index : d.index ≡ slice_index source 1
  pub address : d.address ≡ little_number 4 (drop 2 source)
  pub circulating : d.circulating ≡ circulates source
  pub more_bit : more ≡ more_follow source
  pub event : d.event ≡ little_number 2 (drop 8 source)
  pub fits : size_at source + 12 ≤ length source
  pub bytes : d.bytes ≡ take (size_at source) (drop 10 source)
  pub counter : d.counter ≡ little_number 2 (drop (10 + size_at source) source)
  pub after : rest ≡ drop (size_at source + 12) source

-- the source is these datagrams, one or more, and nothing else: the more bit is set on each but the last
abbrev pub AreDatagrams : List ℕ → List Entry → Type 0
AreDatagrams source [] = ⊥
AreDatagrams source (d ∷ []) = BeginsWith source d false []
AreDatagrams source (d ∷ e ∷ ds) = (rest : List ℕ) × BeginsWith source d true rest × AreDatagrams rest (e ∷ ds)

-- bytes 12 and 13 of a frame are the EtherType 88 A4
abbrev pub IsEtherCat : List ℕ → Type 0
IsEtherCat frame = (slice_index frame 12 ≡ 0x88) × (slice_index frame 13 ≡ 0xA4)

-- the EtherCAT header, 16 bits at bytes 14 and 15: the length in bits 0 to 10, the type in bits 12 to
-- 15; bit 11 is reserved, and nothing reads it
abbrev pub header_at : List ℕ → ℕ
header_at frame = little_number 2 (drop 14 frame)

abbrev pub length_at : List ℕ → ℕ
length_at frame = header_at frame % 2048

abbrev pub type_at : List ℕ → ℕ
type_at frame = header_at frame / 4096

-- the bytes that the length counts; nothing reads what follows them
abbrev pub payload_of : List ℕ → List ℕ
payload_of frame = take (length_at frame) (drop 16 frame)

-- the headers of a frame are right, and it has the bytes that its length counts
pub record IsFramed (frame : List ℕ) : Type 0 where
  pub headers : 16 ≤ length frame
  pub ether_type : IsEtherCat frame
  pub frame_type : type_at frame ≡ 1
  pub fits : length_at frame + 16 ≤ length frame

-- the frame is read as these datagrams
pub record ReadsAs (frame : List ℕ) (ds : List Entry) : Type 0 where
  pub framed : IsFramed frame
  pub datagrams : AreDatagrams (payload_of frame) ds

-- the source begins with these whole datagrams, each with the more bit set, and then the rest, which isn't
-- empty where a datagram stands before it
abbrev pub Precede : List ℕ → List Entry → List ℕ → Type 0
Precede source [] rest = source ≡ rest
Precede source (d ∷ ds) rest = (next : List ℕ) × BeginsWith source d true next × (0 < length next) × Precede next ds rest

-- a datagram's 10 header bytes are there, and its command is known
pub record IsHeaded (source : List ℕ) : Type 0 where
  pub header : 10 ≤ length source
  pub command : Command
  pub known : command_with (slice_index source 0) ≡ Some command

-- what is wrong with the datagram at the front
abbrev pub IsFaultAtFront : FrameFault → List ℕ → Type 0
IsFaultAtFront fault.Short source = ⊥
IsFaultAtFront fault.NotEtherCat source = ⊥
IsFaultAtFront (fault.FrameType kind) source = ⊥
IsFaultAtFront fault.Length source = ⊥
IsFaultAtFront (fault.UnknownCommand code) source = (10 ≤ length source) × (code ≡ slice_index source 0) × (command_with (slice_index source 0) ≡ None)
IsFaultAtFront fault.DataPastEnd source = (length source < 10) ⊎ (IsHeaded source × (length source < size_at source + 12))
IsFaultAtFront fault.MoreAtEnd source = IsHeaded source × (length source ≡ size_at source + 12) × (more_follow source ≡ true)
IsFaultAtFront fault.RestAfterLast source = IsHeaded source × (size_at source + 12 < length source) × (more_follow source ≡ false)

-- this is wrong with a datagram, and the ones before it are right
abbrev pub IsFaultAmong : FrameFault → List ℕ → Type 0
IsFaultAmong f source = (ds : List Entry) × (rest : List ℕ) × Precede source ds rest × IsFaultAtFront f rest

-- the exact condition of each fault of a frame, the first in the order of the faults
abbrev pub HasFault : FrameFault → List ℕ → Type 0
HasFault fault.Short frame = length frame < 16
HasFault fault.NotEtherCat frame = (16 ≤ length frame) × ¬ IsEtherCat frame
HasFault (fault.FrameType kind) frame = (16 ≤ length frame) × IsEtherCat frame × (kind ≡ type_at frame) × (kind ≢ 1)
HasFault fault.Length frame = (16 ≤ length frame) × IsEtherCat frame × (type_at frame ≡ 1) × (length frame < length_at frame + 16)
HasFault (fault.UnknownCommand code) frame = IsFramed frame × IsFaultAmong (fault.UnknownCommand code) (payload_of frame)
HasFault fault.DataPastEnd frame = IsFramed frame × IsFaultAmong fault.DataPastEnd (payload_of frame)
HasFault fault.MoreAtEnd frame = IsFramed frame × IsFaultAmong fault.MoreAtEnd (payload_of frame)
HasFault fault.RestAfterLast frame = IsFramed frame × IsFaultAmong fault.RestAfterLast (payload_of frame)

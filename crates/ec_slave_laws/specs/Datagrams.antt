-- Frames as lists of datagrams: the frame of some datagrams, and what a slave makes of each.
use Rattle.std.specs.Prelude.{◌≡◌, ◌≢◌, ◌≤◌, ◌<◌, ℕ, ◌+◌, ◌-◌, ◌*◌, ◌%◌, ◌^◌, ◌==◌, Bool, true, false, if◌then◌else◌, List, [], ◌∷◌, ◌++◌, length, replicate, unwrap_or, Option, Some, None, All}
use Rattle.byteorder.specs.Endian.{little_bytes}
use Rattle.ec_frames.specs.declared.command.AddressKind.{AddressKind}
use Rattle.ec_frames.specs.Reading.{Entry}
use Rattle.ec_frames.specs.Written.{code_in, length_word, ethernet_header}
use Rattle.ec_slave.specs.declared.request.Request.{Request}
use Rattle.ec_slave.specs.Requests.{request_of}
use Rattle.ec_slave.specs.Access.{Effect, low_half, offset_of}
use Rattle.ec_slave.specs.Step.{effect_of, is_raised, extent}

-- a datagram's header: its code, index, address, length word and event bits
abbrev pub head_of : Entry → Bool → List ℕ
head_of d more = (code_in d.command ∷ d.index ∷ []) ++ little_bytes 4 d.address ++ little_bytes 2 (length_word (length d.bytes) more) ++ (0 ∷ 0 ∷ [])

-- the datagram: header, data and working counter
unfoldable pub entry_bytes : Entry → Bool → List ℕ
entry_bytes d more = head_of d more ++ (d.bytes ++ little_bytes 2 d.counter)

abbrev pub some_follow : List Entry → Bool
some_follow [] = false
some_follow (d ∷ ds) = true

-- datagrams one after the other, each but the last with the more bit
abbrev pub entries_bytes : List Entry → List ℕ
entries_bytes [] = []
entries_bytes (d ∷ ds) = entry_bytes d (some_follow ds) ++ entries_bytes ds

-- Ethernet and EtherCAT header, of so many bytes of datagrams
abbrev pub headers : ℕ → List ℕ
headers n = ethernet_header ++ little_bytes 2 (n + 4096)

-- the frame of datagrams, with zeros until there are 60 bytes
unfoldable pub framed : List Entry → List ℕ
framed ds = headers (extent ds) ++ (entries_bytes ds ++ replicate (44 - extent ds) 0)

-- a datagram that a frame can hold, but for the size of its index and its bytes, with no circulating and no event bit
pub record IsWhole (d : Entry) : Type 0 where
  pub address : d.address < 2 ^ 32
  pub still : d.circulating ≡ false
  pub quiet : d.event ≡ 0
  pub counter : d.counter < 65536
  pub short : length d.bytes ≤ 1486

-- datagrams that a frame can hold, but for the size of their indices and bytes
pub record AreWhole (ds : List Entry) : Type 0 where
  pub some_datagram : ds ≢ []
  pub each : All IsWhole ds
  pub room : extent ds ≤ 1498

-- the address with the position, its low half, 1 higher, modulo 65536, where slaves count it up
abbrev pub raised_address : AddressKind → ℕ → ℕ
raised_address k a = if is_raised k then (low_half a + 1) % 65536 + 65536 * offset_of a else a

-- the counter as much higher, modulo 65536
abbrev pub gained : ℕ → ℕ → ℕ
gained counter gain = if gain == 0 then counter else (counter + gain) % 65536

-- a datagram to which this was done
abbrev pub entry_done : Entry → AddressKind → Effect → Entry
entry_done d k e = record {
  command = d.command;
  index = d.index;
  address = raised_address k d.address;
  circulating = d.circulating;
  event = d.event;
  counter = gained d.counter e.gain;
  bytes = unwrap_or e.reply d.bytes;
}

-- what a slave with this memory hands on of a datagram, and its memory afterwards
abbrev pub out_by : List ℕ → Entry → Option Request → Entry
out_by memory d None = d
out_by memory d (Some r) = entry_done d r.kind (effect_of r memory d.address d.bytes)

abbrev pub next_by : List ℕ → Entry → Option Request → List ℕ
next_by memory d None = memory
next_by memory d (Some r) = (effect_of r memory d.address d.bytes).memory

unfoldable pub entry_out : List ℕ → Entry → Entry
entry_out memory d = out_by memory d (request_of d.command)

unfoldable pub entry_next : List ℕ → Entry → List ℕ
entry_next memory d = next_by memory d (request_of d.command)

-- A frame as it is written, each byte of it.
use Rattle.std.specs.Prelude.{◌≡◌, ◌≢◌, ◌≤◌, ◌<◌, ℕ, suc, ◌+◌, ◌-◌, ◌==◌, Bool, true, false, if◌then◌else◌, List, [], ◌∷◌, ◌++◌, length, take, drop, replicate, sum_by, unwrap_or, nat_lt, Option, Some, None, All, Any}
use Rattle.byteorder.specs.Endian.{little_bytes}
use Rattle.std.specs.List.{list_any}
use Rattle.ec_frames.specs.Table.{column_of}
use Rattle.ec_frames.specs.declared.command.Command.{Command}
use Rattle.ec_frames.specs.declared.writing.Datagram.{Datagram}
use Rattle.ec_frames.specs.declared.writing.BuildFault.{BuildFault}
use Rattle.ec_frames.specs.declared.writing.BuildFault.TheVariants as fault

-- the code that the table gives a command
abbrev pub code_in : Command → ℕ
code_in c = unwrap_or (column_of (λ r. r.code) c) 0

-- bits 0 to 10: the bytes of data; bit 15: more datagrams follow
abbrev pub length_word : ℕ → Bool → ℕ
length_word len more = if more then len + 32768 else len

-- a datagram: its code, index, address, length word, event bits, data and working counter
unfoldable pub datagram_bytes : Datagram → ℕ → Bool → List ℕ → List ℕ
datagram_bytes d index more bytes =
    (code_in d.command ∷ index ∷ []) ++ little_bytes 4 d.address ++ little_bytes 2 (length_word d.len more) ++ (0 ∷ 0 ∷ []) ++ bytes ++ (0 ∷ 0 ∷ [])

abbrev pub more_than_none : List Datagram → Bool
more_than_none [] = false
more_than_none (d ∷ ds) = true

-- datagrams from an index on, their data cut from the bytes one after the other
abbrev pub datagrams_bytes : ℕ → List Datagram → List ℕ → List ℕ
datagrams_bytes index [] bytes = []
datagrams_bytes index (d ∷ ds) bytes =
    datagram_bytes d index (more_than_none ds) (take d.len bytes) ++ datagrams_bytes (suc index) ds (drop d.len bytes)

-- the bytes of all datagrams: 10 of header, the data and 2 of counter each
abbrev pub total_of : List Datagram → ℕ
total_of ds = sum_by (λ d. d.len + 12) ds

-- destination, source and EtherType
abbrev pub ethernet_header : List ℕ
ethernet_header = 255 ∷ 255 ∷ 255 ∷ 255 ∷ 255 ∷ 255 ∷ 2 ∷ 0 ∷ 0 ∷ 0 ∷ 0 ∷ 1 ∷ 136 ∷ 164 ∷ []

-- zeros until there are 60 bytes
abbrev pub padded : List ℕ → List ℕ
padded bytes = bytes ++ replicate (60 - length bytes) 0

-- the frame; its EtherCAT header is type 1 and the length of the datagrams alone
unfoldable pub written : List Datagram → List ℕ → List ℕ
written ds bytes = padded (ethernet_header ++ little_bytes 2 (total_of ds + 4096) ++ datagrams_bytes 0 ds bytes)

-- the exact condition of each fault, the first in the order of the faults
abbrev pub HasBuildFault : BuildFault → List Datagram → Type 0
HasBuildFault fault.NoDatagram ds = ds ≡ []
HasBuildFault fault.DataLength ds = Any (λ d. 1486 < d.len) ds
HasBuildFault fault.FrameFull ds = All (λ d. d.len ≤ 1486) ds × (1498 < total_of ds)

-- datagrams that make a frame
pub record AreBuildable (ds : List Datagram) : Type 0 where
  pub some_datagram : ds ≢ []
  pub short : All (λ d. d.len ≤ 1486) ds
  pub room : total_of ds ≤ 1498

-- the same as a function: what is wrong, if anything
unfoldable pub build_fault : List Datagram → Option BuildFault
build_fault ds =
    if length ds == 0 then Some fault.NoDatagram
    else if list_any (λ d. nat_lt 1486 d.len) ds then Some fault.DataLength
    else if nat_lt 1498 (total_of ds) then Some fault.FrameFull
    else None

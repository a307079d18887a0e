-- Reading as functions, which the code's own steps are compared with. `Reading` says what they mean.
use Rattle.std.specs.Prelude.{ℕ, zero, suc, ◌+◌, Bool, not, ◌&&◌, ◌==◌, nat_lt, if◌then◌else◌, List, [], ◌∷◌, length, take, drop, slice_index, Option, Some, None, Result, Ok, Err}
use Rattle.byteorder.specs.Endian.{little_number}
use Rattle.ec_frames.specs.Table.{command_with}
use Rattle.ec_frames.specs.Reading.{Entry, size_at, circulates, more_follow, length_at, type_at, payload_of}
use Rattle.ec_frames.specs.declared.command.Command.{Command}
use Rattle.ec_frames.specs.declared.reading.FrameFault.{FrameFault}
use Rattle.ec_frames.specs.declared.reading.FrameFault.TheVariants as fault

abbrev pub ok_map : {A B E : Type 0} → (A → B) → Result A E → Result B E
ok_map f (Ok x) = Ok (f x)
ok_map f (Err e) = Err e

-- the datagram at the front, its command apart
abbrev pub entry_at : Command → List ℕ → Entry
entry_at c source = record {
  command = c;
  index = slice_index source 1;
  address = little_number 4 (drop 2 source);
  circulating = circulates source;
  event = little_number 2 (drop 8 source);
  counter = little_number 2 (drop (10 + size_at source) source);
  bytes = take (size_at source) (drop 10 source);
}

-- the datagram and what follows it, which the more bit has to say
abbrev pub ended : Bool → Entry → List ℕ → Result (Entry × List ℕ) FrameFault
ended more e rest =
    if more && (length rest == 0) then Err fault.MoreAtEnd
    else if not more && not (length rest == 0) then Err fault.RestAfterLast
    else Ok (e, rest)

abbrev pub known_at : Option Command → List ℕ → Result (Entry × List ℕ) FrameFault
known_at None source = Err (fault.UnknownCommand (slice_index source 0))
known_at (Some c) source =
    if nat_lt (length source) (size_at source + 12) then Err fault.DataPastEnd
    else ended (more_follow source) (entry_at c source) (drop (size_at source + 12) source)

-- the datagram at the front and what follows it, or the first fault
unfoldable pub datagram_at : List ℕ → Result (Entry × List ℕ) FrameFault
datagram_at source = if nat_lt (length source) 10 then Err fault.DataPastEnd else known_at (command_with (slice_index source 0)) source

abbrev pub and_then : {A B E : Type 0} → Result A E → (A → Result B E) → Result B E
and_then (Ok x) f = f x
and_then (Err e) f = Err e

abbrev pub joined : Entry × List ℕ → Result (List Entry) FrameFault → Result (List Entry) FrameFault
joined d others = if length d.1 == 0 then Ok (d.0 ∷ []) else ok_map (λ ds. d.0 ∷ ds) others

-- one datagram after the other, at least one and at most so many
abbrev pub datagrams_from : ℕ → List ℕ → Result (List Entry) FrameFault
datagrams_from zero source = Err fault.DataPastEnd
datagrams_from (suc n) source = and_then (datagram_at source) (λ d. joined d (datagrams_from n d.1))

-- the datagrams that all of the bytes are, or the first fault
unfoldable pub payload_read : List ℕ → Result (List Entry) FrameFault
payload_read source = datagrams_from (suc (length source)) source

-- whether it is read, and the fault where it is not
abbrev pub void : {A E : Type 0} → Result A E → Result (Unit {0}) E
void r = ok_map (λ _. tt) r

-- the datagrams up to the end or the first fault
abbrev pub front_of : Result (Entry × List ℕ) FrameFault → (List ℕ → List Entry) → List Entry
front_of (Err e) more = []
front_of (Ok d) more = d.0 ∷ more d.1

abbrev pub entries_from : ℕ → List ℕ → List Entry
entries_from zero source = []
entries_from (suc n) source = front_of (datagram_at source) (λ rest. entries_from n rest)

unfoldable pub entries : List ℕ → List Entry
entries source = entries_from (length source) source

abbrev pub is_ether_cat : List ℕ → Bool
is_ether_cat frame = (slice_index frame 12 == 0x88) && (slice_index frame 13 == 0xA4)

-- the bytes that the length counts, where they are there
abbrev pub counted_in : List ℕ → Result (List ℕ) FrameFault
counted_in frame = if nat_lt (length frame) (length_at frame + 16) then Err fault.Length else Ok (payload_of frame)

-- the bytes that the length counts, or the first fault of the headers
unfoldable pub payload_in : List ℕ → Result (List ℕ) FrameFault
payload_in frame =
    if nat_lt (length frame) 16 then Err fault.Short
    else if not (is_ether_cat frame) then Err fault.NotEtherCat
    else if not (type_at frame == 1) then Err (fault.FrameType (type_at frame))
    else counted_in frame

-- the datagrams of a frame, or its first fault
abbrev pub frame_read : List ℕ → Result (List Entry) FrameFault
frame_read frame = and_then (payload_in frame) payload_read

-- What a written frame is read as.
use Rattle.std.specs.Prelude.{◌≡◌, ℕ, suc, false, List, [], ◌∷◌, take, drop}
use Rattle.ec_frames.specs.Reading.{Entry, ReadsAs}
use Rattle.ec_frames.specs.Written.{written}
use Rattle.ec_frames.specs.declared.writing.Datagram.{Datagram}

-- the datagrams with indexes from this one on, their data cut from the bytes one after the other, every
-- other field 0
abbrev pub read_back : ℕ → List Datagram → List ℕ → List Entry
read_back index [] bytes = []
read_back index (d ∷ ds) bytes =
    record {
      command = d.command;
      index = index;
      address = d.address;
      circulating = false;
      event = 0;
      counter = 0;
      bytes = take d.len bytes;
    } ∷ read_back (suc index) ds (drop d.len bytes)

-- what is written of these datagrams and bytes is read as the same datagrams, and as no others
abbrev pub IsReadBack : List Datagram → List ℕ → Type 0
IsReadBack ds bytes =
    ReadsAs (written ds bytes) (read_back 0 ds bytes) × ((es : List Entry) → ReadsAs (written ds bytes) es → es ≡ read_back 0 ds bytes)

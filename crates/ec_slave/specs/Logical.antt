-- Logical commands: each byte afterwards is said through the mapped bytes that the datagram meets. FMMU 1 counts before FMMU 0.
use Rattle.std.specs.Prelude.{ℕ, ◌+◌, ◌-◌, ◌&&◌, nat_lt, nat_le, Bool, if◌then◌else◌, List, length, map, get_or, Option, Some, None, is_some}
use Rattle.std.specs.List.{range_with_len, list_any}
use Rattle.ec_slave.specs.declared.fmmu.Fmmu.{Fmmu}
use Rattle.ec_slave.specs.declared.fmmu.Fmmus.{Fmmus}
use Rattle.ec_slave.specs.declared.fmmu.Direction.{Direction}
use Rattle.ec_slave.specs.declared.fmmu.Direction.TheVariants as direction
use Rattle.ec_slave.specs.declared.request.Request.{Request}
use Rattle.ec_slave.specs.Access.{Effect}
use Rattle.ec_slave.specs.Fmmus.{fmmus_in, place_of, source_of}

-- the first of two, if it is there, else the second
abbrev pub first_of : {X : Type 0} → Option X → Option X → Option X
first_of (Some x) y = Some x
first_of None y = y

-- the byte of a list at a place, if there is a place, else another byte
abbrev pub byte_at : Option ℕ → List ℕ → ℕ → ℕ
byte_at (Some k) list b = get_or list k 0
byte_at None list b = b

-- the byte of the memory that a logical byte meets, if it meets one
abbrev pub met : Fmmus → ℕ → Direction → ℕ → Option ℕ
met fs size d a = first_of (place_of fs.second size d a) (place_of fs.first size d a)

-- a read: each data byte is the byte of the memory that it meets, or as it came
unfoldable pub read_from : Fmmus → List ℕ → ℕ → List ℕ → List ℕ
read_from fs memory address bytes =
    map (λ k. byte_at (met fs (length memory) direction.Reads (address + k)) memory (get_or bytes k 0)) (range_with_len 0 (length bytes))

-- which of n data bytes from an address on a logical byte is, if it is one
abbrev pub data_place : ℕ → ℕ → Option ℕ → Option ℕ
data_place address n None = None
data_place address n (Some a) = if nat_le address a && nat_lt a (address + n) then Some (a - address) else None

-- the data byte that goes to a byte of the memory through a record, if one does
abbrev pub sent_to : Fmmu → ℕ → ℕ → ℕ → ℕ → Option ℕ
sent_to f size address n m = data_place address n (source_of f size direction.Writes m)

-- a write: each byte of the memory is the data byte that goes to it, or as it was
unfoldable pub written_to : Fmmus → List ℕ → ℕ → List ℕ → List ℕ
written_to fs memory address bytes =
    map (λ m. byte_at (first_of (sent_to fs.second (length memory) address (length bytes) m) (sent_to fs.first (length memory) address (length bytes) m)) bytes (get_or memory m 0))
    (range_with_len 0 (length memory))

-- at least one of n bytes from an address on meets the map
unfoldable pub meets : Fmmus → ℕ → Direction → ℕ → ℕ → Bool
meets fs size d address n = list_any (λ k. is_some (met fs size d (address + k))) (range_with_len 0 n)

-- 1 for a read that meets the map; for a write that does 1, or 2 where the command reads as well
abbrev pub mapped_gain : Request → Bool → Bool → ℕ
mapped_gain r met_read met_write =
    (if r.reads && met_read then 1 else 0) + (if r.writes && met_write then (if r.reads then 2 else 1) else 0)

-- what a logical command does with the bytes that came. A read takes the memory as it was
abbrev pub mapped_by : Fmmus → Request → List ℕ → ℕ → List ℕ → Effect
mapped_by fs r memory address bytes = record {
  memory = if r.writes then written_to fs memory address bytes else memory;
  reply = if r.reads then Some (read_from fs memory address bytes) else None;
  gain = mapped_gain r (meets fs (length memory) direction.Reads address (length bytes)) (meets fs (length memory) direction.Writes address (length bytes));
}

-- by the FMMUs that the memory holds as the datagram comes
abbrev pub mapped : Request → List ℕ → ℕ → List ℕ → Effect
mapped r memory address bytes = mapped_by (fmmus_in memory) r memory address bytes

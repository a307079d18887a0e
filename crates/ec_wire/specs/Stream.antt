-- What an `Io` is seen as, and what a writer that may fail has written.
use Rattle.std.specs.Prelude.{ℕ, ◌≤◌, Bool, List, length, take, Option}
use Rattle.std.specs.Io.KnownBytes.{Appends}
use Rattle.ec_wire.specs.declared.io.Io.{Io}

-- the reader or writer inside
abbrev pub stream : {T : Type 0} → Io T → T
stream io = io.inner

-- whether a call has failed so far
abbrev pub has_failed : {T : Type 0} → Io T → Bool
has_failed io = io.failed

-- how many bytes were read so far
abbrev pub taken : {T : Type 0} → Io T → ℕ
taken io = io.taken

-- some front of the bytes is written, where what the writer holds is known
abbrev pub WritesFront : Option (List ℕ) → Option (List ℕ) → List ℕ → Type 0
WritesFront old new bytes = (n : ℕ) × (n ≤ length bytes) × Appends old new (take n bytes)

-- The bytes of a datagram that one record maps stand side by side, in the datagram and in the memory.
use Rattle.std.specs.Prelude.{ℕ, ◌+◌, ◌<◌, ◌≤◌, Bool, is_some}
use Rattle.std.specs.List.{range_with_len, list_any}
use Rattle.ec_slave.specs.declared.fmmu.Fmmu.{Fmmu}
use Rattle.ec_slave.specs.declared.fmmu.Direction.{Direction}
use Rattle.ec_slave.specs.declared.stretch.Stretch.{Stretch}
use Rattle.ec_slave.specs.Fmmus.{IsMapped, place_of}

-- of n bytes from an address on, these are all that a record maps in a direction
pub record IsStretch (f : Fmmu) (size : ℕ) (d : Direction) (address n : ℕ) (s : Stretch) : Type 0 where
  pub bound : s.from + s.len ≤ n
  pub room : s.place + s.len ≤ size
  pub mapped : (j : ℕ) → j < s.len → IsMapped f size d (address + (s.from + j)) (s.place + j)
  pub whole : (k m : ℕ) → k < n → IsMapped f size d (address + k) m → (s.from ≤ k) × (k < s.from + s.len)

-- at least one of n bytes from an address on is mapped by a record
abbrev pub maps : Fmmu → ℕ → Direction → ℕ → ℕ → Bool
maps f size d address n = list_any (λ k. is_some (place_of f size d (address + k))) (range_with_len 0 n)

-- What a terminal shows as it stands: a line feed, or printable ASCII.
use Rattle.std.specs.Prelude.{◌≡◌, ◌≤◌, ℕ, ◌⊎◌}

-- a line feed, or one of the 95 bytes from the space to the tilde
abbrev pub IsPlain : ℕ → Type 0
IsPlain byte = (byte ≡ 10) ⊎ ((32 ≤ byte) × (byte ≤ 126))

-- What slaves that misbehave make of a frame.
use Rattle.std.specs.Prelude.{ℕ, ◌+◌, ◌%◌, nat_lt, if◌then◌else◌, List, [], ◌∷◌, ◌++◌, length, take, get_or, slice_set}
use Rattle.test_plays.specs.declared.harm.Harm.{Harm}
use Rattle.test_plays.specs.declared.harm.Harm.TheVariants as harm

-- this byte of a frame, where it has one
abbrev pub with_byte : List ℕ → ℕ → ℕ → List ℕ
with_byte frame at byte = if nat_lt at (length frame) then slice_set frame at byte else frame

-- the frame with this number
abbrev pub harmed : Harm → ℕ → List ℕ → List ℕ
harmed (harm.Cut len) n frame = take len frame
harmed (harm.Put at byte from) n frame = if nat_lt n from then frame else with_byte frame at byte
harmed (harm.Count at) n frame = with_byte frame at ((get_or frame at 0 + 1) % 256)
harmed harm.Longer n frame = if nat_lt (length frame) 1514 then frame ++ 0 ∷ [] else frame

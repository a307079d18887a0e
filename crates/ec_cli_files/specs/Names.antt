-- Names of units, by which lines are told apart.
use Rattle.std.specs.Prelude.{ℕ, ◌*◌, ◌<◌, ◌==◌, Bool, List, [], ◌∷◌, length, take, drop, min, count_by, flat_map, bytes_eq, nat_eq, if◌then◌else◌, codes}
use Rattle.std.specs.List.{list_any, starts_with, slice_split, position_or_len}

-- how many of the first names are among the others
abbrev pub shared : List (List ℕ) → List (List ℕ) → ℕ
shared these those = count_by (λ name. list_any (λ other. bytes_eq other name) those) these

-- of the first names fewer are among the others than half of the shorter list has; an empty list is of each line
abbrev pub AreOfOtherLines : List (List ℕ) → List (List ℕ) → Type 0
AreOfOtherLines these those = shared these those * 2 < min (length these) (length those)

-- what stands before the first blank
abbrev pub word_of : List ℕ → List ℕ
word_of bytes = take (position_or_len (λ b. b == 32) bytes) bytes

-- the name of the unit that a line of a certificate is of, if it is of one; of a line that is cut off what is there of it
abbrev pub name_in : List ℕ → List (List ℕ)
name_in line = if starts_with nat_eq line (codes "unit ") then word_of (drop 5 line) ∷ [] else []

-- the names of the units of a certificate that begins with these bytes; none where it doesn't begin as one
abbrev pub names_in : List ℕ → List (List ℕ)
names_in front = if starts_with nat_eq front (codes "ecplan ") then flat_map name_in (slice_split (λ b. b == 10) front) else []

-- What a terminal shows as it stands: text without control characters, but for line feeds.
use Rattle.std.specs.Prelude.{◌≡◌, ◌==◌, ◌||◌, ℕ, Bool, true, not, List, All, chars}
use Rattle.std.specs.Char.{is_control}

-- a line feed, or no control character
abbrev pub is_told : ℕ → Bool
is_told letter = letter == 10 || not (is_control letter)

-- each character of these bytes is told
abbrev pub IsShown : List ℕ → Type 0
IsShown bytes = All (λ letter. is_told letter ≡ true) (chars bytes)

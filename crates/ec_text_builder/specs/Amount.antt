-- A number with its noun.
use Rattle.std.specs.Prelude.{ℕ, List, [], ◌++◌, ◌==◌, cond, codes}
use Rattle.std.specs.Fmt.{decimal}

-- the number, a blank, and the noun; behind that an `s`, but for one
abbrev pub amount_text : ℕ → List ℕ → List ℕ
amount_text count noun = decimal count ++ (codes " " ++ (noun ++ cond (count == 1) [] (codes "s")))

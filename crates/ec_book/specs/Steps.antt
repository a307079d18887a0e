-- The machine of pieces: what may happen, and what is then.
use Rattle.std.specs.Prelude.{◌≡◌, ℕ, ◌+◌, ◌<◌, ◌≤◌, List, [], ◌∷◌, ◌++◌, length, set, slice_get, replicate, Option, Some, None}
use Rattle.ec_loads.specs.Shape.{Shape}
use Rattle.ec_loads.specs.Search.{open_count}
use Rattle.ec_book.specs.declared.step.Step.{Step}
use Rattle.ec_book.specs.declared.step.Step.TheVariants.{Took, Reported, Better, Back}
use Rattle.ec_book.specs.declared.piece.Piece.{Piece}
use Rattle.ec_book.specs.declared.piece.Piece.TheVariants.{Free, Taken, Ended}

-- each piece by its number, the value, and the nodes that were split or closed
pub record PiecesState : Type 0 where
  pub pieces : List Piece
  pub value : Option ℕ
  pub spent : ℕ

-- a free piece for each open leaf of the tree that is given, and its value; nothing spent. From an open leaf without a value that is one piece
abbrev pub start : Shape → Option ℕ → PiecesState
start given value = record { pieces = replicate (open_count given) Free; value = value; spent = 0 }

abbrev pub grant_of : Piece → ℕ
grant_of Free = 0
grant_of (Taken w g) = g
grant_of Ended = 0

-- the nodes that workers were granted and didn't report yet
abbrev pub granted : List Piece → ℕ
granted [] = 0
granted (p ∷ ps) = grant_of p + granted ps

-- a value is below another; each is below none
abbrev pub IsBelow : ℕ → Option ℕ → Type 0
IsBelow v None = Unit {0}
IsBelow v (Some w) = v < w

-- from s the step may happen, where n nodes may be spent in all, and leads to t
abbrev pub PiecesStep : ℕ → PiecesState → Step → PiecesState → Type 0
PiecesStep n s (Took w p g) t =
    (slice_get s.pieces p ≡ Some Free) × (1 ≤ g) × (s.spent + granted s.pieces + g ≤ n)
    × (t ≡ record { pieces = set s.pieces p (Taken w g); value = s.value; spent = s.spent })
PiecesStep n s (Reported w p k first count) t =
    (g : ℕ) × (slice_get s.pieces p ≡ Some (Taken w g)) × (1 ≤ k) × (k ≤ g) × (first ≡ length s.pieces)
    × (t ≡ record { pieces = set s.pieces p Ended ++ replicate count Free; value = s.value; spent = s.spent + k })
PiecesStep n s (Better w v) t =
    IsBelow v s.value × (t ≡ record { pieces = s.pieces; value = Some v; spent = s.spent })
PiecesStep n s (Back w p) t =
    (g : ℕ) × (slice_get s.pieces p ≡ Some (Taken w g))
    × (t ≡ record { pieces = set s.pieces p Free; value = s.value; spent = s.spent })

-- the steps may happen one after another, from s to t
abbrev pub IsHistory : ℕ → PiecesState → List Step → PiecesState → Type 0
IsHistory n s [] t = t ≡ s
IsHistory n s (e ∷ es) t = (m : PiecesState) × PiecesStep n s e m × IsHistory n m es t

-- the state after a step, where it may happen
abbrev pub after : PiecesState → Step → PiecesState
after s (Took w p g) = record { pieces = set s.pieces p (Taken w g); value = s.value; spent = s.spent }
after s (Reported w p k first count) = record { pieces = set s.pieces p Ended ++ replicate count Free; value = s.value; spent = s.spent + k }
after s (Better w v) = record { pieces = s.pieces; value = Some v; spent = s.spent }
after s (Back w p) = record { pieces = set s.pieces p Free; value = s.value; spent = s.spent }

-- the last state
abbrev pub replay : PiecesState → List Step → PiecesState
replay s [] = s
replay s (e ∷ es) = replay (after s e) es

abbrev pub live_one : Option Piece → ℕ
live_one None = 0
live_one (Some Free) = 1
live_one (Some (Taken w g)) = 1
live_one (Some Ended) = 0

-- 1 where the piece of this number is free or taken, else 0
abbrev pub live : List Piece → ℕ → ℕ
live ps m = live_one (slice_get ps m)

-- how many pieces are free or taken
abbrev pub live_count : List Piece → ℕ
live_count [] = 0
live_count (p ∷ ps) = live_one (Some p) + live_count ps

abbrev pub taken_one : Piece → ℕ
taken_one Free = 0
taken_one (Taken w g) = 1
taken_one Ended = 0

-- how many pieces are taken
abbrev pub taken_count : List Piece → ℕ
taken_count [] = 0
taken_count (p ∷ ps) = taken_one p + taken_count ps

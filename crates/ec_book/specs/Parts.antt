-- Which pieces are of the part that a search goes on with.
use Rattle.std.specs.Prelude.{◌≡◌, ℕ, ◌<◌, ◌||◌, nat_le, Bool, true, false, List, Some, slice_get, All}
use Rattle.ec_loads.specs.Search.{open_count}
use Rattle.ec_loads.specs.Shape.{Shape, open_leaf}
use Rattle.ec_cert.specs.Parts.{has_leaf}
use Rattle.ec_cert.specs.declared.part.Part.{Part}
use Rattle.ec_book.specs.declared.piece.Piece.{Piece}
use Rattle.ec_book.specs.declared.piece.Piece.TheVariants.{Taken}
use Rattle.ec_book.specs.declared.report.Report.{Report}
use Rattle.ec_book.specs.Numbered.{numbered, draw}
use Rattle.ec_book.specs.Steps.{live}

-- where so many pieces were there at first, this one is of the part: it is none of these, so it came of a piece of the part; or the part has the open leaf that it was
unfoldable pub is_of_part : Part → ℕ → ℕ → Bool
is_of_part part given piece = nat_le given piece || has_leaf part piece

-- the report is of one of these pieces
abbrev pub IsReportOf : (ℕ → Bool) → Report → Type 0
IsReportOf ours r = ours r.piece ≡ true

-- only pieces of the part were taken or reported
pub record IsParted (ours : ℕ → Bool) (pieces : List Piece) (reports : List Report) : Type 0 where
  pub taken : (m w g : ℕ) → slice_get pieces m ≡ Some (Taken w g) → ours m ≡ true
  pub reported : All (IsReportOf ours) reports

-- the tree is the given one with some tree in place of each of its open leaves, and an open leaf again in place of each that isn't of the part
abbrev pub LeavesOthers : Part → Shape → Shape → Type 0
LeavesOthers part given shape =
    (f : ℕ → Shape) × (shape ≡ draw f (numbered 0 given)) × ((m : ℕ) → m < open_count given → has_leaf part m ≡ false → f m ≡ open_leaf)

-- none of these pieces is free or taken
abbrev pub NoneIsLeft : (ℕ → Bool) → List Piece → Type 0
NoneIsLeft ours pieces = (m : ℕ) → ours m ≡ true → live pieces m ≡ 0

-- the tree is the given one with some tree in place of each of its open leaves, and in place of each that is of the part one without an open leaf
abbrev pub ClosesPart : Part → Shape → Shape → Type 0
ClosesPart part given shape =
    (f : ℕ → Shape) × (shape ≡ draw f (numbered 0 given)) × ((m : ℕ) → m < open_count given → has_leaf part m ≡ true → open_count (f m) ≡ 0)

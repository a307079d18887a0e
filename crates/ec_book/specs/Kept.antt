-- What is true of each book.
use Rattle.std.specs.Prelude.{◌≡◌, ◌≢◌, ℕ, Bool, true, ◌+◌, ◌<◌, ◌≤◌, List, [], Option, Some, length, slice_get, All}
use Rattle.ec_units.specs.declared.slave.Place.{Place}
use Rattle.ec_loads.specs.Held.{Held, no_places}
use Rattle.ec_loads.specs.Line.{Rules, Line, line_by}
use Rattle.ec_loads.specs.Search.{node_count, open_count}
use Rattle.ec_loads.specs.Shape.{Shape}
use Rattle.ec_cert.specs.declared.cert.Best.{Best}
use Rattle.ec_cert.specs.declared.tree.Tree.{Tree}
use Rattle.ec_cert.specs.declared.part.Part.{Part}
use Rattle.ec_cert.specs.IsBestPlan.{value_of, IsBestPlan}
use Rattle.ec_cert.specs.Parts.{IsPart}
use Rattle.ec_symmetry.specs.Orders.{IsOrder, IsReachedPrefix}
use Rattle.ec_book.specs.declared.step.Step.{Step}
use Rattle.ec_book.specs.declared.piece.Piece.{Piece}
use Rattle.ec_book.specs.declared.piece.Piece.TheVariants.{Free}
use Rattle.ec_book.specs.declared.report.Report.{Report}
use Rattle.ec_book.specs.Steps.{PiecesState, start, granted, taken_count, IsHistory}
use Rattle.ec_book.specs.Numbered.{numbered, NumberedTree}
use Rattle.ec_book.specs.Open.{StandsAt}
use Rattle.ec_book.specs.Grown.{grown, Chain, HasPieces}
use Rattle.ec_book.specs.Parts.{is_of_part, IsParted}

-- none of these pieces below a number is free
abbrev pub NoneFreeBelow : (ℕ → Bool) → List Piece → ℕ → Type 0
NoneFreeBelow ours pieces k = (m : ℕ) → m < k → ours m ≡ true → slice_get pieces m ≢ Some Free

-- the units, their order and the best plan
pub record IsFor (held : Held) (order : List ℕ) (best : Option Best) : Type 0 where
  pub order_is : IsOrder (length held.loads) order
  pub empty : held.places ≡ no_places held.loads
  pub best_is : IsBestPlan held.loads held.slots best

-- the pieces and what is counted of them, since the state `from`; `low` is a number below which none of `ours` is free, `room` how long the log can grow without memory
pub record IsCounted (ours : ℕ → Bool) (from : PiecesState) (nodes : ℕ) (pieces : List Piece) (value : Option ℕ) (spent held taken low : ℕ) (log : List Step) (room : ℕ) : Type 0 where
  pub history : IsHistory nodes from log (record { pieces = pieces; value = value; spent = spent })
  pub held_is : held ≡ granted pieces
  pub within : spent + held ≤ nodes
  pub taken_is : taken ≡ taken_count pieces
  pub room_is : length log + taken ≤ room
  pub low_is : NoneFreeBelow ours pieces low
  pub low_in : low ≤ length pieces

-- the tree that the reports made of the given one, whose open leaves are the pieces that are free or taken
pub record IsGrown (given : Shape) (line : Line) (order : List ℕ) (pieces : List Piece) (prefixes : List (List Place)) (reports : List Report) (value : Option ℕ) (spent : ℕ) : Type 0 where
  pub chain : Chain (open_count given) reports (length pieces)
  pub each : length prefixes ≡ length pieces
  pub reached : All (IsReachedPrefix line order) prefixes
  pub pieces_are : HasPieces (grown (numbered 0 given) reports) pieces (node_count given + spent)
  pub tree : NumberedTree (StandsAt line.loads order prefixes) line value (grown (numbered 0 given) reports) (no_places line.loads) order

-- no leaf is made yet, and so many that can be made without memory are enough for each piece
pub record HasLeaves (leaves : List Tree) (most : ℕ) (prefixes : List (List Place)) : Type 0 where
  pub none : leaves ≡ []
  pub each : length prefixes ≤ most

-- the part is one, so many pieces were there at first, and only pieces of the part were taken or reported
pub record IsPartOf (part : Part) (first : ℕ) (given : Shape) (pieces : List Piece) (reports : List Report) : Type 0 where
  pub part_is : IsPart part
  pub first_is : first ≡ open_count given
  pub parted : IsParted (is_of_part part first) pieces reports

pub record IsKept (held : Held) (order : List ℕ) (rules : Rules) (nodes : ℕ) (pieces : List Piece) (prefixes : List (List Place)) (reports : List Report) (best : Option Best)
    (spent granted taken low : ℕ) (log : List Step) (given : Shape) (given_value : Option ℕ) (room : ℕ) (leaves : List Tree) (most : ℕ) (part : Part) (first : ℕ) : Type 0 where
  pub for : IsFor held order best
  pub counted : IsCounted (is_of_part part first) (start given given_value) nodes pieces (value_of best) spent granted taken low log room
  pub grown : IsGrown given (line_by rules held.loads held.slots) order pieces prefixes reports (value_of best) spent
  pub spare : HasLeaves leaves most prefixes
  pub shared : IsPartOf part first given pieces reports

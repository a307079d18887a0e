-- When a call on a book is refused, and what a piece is taken with.
use Rattle.std.specs.Prelude.{◌≡◌, ◌≢◌, ◌⊎◌, ℕ, Bool, true, ◌+◌, ◌-◌, ◌<◌, ◌≤◌, min, List, Option, Some, length, slice_get}
use Rattle.ec_units.specs.declared.slave.Place.{Place}
use Rattle.ec_units.specs.declared.unit.Load.{Load}
use Rattle.ec_loads.specs.Cost.{plan_items, IsBusiest}
use Rattle.ec_loads.specs.Legal.{IsLegal, IsIllegalBy}
use Rattle.ec_loads.specs.Line.{line_by}
use Rattle.ec_loads.specs.Search.{IsAtMost}
use Rattle.ec_symmetry.specs.Orders.{IsReachedPrefix}
use Rattle.ec_book.specs.declared.piece.Piece.{Piece}
use Rattle.ec_book.specs.declared.piece.Piece.TheVariants.{Free, Taken}
use Rattle.ec_book.specs.declared.fault.BookFault.{BookFault}
use Rattle.ec_book.specs.declared.fault.BookFault.TheVariants as fault
use Rattle.ec_book.specs.declared.taken.Taken.{Taken as Handed}
use Rattle.ec_book.specs.declared.taken.Taken.TheVariants as handed
use Rattle.ec_book.specs.declared.taken.Took.{Took as Given}
use Rattle.ec_book.specs.Steps.{granted, taken_count, IsBelow}
use Rattle.ec_cert.specs.IsBestPlan.{value_of}
use Rattle.ec_book.specs.Views.{BookView, ours, after_took}
use Rattle.ec_book.specs.Kept.{NoneFreeBelow}

-- the lowest of these pieces that is free
abbrev pub IsLowestFree : (ℕ → Bool) → List Piece → ℕ → Type 0
IsLowestFree ours pieces p = (slice_get pieces p ≡ Some Free) × (ours p ≡ true) × NoneFreeBelow ours pieces p

-- the piece is free, and it is of the part
abbrev pub IsForTaking : BookView → ℕ → Type 0
IsForTaking b piece = (slice_get b.pieces piece ≡ Some Free) × (ours b piece ≡ true)

-- the nodes that are neither spent nor granted
abbrev pub left_of : BookView → ℕ
left_of b = b.nodes - (b.spent + granted b.pieces)

-- no piece can be handed out: none of the part is free, or no node is left
abbrev pub HasNothing : BookView → Type 0
HasNothing b = NoneFreeBelow (ours b) b.pieces (length b.pieces) ⊎ (left_of b ≡ 0)

-- a free piece of the part is handed out: with its prefix, the value and the lesser of what was asked for and what is left
pub record IsGiven (old : BookView) (worker most : ℕ) (t : Given) (new : BookView) : Type 0 where
  pub free : slice_get old.pieces t.piece ≡ Some Free
  pub own : ours old t.piece ≡ true
  pub place : slice_get old.prefixes t.piece ≡ Some t.prefix
  pub reached : IsReachedPrefix (line_by old.rules old.loads old.slots) old.order t.prefix
  pub value : t.value ≡ value_of old.best
  pub grant : t.grant ≡ min most (left_of old)
  pub some : 1 ≤ t.grant
  pub book : new ≡ after_took old worker t.piece t.grant

-- what a worker who asks for so many nodes is answered: the lowest free piece of the part; nothing yet, where a piece is taken; or that the search is done
abbrev pub IsHandedOut : BookView → ℕ → ℕ → Handed → BookView → Type 0
IsHandedOut old worker most (handed.Piece t) new = NoneFreeBelow (ours old) old.pieces t.piece × IsGiven old worker most t new
IsHandedOut old worker most handed.Later new = HasNothing old × (0 < taken_count old.pieces) × (new ≡ old)
IsHandedOut old worker most handed.Done new = HasNothing old × (taken_count old.pieces ≡ 0) × (new ≡ old)

-- what a worker who asks for one free piece of the part is answered: that piece; or, where no node is left, nothing yet or that the search is done
abbrev pub IsPieceHandedOut : BookView → ℕ → ℕ → ℕ → Handed → BookView → Type 0
IsPieceHandedOut old worker piece most (handed.Piece t) new = (t.piece ≡ piece) × IsGiven old worker most t new
IsPieceHandedOut old worker piece most handed.Later new = IsForTaking old piece × (left_of old ≡ 0) × (0 < taken_count old.pieces) × (new ≡ old)
IsPieceHandedOut old worker piece most handed.Done new = IsForTaking old piece × (left_of old ≡ 0) × (taken_count old.pieces ≡ 0) × (new ≡ old)

-- why one piece isn't handed out: it isn't free or isn't of the part, else memory was refused
abbrev pub IsPieceFault : BookView → ℕ → BookFault → Type 0
IsPieceFault b piece fault.NotFree = ¬ (IsForTaking b piece)
IsPieceFault b piece fault.OutOfMemory = IsForTaking b piece
IsPieceFault b piece _ = ⊥

-- the piece isn't taken by anyone
abbrev pub IsNotTaken : List Piece → ℕ → Type 0
IsNotTaken pieces p = (w g : ℕ) → slice_get pieces p ≢ Some (Taken w g)

-- another worker has taken it
abbrev pub IsOfOther : List Piece → ℕ → ℕ → Type 0
IsOfOther pieces worker p = (w : ℕ) × (g : ℕ) × (slice_get pieces p ≡ Some (Taken w g)) × (w ≢ worker)

-- this worker has taken it, with that grant
abbrev pub IsTakenBy : List Piece → ℕ → ℕ → ℕ → Type 0
IsTakenBy pieces worker p g = slice_get pieces p ≡ Some (Taken worker g)

-- why a piece isn't this worker's
abbrev pub IsHoldFault : List Piece → ℕ → ℕ → BookFault → Type 0
IsHoldFault pieces worker p fault.NotTaken = IsNotTaken pieces p
IsHoldFault pieces worker p fault.NotYours = IsOfOther pieces worker p
IsHoldFault pieces worker p _ = ⊥

-- what a reported subtree has to meet: the piece is this worker's with grant g, its prefix is the one handed in, the threshold isn't below the value,
-- and the nodes are at most the grant
pub record IsWelcome (pieces : List Piece) (prefixes : List (List Place)) (value : Option ℕ) (worker p : ℕ) (prefix : List Place) (threshold : Option ℕ) (nodes g : ℕ) : Type 0 where
  pub held : IsTakenBy pieces worker p g
  pub place : slice_get prefixes p ≡ Some prefix
  pub ahead : IsAtMost value threshold
  pub fits : nodes ≤ g

-- why a reported subtree is refused; each fault is judged after those above it
abbrev pub IsReportFault : List Piece → List (List Place) → Option ℕ → ℕ → ℕ → List Place → Option ℕ → ℕ → BookFault → Type 0
IsReportFault pieces prefixes value worker p prefix threshold nodes fault.NotTaken = IsNotTaken pieces p
IsReportFault pieces prefixes value worker p prefix threshold nodes fault.NotYours = IsOfOther pieces worker p
IsReportFault pieces prefixes value worker p prefix threshold nodes fault.Stranger = (g : ℕ) × IsTakenBy pieces worker p g × (slice_get prefixes p ≢ Some prefix)
IsReportFault pieces prefixes value worker p prefix threshold nodes (fault.AheadOfBook v) =
    (g : ℕ) × IsTakenBy pieces worker p g × (slice_get prefixes p ≡ Some prefix) × (v ≡ value) × (¬ (IsAtMost value threshold))
IsReportFault pieces prefixes value worker p prefix threshold nodes fault.OverGrant =
    (g : ℕ) × IsTakenBy pieces worker p g × (slice_get prefixes p ≡ Some prefix) × IsAtMost value threshold × (g < nodes)
IsReportFault pieces prefixes value worker p prefix threshold nodes fault.OutOfMemory = (g : ℕ) × IsWelcome pieces prefixes value worker p prefix threshold nodes g
IsReportFault pieces prefixes value worker p prefix threshold nodes _ = ⊥

-- the plan is legal, and its busiest tick costs v
abbrev pub IsPlanOf : List Load → ℕ → List Place → ℕ → Type 0
IsPlanOf loads n plan v = IsLegal loads n plan × IsBusiest (plan_items loads plan) n v

-- why a legal plan of this cost is refused: it isn't better, else memory was refused
abbrev pub IsOfferFault : Option ℕ → ℕ → BookFault → Type 0
IsOfferFault value v (fault.NotBetter w) = (value ≡ Some w) × (w ≤ v)
IsOfferFault value v fault.OutOfMemory = IsBelow v value
IsOfferFault value v _ = ⊥

-- why a plan is refused: it isn't legal, else it isn't better, else memory was refused
abbrev pub IsBetterFault : BookView → List Place → BookFault → Type 0
IsBetterFault b plan (fault.Illegal i) = IsIllegalBy b.loads b.slots plan i
IsBetterFault b plan (fault.NotBetter w) = (v : ℕ) × IsPlanOf b.loads b.slots plan v × (value_of b.best ≡ Some w) × (w ≤ v)
IsBetterFault b plan fault.OutOfMemory = (v : ℕ) × IsPlanOf b.loads b.slots plan v × IsBelow v (value_of b.best)
IsBetterFault b plan _ = ⊥

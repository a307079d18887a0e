-- What a worker is handed, and what becomes of it.
use Rattle.std.specs.Prelude.{◌≡◌, ◌≢◌, ◌⊎◌, ℕ, ◌≤◌, List, [], ◌∷◌, ◌++◌, Option, Some}
use Rattle.ec_units.specs.declared.unit.Load.{Load}
use Rattle.ec_loads.specs.Line.{Rules, line_by}
use Rattle.ec_loads.specs.Search.{BoundsAll, IsAtMost}
use Rattle.ec_loads.specs.Shape.{Shape}
use Rattle.ec_symmetry.specs.Orders.{IsReachedPrefix}
use Rattle.ec_cert.specs.declared.part.Part.{Part}
use Rattle.ec_cert.specs.IsBestPlan.{value_of}
use Rattle.ec_book.specs.declared.fault.BookFault.{BookFault}
use Rattle.ec_book.specs.declared.fault.BookFault.TheVariants as fault
use Rattle.ec_book.specs.declared.step.Step.{Step}
use Rattle.ec_book.specs.declared.step.Step.TheVariants.{Better}
use Rattle.ec_book.specs.declared.taken.Taken.{Taken as Handed}
use Rattle.ec_book.specs.declared.taken.Taken.TheVariants as handed
use Rattle.ec_book_shared.specs.Seats.{SeatView, HasBook}
use Rattle.ec_search_threads.specs.declared.ended.Ended.TheVariants as ended
use Rattle.ec_search_threads.specs.declared.turn.Turn.{Turn}
use Rattle.ec_search_threads.specs.declared.turn.Turn.TheVariants as became

-- a piece that can be explored: its prefix is reached by the children, and some node may be split or closed
abbrev pub IsStart : List Load → ℕ → List ℕ → Rules → Handed → Type 0
IsStart loads n order rules (handed.Piece t) = IsReachedPrefix (line_by rules loads n) order t.prefix × (1 ≤ t.grant)
IsStart loads n order rules _ = Unit {0}

-- the worker is rid of the piece where that was reported, or where the worker ends and the book refused it nothing
abbrev pub LeavesPiece : Type 0 → Turn → Type 0
LeavesPiece left became.Reported = left
LeavesPiece left (became.Again v) = Unit {0}
LeavesPiece left (became.Stopped e) = e ≢ ended.Refused → left

-- a subtree is refused as ahead of the book at a value of some book, which is above the one at which the leaves hold
abbrev pub IsAhead : (Option ℕ → Type 0) → Option ℕ → BookFault → Type 0
IsAhead is_value threshold (fault.AheadOfBook v) = is_value v × (¬ (IsAtMost v threshold))
IsAhead is_value threshold _ = Unit {0}

-- where a piece is to be explored again, it is at the value of some book of the search, and that is above the value at which the leaves hold
abbrev pub FindsValue : (Option ℕ → Type 0) → Option ℕ → Turn → Type 0
FindsValue is_value threshold (became.Again v) = is_value v × (¬ (IsAtMost v threshold))
FindsValue is_value threshold _ = Unit {0}

-- the value of some book of the search, or that of the better plan which was the last step of the seat's worker
abbrev pub IsSeatValue : List Load → ℕ → List ℕ → Rules → Shape → Option ℕ → ℕ → Part → SeatView → Option ℕ → Type 0
IsSeatValue loads n order rules given value nodes part seat v =
    HasBook loads n order rules given value nodes part (λ b. value_of b.best ≡ v)
    ⊎ ((steps : List Step) × (x : ℕ) × (v ≡ Some x) × (seat.receipts ≡ steps ++ (Better seat.worker x) ∷ []))

-- the value of a guide is below none of these: a value that it began with, one that was published, and what the busiest tick of each legal plan costs. No number
-- that is at most the first two and bounds every legal plan is above it
abbrev pub IsTied : List Load → ℕ → Option ℕ → Option ℕ → Option ℕ → Type 0
IsTied loads n first published value = (x v : ℕ) → IsAtMost (Some x) first → IsAtMost (Some x) published → BoundsAll loads n (Some x) → value ≡ Some v → x ≤ v

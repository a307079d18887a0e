-- How a shared book ends.
use Rattle.std.specs.Prelude.{◌≡◌, ℕ, List, map, sum, true, All, Option}
use Rattle.ec_units.specs.declared.unit.Load.{Load}
use Rattle.ec_loads.specs.Line.{Rules}
use Rattle.ec_loads.specs.Shape.{Shape}
use Rattle.ec_cert.specs.declared.part.Part.{Part}
use Rattle.ec_book.specs.declared.step.Step.{Step}
use Rattle.ec_book.specs.declared.book.Finished.{Finished}
use Rattle.ec_book.specs.Views.{BookView}
use Rattle.ec_book.specs.Books.{BeganWith}
use Rattle.ec_book.specs.Finishing.{IsFinishedOf}
use Rattle.ec_book_shared.specs.declared.fault.CloseFault.{CloseFault}
use Rattle.ec_book_shared.specs.declared.fault.CloseFault.TheVariants as fault
use Rattle.ec_book_shared.specs.Receipts.{AreOwn, are_known}
use Rattle.ec_book_shared.specs.Seats.{SeatView, IsOf, IsFor}

-- each seat's receipts are its entries of the log, in order, each once, and each entry is a seat's
abbrev pub IsJournal : List SeatView → List Step → Type 0
IsJournal seats log = All (λ s. AreOwn s.worker s.receipts log) seats × (are_known (map (λ s. s.worker) seats) log ≡ true)

-- all seats are for these loads, this slot count and this order, and so is the book of which it came, by these rules, whose search was given this tree, this
-- value, so many nodes and this part; its nodes are those that the seats reported
pub record IsClosed (loads : List Load) (n : ℕ) (order : List ℕ) (rules : Rules) (given : Shape) (value : Option ℕ) (nodes : ℕ) (part : Part) (seats : List SeatView) (f : Finished) : Type 0 where
  pub seats_of : All (λ s. IsOf loads n order s) seats
  pub book : (b : BookView) × IsFor loads n order rules b × BeganWith given value nodes part b × IsFinishedOf b f
  pub shares : f.spent ≡ sum (map (λ s. s.nodes) seats)

-- why it isn't closed: a seat is of another search, before all else; or receipts and log disagree. It takes no memory
abbrev pub IsCloseFault : List Load → ℕ → List ℕ → Rules → Shape → Option ℕ → ℕ → Part → List SeatView → CloseFault → Type 0
IsCloseFault loads n order rules given value nodes part seats (fault.Journal f) = IsClosed loads n order rules given value nodes part seats f × (¬ (IsJournal seats f.log))
IsCloseFault loads n order rules given value nodes part seats fault.OutOfMemory = ⊥
IsCloseFault loads n order rules given value nodes part seats fault.OtherUnits = ¬ (All (λ s. IsOf loads n order s) seats)

-- A seat as contracts see it, and what its calls say.
use Rattle.std.specs.Prelude.{◌≡◌, ◌⊎◌, Bool, ℕ, zero, suc, ◌+◌, List, [], ◌∷◌, ◌++◌, length, false, Option}
use Rattle.ec_units.specs.declared.slave.Place.{Place}
use Rattle.ec_units.specs.declared.unit.Load.{Load}
use Rattle.ec_units.specs.declared.unit.Unit.{Unit as SyncUnit}
use Rattle.ec_units.specs.Load.{loads_of}
use Rattle.ec_loads.specs.Line.{Rules, line_by}
use Rattle.ec_loads.specs.Legal.{IsIllegalBy}
use Rattle.ec_loads.specs.Search.{node_count}
use Rattle.ec_loads.specs.Shape.{Shape}
use Rattle.ec_cert.specs.declared.part.Part.{Part}
use Rattle.ec_cert.specs.IsBestPlan.{value_of, IsBestPlan}
use Rattle.ec_symmetry.specs.Orders.{IsOrder}
use Rattle.ec_book.specs.declared.step.Step.{Step}
use Rattle.ec_book.specs.declared.step.Step.TheVariants.{Reported}
use Rattle.ec_book.specs.declared.fault.BookFault.{BookFault}
use Rattle.ec_book.specs.declared.fault.BookFault.TheVariants as fault
use Rattle.ec_book.specs.declared.taken.Taken.{Taken as Handed}
use Rattle.ec_book.specs.Steps.{IsHistory}
use Rattle.ec_book.specs.Open.{open_places}
use Rattle.ec_book.specs.Views.{BookView, state_of, opening}
use Rattle.ec_book.specs.Books.{BeganWith}
use Rattle.ec_book.specs.Faults.{IsPlanOf, IsOfferFault, IsHoldFault, IsTakenBy}
use Rattle.ec_book_shared.specs.Receipts.{taken_steps}

-- the units, the slot count and the order that a seat is for, the worker's number, its own steps, and the nodes that it reported
pub record SeatView : Type 0 where
  pub units : List SyncUnit
  pub slots : ℕ
  pub order : List ℕ
  pub worker : ℕ
  pub receipts : List Step
  pub nodes : ℕ

abbrev pub seat_view : List SyncUnit → ℕ → List ℕ → ℕ → List Step → ℕ → SeatView
seat_view units slots order worker receipts nodes = record { units = units; slots = slots; order = order; worker = worker; receipts = receipts; nodes = nodes }

-- what is true of each seat: its order has each unit once, and its share is one part of the ledger
pub record IsSeated (units : List SyncUnit) (order : List ℕ) (parts : ℕ) : Type 0 where
  pub order_is : IsOrder (length units) order
  pub part_is : parts ≡ 1

-- units and an order are those of these loads, slot count and order
pub record AreOf (loads : List Load) (n : ℕ) (order : List ℕ) (units : List SyncUnit) (slots : ℕ) (units_order : List ℕ) : Type 0 where
  pub loads_is : loads_of units ≡ loads
  pub slots_is : slots ≡ n
  pub order_is : units_order ≡ order

-- the seat is for these loads, this slot count and this order
abbrev pub IsOf : List Load → ℕ → List ℕ → SeatView → Type 0
IsOf loads n order s = AreOf loads n order s.units s.slots s.order

-- a book for these loads, this slot count, this order and these rules
pub record IsFor (loads : List Load) (n : ℕ) (order : List ℕ) (rules : Rules) (b : BookView) : Type 0 where
  pub loads_is : b.loads ≡ loads
  pub slots_is : b.slots ≡ n
  pub order_is : b.order ≡ order
  pub rules_is : b.rules ≡ rules

-- some book for these, whose search was given this tree, this value, so many nodes and this part, has it, with a legal history and with a best plan, if any, that is legal and costs what is
-- stated
pub record HasBook (loads : List Load) (n : ℕ) (order : List ℕ) (rules : Rules) (given : Shape) (value : Option ℕ) (nodes : ℕ) (part : Part) (fact : BookView → Type 0) : Type 0 where
  pub book : BookView
  pub for : IsFor loads n order rules book
  pub began : BeganWith given value nodes part book
  pub history : IsHistory book.nodes (opening book) book.log (state_of book)
  pub best : IsBestPlan book.loads book.slots book.best
  pub has : fact book

-- the same of the seat's units and order, and these rules
abbrev pub HasSeatBook : SeatView → Rules → Shape → Option ℕ → ℕ → Part → (BookView → Type 0) → Type 0
HasSeatBook s rules given value nodes part fact = HasBook (loads_of s.units) s.slots s.order rules given value nodes part fact

-- the seat with one more step
abbrev pub noted : SeatView → Step → SeatView
noted s e = record s { receipts = s.receipts ++ e ∷ [] }

-- the seat after what was handed out
abbrev pub after_taken : SeatView → Handed → SeatView
after_taken s t = record s { receipts = taken_steps s.receipts s.worker t }

-- the seat after the report of a subtree, by these rules: one more step, and the subtree's nodes in its share
abbrev pub IsReported : SeatView → Rules → ℕ → List Place → Shape → SeatView → Type 0
IsReported s rules piece prefix tree new =
    (first : ℕ) × (new ≡ record s {
      receipts = s.receipts ++ (Reported s.worker piece (node_count tree) first (length (open_places (line_by rules (loads_of s.units) s.slots) s.order tree prefix))) ∷ [];
      nodes = s.nodes + node_count tree;
    })

-- a seat of another search is refused as a stranger, before all else; one of this search for the book's reasons
abbrev pub IsSeatFault : Type 0 → (BookFault → Type 0) → BookFault → Type 0
IsSeatFault ours why e = (ours × why e) ⊎ ((¬ ours) × (e ≡ fault.Stranger))

-- why a plan is refused from a seat: it isn't legal; else, of some book, it isn't better, or memory was refused
abbrev pub IsSeatPlanFault : SeatView → Rules → Shape → Option ℕ → ℕ → Part → List Place → BookFault → Type 0
IsSeatPlanFault s rules given value nodes part plan (fault.Illegal i) = IsIllegalBy (loads_of s.units) s.slots plan i
IsSeatPlanFault s rules given value nodes part plan e = (v : ℕ) × IsPlanOf (loads_of s.units) s.slots plan v × HasSeatBook s rules given value nodes part (λ b. IsOfferFault (value_of b.best) v e)

-- why a piece isn't given back: it isn't the worker's by the book; or it is, and the worker doesn't hold it by its own steps
abbrev pub IsBackFault : Bool → BookView → ℕ → ℕ → BookFault → Type 0
IsBackFault held b worker piece e = IsHoldFault b.pieces worker piece e ⊎ ((g : ℕ) × IsTakenBy b.pieces worker piece g × (held ≡ false) × (e ≡ fault.NotYours))

-- the first so many seats, none of which made a step
abbrev pub first_seats : List SyncUnit → ℕ → List ℕ → ℕ → List SeatView
first_seats units slots order zero = []
first_seats units slots order (suc n) = first_seats units slots order n ++ (seat_view units slots order n [] 0) ∷ []

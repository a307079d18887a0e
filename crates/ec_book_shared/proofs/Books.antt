-- Some book of a search has a fact.
use Rattle.std.proofs.Common.{◌≡◌, ℕ, List, Option}
use Rattle.ec_units.specs.declared.unit.Load.{Load}
use Rattle.ec_loads.specs.Line.{Rules}
use Rattle.ec_loads.specs.Shape.{Shape}
use Rattle.ec_cert.specs.declared.part.Part.{Part}
use Rattle.ec_book.specs.Views.{BookView}
use Rattle.ec_book_shared.specs.Seats.{SeatView, IsOf, HasBook, HasSeatBook}

-- it is a book of the seat's units and order where the seat is for the search
pub of_seat : (loads : List Load) (n : ℕ) (order : List ℕ) (rules : Rules) (given : Shape) (value : Option ℕ) (nodes : ℕ) (part : Part) (s : SeatView) (fact : BookView → Type 0)
    → IsOf loads n order s → HasBook loads n order rules given value nodes part fact → HasSeatBook s rules given value nodes part fact
of_seat loads n order rules given value nodes part s fact ours h = rw (ours.loads_is, ours.slots_is, ours.order_is) h

-- what the book has, some book of the search has
pub of_book : (loads : List Load) (n : ℕ) (order : List ℕ) (rules : Rules) (given : Shape) (value : Option ℕ) (nodes : ℕ) (part : Part) (now : BookView) (fact : BookView → Type 0)
    → HasBook loads n order rules given value nodes part (λ b. b ≡ now) → fact now → HasBook loads n order rules given value nodes part fact
of_book loads n order rules given value nodes part now fact h f = record { book = h.book; for = h.for; began = h.began; history = h.history; best = h.best; has = rw h.has f }

-- What several workers make of a book.
use Rattle.std.specs.Prelude.{ℕ, List, Option}
use Rattle.ec_units.specs.declared.unit.Load.{Load}
use Rattle.ec_units.specs.declared.unit.Unit.{Unit as SyncUnit}
use Rattle.ec_loads.specs.Line.{Rules}
use Rattle.ec_loads.specs.Shape.{Shape}
use Rattle.ec_cert.specs.declared.part.Part.{Part}
use Rattle.ec_book.specs.declared.book.Finished.{Finished}
use Rattle.ec_book.specs.Views.{BookView}
use Rattle.ec_book.specs.Books.{IsBookOf, BeganWith}
use Rattle.ec_book.specs.Finishing.{IsFinishedOf}
use Rattle.ec_book_shared.specs.Seats.{IsFor}

-- it came of some book for these loads, this slot count, this order and these rules, whose search was given this tree, this value, so many nodes and this part
abbrev pub IsClosedFor : List Load → ℕ → List ℕ → Rules → Shape → Option ℕ → ℕ → Part → Finished → Type 0
IsClosedFor loads n order rules given value nodes part f = (b : BookView) × IsFor loads n order rules b × BeganWith given value nodes part b × IsFinishedOf b f

-- it came of some book for these units, this order and these rules, whose search was given this tree, this value, so many nodes and this part
abbrev pub IsCrewed : List SyncUnit → ℕ → List ℕ → Rules → Shape → Option ℕ → ℕ → Part → Finished → Type 0
IsCrewed us n order rules given value nodes part f = (b : BookView) × IsBookOf us n order rules b × BeganWith given value nodes part b × IsFinishedOf b f

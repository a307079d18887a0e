use Rattle.std.proofs.Common.{ℕ, List, Option, Result, Ok, Err, IfOk}
use Rattle.ec_units.specs.declared.unit.Unit.{Unit as SyncUnit}
use Rattle.ec_units.specs.Load.{loads_of}
use Rattle.ec_loads.specs.Line.{Rules}
use Rattle.ec_loads.specs.Shape.{Shape}
use Rattle.ec_cert.specs.declared.part.Part.{Part}
use Rattle.ec_search_threads.specs.IsCrewed.{IsClosedFor, IsCrewed}
use Rattle.ec_search_threads.specs.declared.crew.Crewed.{Crewed}
use Rattle.ec_search_threads.specs.declared.crew.CrewFault.{CrewFault}
use Rattle.ec_search_threads.proofs.crew.search_by_crew.Goals as goal

crewed_of : (us : List SyncUnit) (n : ℕ) (order : List ℕ) (rules : Rules) (given : Shape) (value : Option ℕ) (nodes : ℕ) (part : Part) (r : Result Crewed CrewFault) → IfOk r (λ c. IsClosedFor (loads_of us) n order rules given value nodes part c.finished)
    → IfOk r (λ c. IsCrewed us n order rules given value nodes part c.finished)
crewed_of us n order rules given value nodes part (Ok c) h = (h.0, record { loads_is = h.1.loads_is; slots_is = h.1.slots_is; order_is = h.1.order_is; rules_is = h.1.rules_is }, h.2, h.3)
crewed_of us n order rules given value nodes part (Err e) h = h

pub returns : goal.returns
returns g c = crewed_of c.args.units.now.units c.args.units.now.slots c.args.order.now c.args.book.rules c.args.book.given c.args.book.given_value c.args.book.nodes c.args.book.part c.search_on.result c.search_on.ensures

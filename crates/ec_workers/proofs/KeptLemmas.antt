-- What a search costs at most that begins at the places of the units.
use Rattle.std.specs.Prelude.{map}
use Rattle.std.proofs.Common.{◌≡◌, ℕ, List, Option, Some, None, Result, Ok, Err, IfOk, IsSomeAnd, refl, sym, subst}
use Rattle.ec_units.specs.declared.slave.Place.{Place}
use Rattle.ec_units.specs.declared.unit.Load.{Load}
use Rattle.ec_units.specs.declared.unit.Unit.{Unit as SyncUnit}
use Rattle.ec_units.specs.Load.{loads_of}
use Rattle.ec_loads.specs.declared.plan.Plan.{Plan}
use Rattle.ec_loads.specs.Cost.{plan_items, IsBusiest}
use Rattle.ec_loads.specs.Legal.{IsLegal}
use Rattle.ec_loads.specs.Held.{own_places}
use Rattle.ec_cert.specs.declared.cert.Best.{Best}
use Rattle.ec_cert.specs.IsBestPlan.{value_of}
use Rattle.ec_loads.specs.Search.{IsAtMost}
use Rattle.ec_loads.specs.Shape.{Shape}
use Rattle.ec_outcome.specs.declared.search.Outcome.{Outcome}
use Rattle.ec_outcome.specs.declared.search.SolveFault.{SolveFault}
use Rattle.ec_workers.specs.Answers.{GoesBeyond, IsNoDearer, value_in}
use Rattle.ec_branch.proofs.WalkLemmas.{IsAtMost-trans}

-- what the busiest tick of a plan with these places costs
pub own_value : (loads : List Load) (n : ℕ) (kept : Option Plan) (best : Option Best) (ps : List Place) (b : ℕ) → IsSomeAnd kept (λ plan. plan.places ≡ ps)
    → ((p : Plan) (v : ℕ) → kept ≡ Some p → IsBusiest (plan_items loads p.places) n v → value_of best ≡ Some v) → IsBusiest (plan_items loads ps) n b → value_of best ≡ Some b
own_value loads n None best ps b none says at = absurd none
own_value loads n (Some plan) best ps b same says at = says plan b refl (subst (λ w. IsBusiest (plan_items loads w) n b) (sym same) at)

-- what goes on from a value that is at most what the own places cost
pub no_dearer : (r : Result Outcome SolveFault) (units : List SyncUnit) (n : ℕ) (given : Shape) (value : Option ℕ) (nodes : ℕ)
    → ((ps : List Place) (b : ℕ) → own_places units ≡ map Some ps → IsLegal (loads_of units) n ps → IsBusiest (plan_items (loads_of units) ps) n b → IsAtMost value (Some b))
    → IfOk r (GoesBeyond given value nodes) → IfOk r (IsNoDearer units n)
no_dearer (Ok o) units n given value nodes low goes = λ ps b own legal at. IsAtMost-trans (value_in o) value (Some b) goes.falls (low ps b own legal at)
no_dearer (Err f) units n given value nodes low goes = tt

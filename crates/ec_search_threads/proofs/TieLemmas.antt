-- What ties the value of a guide: the value that it began with, one that was published, and the costs of legal plans.
use Rattle.std.proofs.Common.{◌≡◌, refl, ℕ, ◌⊎◌, inl, inr, ◌≤◌, List, Option, Some, None, sym, subst, arith, ◌∙◌}
use Rattle.ec_units.specs.declared.slave.Place.{Place}
use Rattle.ec_units.specs.declared.unit.Load.{Load}
use Rattle.ec_loads.specs.Cost.{plan_items, IsBusiest}
use Rattle.ec_loads.specs.Legal.{IsLegal}
use Rattle.ec_loads.specs.Line.{Rules}
use Rattle.ec_loads.specs.Search.{BoundsAll, IsAtMost}
use Rattle.ec_loads.specs.Shape.{Shape}
use Rattle.ec_cert.specs.declared.cert.Best.{Best}
use Rattle.ec_cert.specs.declared.part.Part.{Part}
use Rattle.ec_cert.specs.IsBestPlan.{value_of, IsBestPlan}
use Rattle.ec_book.specs.declared.step.Step.TheVariants.{Better}
use Rattle.ec_book_shared.specs.Seats.{SeatView, HasBook, noted}
use Rattle.ec_search_queues.specs.Lowest.{IsAtMost as IsNotAbove}
use Rattle.ec_search_threads.specs.Turns.{IsSeatValue, IsTied}

-- a bound of all legal plans is at most what each of them costs
pub least-at : (loads : List Load) (n x : ℕ) (plan : List Place) (c : ℕ) → BoundsAll loads n (Some x) → IsLegal loads n plan → IsBusiest (plan_items loads plan) n c → x ≤ c
least-at loads n x plan c bounds legal busiest =
    let found = bounds plan legal in
    let is : x ≡ found.0 = let e = found.1 in cc in
    let most = busiest.most found.2 in
    omega (arith, is, found.3, most)

pub at_most-best : (loads : List Load) (n x : ℕ) (best : Option Best) → BoundsAll loads n (Some x) → IsBestPlan loads n best → IsAtMost (Some x) (value_of best)
at_most-best loads n x None bounds h = tt
at_most-best loads n x (Some b) bounds h = least-at loads n x b.plan.places b.busiest bounds h.0 h.1

below : (x : ℕ) (r p : Option ℕ) → IsAtMost (Some x) r → IsNotAbove r p → IsAtMost (Some x) p
below x None None h low = tt
below x None (Some m) h low = absurd low
below x (Some a) None h low = tt
below x (Some a) (Some m) h low = omega (arith, h, low)

at : (x v : ℕ) (value : Option ℕ) → value ≡ Some v → IsAtMost (Some x) value → x ≤ v
at x v value is low = subst (IsAtMost (Some x)) is low

-- the value that a guide begins with
pub tied_first : (loads : List Load) (n : ℕ) (value published : Option ℕ) → IsTied loads n value published value
tied_first loads n value published x v h k bounds is = at x v value is h

-- a lower value is published
pub tied_lower : (loads : List Load) (n : ℕ) (first old new value : Option ℕ) → IsTied loads n first old value → IsNotAbove new old → IsTied loads n first new value
tied_lower loads n first old new value tied falls x v h k bounds is = tied x v h (below x new old k falls) bounds is

-- and it is the guide's from then on
pub tied_read : (loads : List Load) (n : ℕ) (first old new value read next : Option ℕ) → IsTied loads n first old value → new ≡ read → IsNotAbove read old → (next ≡ value) ⊎ (next ≡ read) → IsTied loads n first new next
tied_read loads n first old new value read next tied known falls (inl same) x v h k bounds is =
    tied x v h (below x read old (subst (IsAtMost (Some x)) known k) falls) bounds (sym same ∙ is)
tied_read loads n first old new value read next tied known falls (inr same) x v h k bounds is =
    at x v read (sym same ∙ is) (subst (IsAtMost (Some x)) known k)

-- the value of a book
pub book_least : (loads : List Load) (n : ℕ) (order : List ℕ) (rules : Rules) (given : Shape) (value : Option ℕ) (nodes : ℕ) (part : Part) (v : ℕ) →
    HasBook loads n order rules given value nodes part (λ b. value_of b.best ≡ Some v) → (x : ℕ) → BoundsAll loads n (Some x) → x ≤ v
book_least loads n order rules given value nodes part v found x bounds =
    at x v (value_of found.book.best) found.has
    (at_most-best found.book.loads found.book.slots x found.book.best (subst (λ l. BoundsAll l found.book.slots (Some x)) (sym found.for.loads_is) (subst (λ s. BoundsAll loads s (Some x)) (sym found.for.slots_is) bounds)) found.best)

-- the value of a better plan that was the last step
pub noted_value : (loads : List Load) (n : ℕ) (order : List ℕ) (rules : Rules) (given : Shape) (value : Option ℕ) (nodes : ℕ) (part : Part) (seat new : SeatView) (x : ℕ) →
    new ≡ noted seat (Better seat.worker x) → IsSeatValue loads n order rules given value nodes part new (Some x)
noted_value loads n order rules given value nodes part seat new x is =
    subst (λ s. IsSeatValue loads n order rules given value nodes part s (Some x)) (sym is) (inr (seat.receipts, x, refl, refl))

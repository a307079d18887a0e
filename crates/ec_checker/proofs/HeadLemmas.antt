-- What stands before the tree: the lines of the units and the order.
use Rattle.std.proofs.Common.{◌≡◌, ◌↔◌, ℕ, ◌<◌, ◌==◌, false, All, List, [], ◌∷◌, length, set, drop, Some, subst}
use Rattle.std.specs.List.{list_any}
use Rattle.std.proofs.lemmas.Bool.{or_parts}
use Rattle.ec_units.specs.declared.unit.Load.{Load}
use Rattle.ec_units.specs.declared.unit.Unit.{Unit as SyncUnit}
use Rattle.ec_loads.specs.Held.{no_places}
use Rattle.ec_loads.specs.Search.{Prefix}
use Rattle.ec_cert.specs.declared.lists.UnitLine.{UnitLine}
use Rattle.ec_symmetry.specs.Orders.{has_repeat, IsOrder}
use Rattle.ec_symmetry.proofs.FreeLemmas.{AreFree, AreFree-set, AreFree-none}
use Rattle.ec_checker.specs.Certified.{lines_of}
use Rattle.ec_checker.specs.Judged.{IsReady}

-- what has been looked at is the same, so the rest decides
abbrev pub SameLines : List UnitLine → List SyncUnit → ℕ → Type 0
SameLines lines units i = (drop i lines ≡ lines_of (drop i units)) ↔ (lines ≡ lines_of units)

ready_from : (ps : Prefix) (us : List ℕ) → has_repeat us ≡ false → AreFree ps us → IsReady ps us
ready_from ps [] once free = tt
ready_from ps (u ∷ us) once free =
    let parts = or_parts (list_any (λ w. u == w) us) (has_repeat us) once in
    (free.0, λ p. ready_from (set ps u (Some p)) us parts.1 (AreFree-set ps u (Some p) us parts.0 free.1))

-- an order is ready where no unit has a place
pub order_ready : (loads : List Load) (n : ℕ) (order : List ℕ) → n ≡ length loads → IsOrder n order → IsReady (no_places loads) order
order_ready loads n order count is = ready_from (no_places loads) order is.once (AreFree-none loads order (subst (λ k. All (λ u. u < k) order) count is.below))

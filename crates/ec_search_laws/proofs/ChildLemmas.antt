-- A prefix that the children reach stays within what `children-count` of `ec_symmetry` asks.
use Rattle.std.proofs.Common.{◌≡◌, ℕ, ◌<◌, ◌≤◌, List, [], ◌∷◌, length, drop, set, suc, Some, subst, arith}
use Rattle.std.specs.Prelude.{All}
use Rattle.ec_units.specs.declared.slave.Place.{Place}
use Rattle.ec_loads.specs.Held.{AreLoads}
use Rattle.ec_loads.specs.Line.{Line}
use Rattle.ec_loads.specs.Search.{Prefix, children}
use Rattle.ec_symmetry.specs.Orders.{AreChildren, with_places}
use Rattle.ec_symmetry.proofs.CountLemmas.{AreLeft, AreLeft-child, children-count}

pub few-below : (line : Line) (order : List ℕ) (ps : Prefix) (places : List Place) (u : ℕ) (rest : List ℕ) → AreLoads line.loads → 1 ≤ line.slots → line.slots ≤ 8 → All (λ w. w < length line.loads) order → AreLeft line ps order → AreChildren line ps order places
    → drop (length places) order ≡ u ∷ rest → (1 ≤ length (children line (with_places ps order places) u)) × (length (children line (with_places ps order places) u) ≤ 480)
few-below line [] ps [] u rest all some most below left reached next = absurd cc
few-below line (w ∷ order) ps [] u rest all some most below left reached next =
    let same : w ≡ u = cc in
    subst (λ (x : ℕ). (1 ≤ length (children line ps x)) × (length (children line ps x) ≤ 480)) same (children-count line ps w all some most (below 0 0 (omega arith)) left.within)
few-below line [] ps (p ∷ places) u rest all some most below left reached next = absurd reached
few-below line (w ∷ order) ps (p ∷ places) u rest all some most below left reached next =
    few-below line order (set ps w (Some p)) places u rest all some most (λ k d within. below (suc k) d (omega (arith, within))) (AreLeft-child line ps w order p (below 0 0 (omega arith)) reached.0 left) reached.1 next

-- A level that holds at a prefix holds at each longer one, so the level of a tree doesn't fall while the tree grows.
use Rattle.std.proofs.Common.{◌≡◌, ℕ, suc, ◌+◌, ◌<◌, All, List, [], ◌∷◌, length, set, Option, Some, refl}
use Rattle.std.proofs.lemmas.List.Elements.{All-head, All-tail}
use Rattle.ec_units.specs.declared.slave.Place.{Place}
use Rattle.ec_units.specs.declared.unit.Load.{Load}
use Rattle.ec_loads.specs.Held.{AreLoads}
use Rattle.ec_loads.specs.Line.{Line}
use Rattle.ec_loads.specs.Shape.{Shape, Shapes, split, leaf, open_leaf, no_shapes, more}
use Rattle.ec_loads.specs.Search.{Prefix, children, TreeWith, TreesWith, LevelHolds, open_count}
use Rattle.ec_symmetry.specs.Reached.{In, here, there}
use Rattle.ec_checker.specs.Judged.{IsReady}
use Rattle.ec_checker.specs.Levels.{AreIn}
use Rattle.ec_checker.proofs.BelowLemmas.{AreChildren, AnyLeaf, children-are, slots-set, level-below}
use Rattle.ec_book.specs.Numbered.{numbered, all_numbered, draw, draws}

module _ (line : Line) (level : Option ℕ) (within : AreLoads line.loads) where
  abbrev Holds : Prefix → List ℕ → Type 0
  Holds qs _ = LevelHolds line level qs

  -- a tree that grows from one at whose open leaves the level holds
  mutual
    pub tree-rises : (f : ℕ → Shape) (v w : Option ℕ) (given : Shape) (k : ℕ) (ps : Prefix) (order : List ℕ) → IsReady ps order → AreIn line.slots line.loads ps → All (λ u. u < length line.loads) order → TreeWith Holds line v given ps order
        → TreeWith AnyLeaf line w (draw f (numbered k given)) ps order → TreeWith Holds line w (draw f (numbered k given)) ps order
    tree-rises f v w (split ts) k ps [] ready all few old h = absurd h
    tree-rises f v w (split ts) k ps (u ∷ order) ready all few old h = trees-rise f v w ts k ps u order (children line ps u) (children-are line ps u) ready all few old h
    tree-rises f v w (leaf l) k ps order ready all few old h = h
    tree-rises f v w open_leaf k ps order ready all few old h = level-below line level within w (f k) ps order ready all few old h

    trees-rise : (f : ℕ → Shape) (v w : Option ℕ) (given : Shapes) (k : ℕ) (ps : Prefix) (u : ℕ) (order : List ℕ) (places : List Place) → AreChildren line u places → IsReady ps (u ∷ order) → AreIn line.slots line.loads ps → All (λ u. u < length line.loads) (u ∷ order)
        → TreesWith Holds line v given ps u order places → TreesWith AnyLeaf line w (draws f (all_numbered k given)) ps u order places → TreesWith Holds line w (draws f (all_numbered k given)) ps u order places
    trees-rise f v w no_shapes k ps u order [] each ready all few old h = tt
    trees-rise f v w no_shapes k ps u order (p ∷ rest) each ready all few old h = absurd old
    trees-rise f v w (more t ts) k ps u order [] each ready all few old h = absurd old
    trees-rise f v w (more t ts) k ps u order (p ∷ rest) each ready all few old h =
        let one = each p here in (
          tree-rises f v w t k (set ps u (Some p)) order (ready.1 p) (slots-set line.slots line.loads ps u p ready.0 one.1 all) (All-tail (λ u. u < length line.loads) u order few) old.0 h.0,
          trees-rise f v w ts (k + open_count t) ps u order rest (λ q m. each q (there m)) ready all few old.1 h.1,
        )

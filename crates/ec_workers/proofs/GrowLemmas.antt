-- A tree grows from itself.
use Rattle.std.proofs.Common.{◌≡◌, ℕ, ◌+◌, ◌≤◌, Option, Some, None, refl, sym, ap, arith}
use Rattle.ec_loads.specs.Shape.{Shape, Shapes, split, leaf, open_leaf, no_shapes, more}
use Rattle.ec_loads.specs.Search.{IsAtMost, node_count, open_count}
use Rattle.ec_book.specs.Numbered.{numbered, all_numbered, draw, draws}
use Rattle.ec_book.specs.Finishing.{GrowsFrom}
use Rattle.ec_outcome.specs.declared.search.Outcome.{Outcome}
use Rattle.ec_workers.specs.Answers.{GoesBeyond, tree_in, value_in}

mutual
  pub drawn-same : (s : Shape) (k : ℕ) → draw (λ _. open_leaf) (numbered k s) ≡ s
  drawn-same (split ts) k = ap split (drawns-same ts k)
  drawn-same (leaf l) k = refl
  drawn-same open_leaf k = refl

  drawns-same : (ts : Shapes) (k : ℕ) → draws (λ _. open_leaf) (all_numbered k ts) ≡ ts
  drawns-same no_shapes k = refl
  drawns-same (more t ts) k = λ j. more (drawn-same t k j) (drawns-same ts (k + open_count t) j)

at_most-same : (v : Option ℕ) → IsAtMost v v
at_most-same None = tt
at_most-same (Some b) = omega arith

-- an outcome goes on from its own tree and value
pub stays : (nodes : ℕ) (o : Outcome) → GoesBeyond (tree_in o) (value_in o) nodes o
stays nodes o = record { grows = ((λ _. open_leaf), sym (drawn-same (tree_in o) 0)); falls = at_most-same (value_in o); within = omega arith }

-- What a finished book gives.
use Rattle.std.specs.Prelude.{◌≡◌, ℕ, ◌+◌, ◌≤◌, IsTrue}
use Rattle.ec_loads.specs.Held.{no_places}
use Rattle.ec_loads.specs.Line.{line_by}
use Rattle.ec_loads.specs.Shape.{Shape}
use Rattle.ec_loads.specs.Search.{IsTree, IsPartialTree, IsAtMost, node_count, open_count}
use Rattle.ec_cert.specs.Shapes.{shape_of}
use Rattle.ec_book.specs.Numbered.{Numbered, numbered, draw, plain, NumberedTree}
use Rattle.ec_book.specs.Open.{StandsAt}
use Rattle.ec_book.specs.Grown.{HasPieces}
use Rattle.ec_book.specs.Parts.{LeavesOthers, ClosesPart}
use Rattle.ec_cert.specs.IsBestPlan.{value_of, IsBestPlan}
use Rattle.ec_book.specs.declared.book.Finished.{Finished}
use Rattle.ec_book.specs.Steps.{live_count, IsHistory, replay}
use Rattle.ec_book.specs.Views.{BookView, state_of, opening, given_nodes}

-- the tree's open leaves can be numbered so that they are just the free and taken pieces, each once and at its prefix, where the closed leaves hold at the value
abbrev pub ShowsPieces : BookView → Shape → Type 0
ShowsPieces b shape =
    (t : Numbered) × (shape ≡ plain t) × HasPieces t b.pieces (given_nodes b + b.spent)
    × NumberedTree (StandsAt b.loads b.order b.prefixes) (line_by b.rules b.loads b.slots) (value_of b.best) t (no_places b.loads) b.order

-- the tree is the given one with some tree in place of each of its open leaves
abbrev pub GrowsFrom : Shape → Shape → Type 0
GrowsFrom given shape = (f : ℕ → Shape) × (shape ≡ draw f (numbered 0 given))

-- what comes of a book: its best plan, its nodes and its log; and a tree that holds at the value, with as many open leaves as pieces are free or taken, of which it tells how many they are, and without
-- one a whole tree, which goes on from the tree that the search was given, at the open leaves of the part alone, and where it is told that the part is done, each of these is closed; the value is at most the given one, and the nodes that are spent are at most those that were allowed
pub record IsFinishedOf (b : BookView) (f : Finished) : Type 0 where
  pub best : f.best ≡ b.best
  pub legal : IsBestPlan b.loads b.slots f.best
  pub tree : IsPartialTree (line_by b.rules b.loads b.slots) (value_of b.best) (shape_of f.tree) (no_places b.loads) b.order
  pub closed : open_count (shape_of f.tree) ≡ 0 → IsTree (line_by b.rules b.loads b.slots) (value_of b.best) (shape_of f.tree) (no_places b.loads) b.order
  pub pieces : ShowsPieces b (shape_of f.tree)
  pub live : open_count (shape_of f.tree) ≡ live_count b.pieces
  pub left : f.left ≡ open_count (shape_of f.tree)
  pub spent : f.spent ≡ b.spent
  pub nodes : node_count (shape_of f.tree) ≡ given_nodes b + b.spent
  pub log : f.log ≡ b.log
  pub history : IsHistory b.nodes (opening b) f.log (state_of b)
  pub replayed : replay (opening b) f.log ≡ state_of b
  pub extends : GrowsFrom b.given (shape_of f.tree)
  pub others : LeavesOthers b.part b.given (shape_of f.tree)
  pub done : IsTrue f.done → ClosesPart b.part b.given (shape_of f.tree)
  pub falls : IsAtMost (value_of b.best) b.given_value
  pub within : f.spent ≤ b.nodes

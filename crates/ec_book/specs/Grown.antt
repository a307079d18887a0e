-- The tree that the reports made.
use Rattle.std.specs.Prelude.{◌≡◌, ℕ, zero, suc, ◌+◌, ◌<◌, List, [], ◌∷◌}
use Rattle.ec_loads.specs.Search.{open_count}
use Rattle.ec_cert.specs.Shapes.{shape_of}
use Rattle.ec_cert.specs.declared.tree.Tree.{Tree}
use Rattle.ec_loads.specs.Shape.{Shape, open_leaf}
use Rattle.ec_book.specs.declared.report.Report.{Report}
use Rattle.ec_book.specs.declared.piece.Piece.{Piece}
use Rattle.ec_book.specs.Steps.{live, live_count}
use Rattle.ec_book.specs.Numbered.{Numbered, numbered, plug, size, gaps, times}

-- each report in turn takes the place of its piece
abbrev pub grown : Numbered → List Report → Numbered
grown t [] = t
grown t (r ∷ rs) = grown (plug r.piece (numbered r.first (shape_of r.tree)) t) rs

-- the pieces are numbered as they come, from c on up to e
abbrev pub Chain : ℕ → List Report → ℕ → Type 0
Chain c [] e = c ≡ e
Chain c (r ∷ rs) e = (r.first ≡ c) × (r.piece < c) × Chain (c + open_count (shape_of r.tree)) rs e

-- the shape of the m-th tree; an open leaf where there is none
abbrev pub shape_at : List Tree → ℕ → Shape
shape_at [] m = open_leaf
shape_at (t ∷ ts) zero = shape_of t
shape_at (t ∷ ts) (suc m) = shape_at ts m

-- the tree has that many nodes, and its open leaves are the free and taken pieces, each once
pub record HasPieces (t : Numbered) (pieces : List Piece) (nodes : ℕ) : Type 0 where
  pub nodes_is : size t ≡ nodes
  pub open_is : (m : ℕ) → times m t ≡ live pieces m
  pub count_is : gaps t ≡ live_count pieces

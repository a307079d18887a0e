-- Trees and certificates as plain data, without where they lie in memory.
use Rattle.std.specs.Prelude.{ℕ, List, [], ◌∷◌, map, Option}
use Rattle.ec_loads.specs.Shape.{tick, full, average, weighted, merging, counted, grouped, Shape, split, leaf, open_leaf, Shapes, no_shapes, more}
use Rattle.ec_cert.specs.declared.tree.Tree.{Tree, fold-Tree}
use Rattle.ec_cert.specs.declared.tree.Tree.TheOpen.{Tree-F}
use Rattle.ec_cert.specs.declared.lists.UnitLine.{UnitLine}
use Rattle.ec_cert.specs.declared.cert.Best.{Best}
use Rattle.ec_cert.specs.declared.cert.Cert.{Cert}

abbrev pub shapes : List Shape → Shapes
shapes [] = no_shapes
shapes (s ∷ ss) = more s (shapes ss)

abbrev pub shape_step : Tree-F Shape → Shape
shape_step (Tree-F.Split trees) = split (shapes trees.value.items)
shape_step (Tree-F.TickLeaf t) = leaf (tick t)
shape_step (Tree-F.FullLeaf t s) = leaf (full t s)
shape_step Tree-F.Average = leaf average
shape_step (Tree-F.Weights w) = leaf (weighted w)
shape_step Tree-F.OpenLeaf = open_leaf
shape_step Tree-F.Merge = leaf merging
shape_step (Tree-F.Count p c) = leaf (counted p c)
shape_step (Tree-F.Groups pairs) = leaf (grouped pairs)

-- what a tree says
abbrev pub shape_of : Tree → Shape
shape_of = fold-Tree Shape shape_step

abbrev pub shapes_of : List Tree → Shapes
shapes_of trees = shapes (map shape_of trees)

-- what a certificate says
pub record CertView : Type 0 where
  pub version : ℕ
  pub slots : ℕ
  pub units : List UnitLine
  pub order : List ℕ
  pub best : Option Best
  pub level : Option ℕ
  pub tree : Shape

abbrev pub cert_view : Cert → CertView
cert_view c = record { version = c.version; slots = c.slots; units = c.units; order = c.order; best = c.best; level = c.level; tree = shape_of c.tree }

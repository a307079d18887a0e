-- A place in a text as plain data.
use Rattle.ec_cert_text.specs.declared.place.TextPlace.{TextPlace}
use Rattle.std.specs.Prelude.{ℕ, List, map}
use Rattle.ec_loads.specs.Shape.{Shape}
use Rattle.ec_cert.specs.declared.lists.UnitLine.{UnitLine}
use Rattle.ec_cert.specs.declared.tree.Tree.{Tree}
use Rattle.ec_cert.specs.Shapes.{shape_of}
use Rattle.ec_cert_text.specs.Reading.{At}

abbrev pub at_view : TextPlace → At
at_view p = record { line = p.line; rest = p.rest.now }

abbrev pub unit_view : List ℕ → ℕ → ℕ → UnitLine
unit_view name bytes period = record { name = name; bytes = bytes; period = period }

abbrev pub tree_views : List Tree → List Shape
tree_views trees = map shape_of trees

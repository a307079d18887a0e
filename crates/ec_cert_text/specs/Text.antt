-- The text of a certificate, line by line.
use Rattle.std.specs.Prelude.{ℕ, nat_le, if◌then◌else◌, List, [], ◌++◌, codes, Option, None, Some}
use Rattle.std.specs.List.{flat_map}
use Rattle.std.specs.Fmt.{decimal}
use Rattle.ec_units.specs.declared.slave.Place.{Place}
use Rattle.ec_loads.specs.declared.pair.Pair.{Pair}
use Rattle.ec_loads.specs.Shape.{Leaf, tick, full, average, weighted, merging, counted, grouped, Shape, split, leaf, open_leaf, Shapes, no_shapes, more, shape_count}
use Rattle.ec_cert.specs.declared.lists.UnitLine.{UnitLine}
use Rattle.ec_cert.specs.declared.cert.Best.{Best}
use Rattle.ec_cert.specs.Shapes.{CertView}

abbrev pub version_line : ℕ → List ℕ
version_line version = codes "ecplan " ++ (decimal version ++ codes "\n")

abbrev pub slots_line : ℕ → List ℕ
slots_line slots = codes "slots " ++ (decimal slots ++ codes "\n")

abbrev pub unit_line : UnitLine → List ℕ
unit_line u = codes "unit " ++ (u.name ++ (codes " " ++ (decimal u.bytes ++ (codes " " ++ (decimal u.period ++ codes "\n")))))

abbrev pub index_word : ℕ → List ℕ
index_word i = codes " " ++ decimal i

abbrev pub order_line : List ℕ → List ℕ
order_line order = codes "order" ++ (flat_map index_word order ++ codes "\n")

abbrev pub value_line : ℕ → List ℕ
value_line value = codes "value " ++ (decimal value ++ codes "\n")

abbrev pub place_line : Place → List ℕ
place_line p = codes "place " ++ (decimal p.phase ++ (codes " " ++ (decimal p.slot ++ codes "\n")))

-- the value and a place for each unit, or no value
abbrev pub best_lines : Option Best → List ℕ
best_lines None = codes "value none\n"
best_lines (Some b) = value_line b.busiest ++ flat_map place_line b.plan.places

-- the level, of a certificate that has one; from version 4 on a line says that there is none
abbrev pub level_line : ℕ → Option ℕ → List ℕ
level_line version None = if nat_le 4 version then codes "level none\n" else []
level_line version (Some level) = codes "level " ++ (decimal level ++ codes "\n")

abbrev pub split_line : ℕ → List ℕ
split_line count = codes "S " ++ (decimal count ++ codes "\n")

abbrev pub tick_line : ℕ → List ℕ
tick_line t = codes "T " ++ (decimal t ++ codes "\n")

abbrev pub full_line : ℕ → ℕ → List ℕ
full_line t s = codes "F " ++ (decimal t ++ (codes " " ++ (decimal s ++ codes "\n")))

abbrev pub weights_line : List ℕ → List ℕ
weights_line w = codes "W" ++ (flat_map index_word w ++ codes "\n")

abbrev pub count_line : ℕ → ℕ → List ℕ
count_line period bytes = codes "N " ++ (decimal period ++ (codes " " ++ (decimal bytes ++ codes "\n")))

-- a pair: how many groups, and their room
abbrev pub pair_words : Pair → List ℕ
pair_words pair = index_word pair.count ++ index_word pair.room

abbrev pub groups_line : List Pair → List ℕ
groups_line pairs = codes "G" ++ (flat_map pair_words pairs ++ codes "\n")

-- the line of a leaf, by what closes it
abbrev pub leaf_line : Leaf → List ℕ
leaf_line (tick t) = tick_line t
leaf_line (full t s) = full_line t s
leaf_line average = codes "A\n"
leaf_line (weighted w) = weights_line w
leaf_line merging = codes "M\n"
leaf_line (counted p c) = count_line p c
leaf_line (grouped pairs) = groups_line pairs

-- a line for each node, a node before its children
abbrev mutual
  pub node_lines : Shape → List ℕ
  node_lines (split ss) = split_line (shape_count ss) ++ row_lines ss
  node_lines (leaf l) = leaf_line l
  node_lines open_leaf = codes "O\n"

  pub row_lines : Shapes → List ℕ
  row_lines no_shapes = []
  row_lines (more s ss) = node_lines s ++ row_lines ss

abbrev pub tree_lines : Shape → List ℕ
tree_lines s = codes "tree\n" ++ (node_lines s ++ codes "end\n")

-- the whole text
abbrev pub certificate_text : CertView → List ℕ
certificate_text c =
    version_line c.version ++ (slots_line c.slots ++ (flat_map unit_line c.units ++ (order_line c.order ++ (best_lines c.best ++ (level_line c.version c.level ++ tree_lines c.tree)))))

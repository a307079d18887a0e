-- The line of a node as it is written, without its line feed.
use Rattle.std.specs.Prelude.{◌≡◌, ℕ, ◌≤◌, true, None, List, ◌∷◌, ◌++◌, codes}
use Rattle.std.specs.List.{flat_map}
use Rattle.std.specs.Fmt.{decimal}
use Rattle.ec_cert.specs.declared.kinds.Kinds.{Kinds}
use Rattle.ec_cert.specs.LeafKinds.{kinds_in}
use Rattle.ec_cert.specs.WellFormed.{AreWeights, IsCountLine, ArePairs}
use Rattle.ec_cert_text.specs.Text.{index_word, pair_words}
use Rattle.ec_cert_text.specs.declared.nodes.Node.{Node}
use Rattle.ec_cert_text.specs.declared.nodes.Node.TheVariants as node

abbrev pub node_words : Node → List ℕ
node_words (node.Split n) = codes "S " ++ decimal n
node_words (node.TickLeaf t) = codes "T " ++ decimal t
node_words (node.FullLeaf t s) = codes "F " ++ (decimal t ++ 32 ∷ decimal s)
node_words node.Average = codes "A"
node_words (node.Weights w) = codes "W" ++ flat_map index_word w
node_words node.OpenLeaf = codes "O"
node_words node.Merge = codes "M"
node_words (node.Count p c) = codes "N " ++ (decimal p ++ 32 ∷ decimal c)
node_words (node.Groups pairs) = codes "G" ++ flat_map pair_words pairs

-- its numbers are within the ranges of their words, and there may be leaves of its kind
abbrev pub NodeFits : Kinds → Node → Type 0
NodeFits kinds (node.Split n) = (1 ≤ n) × (n ≤ 480)
NodeFits kinds (node.TickLeaf t) = t ≤ 1023
NodeFits kinds (node.FullLeaf t s) = (t ≤ 1023) × (s ≤ 7)
NodeFits kinds node.Average = Unit {0}
NodeFits kinds (node.Weights w) = (kinds.weights ≡ true) × AreWeights w
NodeFits kinds node.OpenLeaf = kinds.left_open ≡ true
NodeFits kinds node.Merge = kinds.rooms ≡ true
NodeFits kinds (node.Count p c) = (kinds.rooms ≡ true) × IsCountLine p c
NodeFits kinds (node.Groups pairs) = (kinds.rooms ≡ true) × ArePairs pairs

-- the kinds of leaf that every version has
abbrev pub plain_kinds : Kinds
plain_kinds = kinds_in 1 None

-- a text that begins with the line of a node, of a kind that every version has, and what comes after it
abbrev pub BeginsWithNode : List ℕ → Node → List ℕ → Type 0
BeginsWithNode text h rest = NodeFits plain_kinds h × (text ≡ node_words h ++ 10 ∷ rest)

use Rattle.std.proofs.Common.{ap, refl, ◌∙◌, inl, inr}
use Rattle.ec_loads.specs.Shape.{tick, full, average, weighted, merging, counted, grouped}
use Rattle.ec_cert.specs.Shapes.{shape_of}
use Rattle.ec_cert.proofs.TreeLemmas.{shape_of-Split, shape_of-Merge, shape_of-Count, shape_of-Groups}
use Rattle.ec_book.proofs.DrawLemmas.{shape_of-TickLeaf, shape_of-FullLeaf, shape_of-Average, shape_of-Weights, shape_of-OpenLeaf, open_not_closed, split_not_closed}
use Rattle.ec_book.proofs.tree.is_closed_leaf.Goals as goal

pub returns-in-TickLeaf : goal.returns-in-TickLeaf
returns-in-TickLeaf c = (λ _. (tick c.in-TickLeaf.field-0, ap shape_of c.in-TickLeaf.is ∙ shape_of-TickLeaf c.in-TickLeaf.field-0), λ _. refl)

pub returns-in-FullLeaf : goal.returns-in-FullLeaf
returns-in-FullLeaf c = (λ _. (full c.in-FullLeaf.field-0 c.in-FullLeaf.field-1, ap shape_of c.in-FullLeaf.is ∙ shape_of-FullLeaf c.in-FullLeaf.field-0 c.in-FullLeaf.field-1), λ _. refl)

pub returns-in-Weights : goal.returns-in-Weights
returns-in-Weights c = (λ _. (weighted c.in-Weights.field-0, ap shape_of c.in-Weights.is ∙ shape_of-Weights c.in-Weights.field-0), λ _. refl)

pub returns-in-Average : goal.returns-in-Average
returns-in-Average c = (λ _. (average, ap shape_of c.in-Average.is ∙ shape_of-Average), λ _. refl)

pub returns-in-Merge : goal.returns-in-Merge
returns-in-Merge c = (λ _. (merging, ap shape_of c.in-Merge.is ∙ shape_of-Merge), λ _. refl)

pub returns-in-Count : goal.returns-in-Count
returns-in-Count c = (λ _. (counted c.in-Count.period c.in-Count.bytes, ap shape_of c.in-Count.is ∙ shape_of-Count c.in-Count.period c.in-Count.bytes), λ _. refl)

pub returns-in-Groups : goal.returns-in-Groups
returns-in-Groups c = (λ _. (grouped c.in-Groups.field-0, ap shape_of c.in-Groups.is ∙ shape_of-Groups c.in-Groups.field-0), λ _. refl)

pub returns-in-OpenLeaf : goal.returns-in-OpenLeaf
returns-in-OpenLeaf c = elim c.in-OpenLeaf.is [
  | inl is ↦ open_not_closed c.args.tree.now (ap shape_of is ∙ shape_of-OpenLeaf)
  | inr split ↦ split_not_closed c.args.tree.now _ (ap shape_of split.1 ∙ shape_of-Split split.0)
]

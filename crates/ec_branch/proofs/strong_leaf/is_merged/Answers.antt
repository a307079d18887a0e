use Rattle.std.proofs.Common.{◌∙◌, arith}
use Rattle.ec_branch.proofs.RoomLeafLemmas.{merged_new, merged_before}
use Rattle.ec_branch.proofs.strong_leaf.is_merged.Goals as goal

pub returns-then-place-gt0 : goal.returns-then-place-gt0
returns-then-place-gt0 c =
    λ _ u free.
    (c.in-Some.least, c.in-Some.is, omega (arith, c.if-least-gt-MOST_MERGED.false), merged_new c.args.loads.now.places u c.args.place free (omega (arith, c.if-place-gt0.true)))

pub returns-then-above : goal.returns-then-above
returns-then-above c =
    λ yes u free.
    let holds = c.merge_bound.ensures.0 yes in
    (holds.0, c.in-Some.is ∙ holds.1, holds.2, merged_before c.args.loads.now.places u c.args.place free holds.3)

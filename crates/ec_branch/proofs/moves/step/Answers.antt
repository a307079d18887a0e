use Rattle.std.proofs.Common.{length, ◌<◌, sym, subst, ◌∙◌, arith}
use Rattle.ec_branch.proofs.FirstLemmas.{moved}
use Rattle.ec_branch.proofs.moves.step.Goals as goal

pub returns-clause-placed : goal.returns-clause-placed
returns-clause-placed c =
    moved c.args.loads.now c.remove.new.self c.place.new.self c.below-unit.result c.next_place-place.result c.loads-2.result.now _ c.remove.ensures c.place.ensures c.loads-2.ensures.value
    (subst (λ w. c.below-unit.result < length w) (c.loads.ensures.value ∙ sym c.loads-2.ensures.value) c.below-unit.ensures.below)
    c.next_place-place.ensures.phase (omega (arith, c.next_place-place.ensures.slot, c.requires.width)) c.requires.placed

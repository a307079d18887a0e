use Rattle.std.proofs.Common.{◌<◌, sym, subst, arith}
use Rattle.ec_bounds.proofs.HeldLemmas.{flags_count}
use Rattle.ec_branch.proofs.StackLemmas.{no_levels, within_less, within_unit, within_end}
use Rattle.ec_branch.proofs.walk.undo.Goals as goal

pub take_back-requires-clause-unit : goal.take_back-requires-clause-unit
take_back-requires-clause-unit c =
    let at = c.loop-level.invariant c.requires.0 c.requires.1 c.requires.2 in
    within_unit c.requires.0 c.requires.1 c.loop-level.levels.items c.pop.new.self.items c.in-Some.level c.loop-level.loads c.loop-level.rest at c.in-Some.ensures.items

pub take_back-requires-clause-flag : goal.take_back-requires-clause-flag
take_back-requires-clause-flag c =
    let at = c.loop-level.invariant c.requires.0 c.requires.1 c.requires.2 in
    subst (λ w. c.in-Some.level.unit < w) (sym (flags_count c.loop-level.loads c.loop-level.rest at.rest))
    (within_unit c.requires.0 c.requires.1 c.loop-level.levels.items c.pop.new.self.items c.in-Some.level c.loop-level.loads c.loop-level.rest at c.in-Some.ensures.items)

pub loop-level-preserved : goal.loop-level-preserved
loop-level-preserved c =
    λ rules task first.
    within_less rules task c.loop-level.levels.items c.pop.new.self.items c.in-Some.level c.loop-level.loads c.take_back.new.loads c.loop-level.rest c.take_back.new.rest
    (c.loop-level.invariant rules task first) c.in-Some.ensures.items c.take_back.ensures.loads c.take_back.ensures.rest

pub returns : goal.returns
returns c =
    λ rules task first.
    within_end rules task c.loop-level.levels.items c.loop-level.loads c.loop-level.rest (c.loop-level.invariant rules task first)
    (no_levels c.loop-level.levels.items (omega (arith, c.loop-level.levels.ok.0, c.in_default.ensures.cases.0)))

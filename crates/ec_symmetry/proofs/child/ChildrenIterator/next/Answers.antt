use Rattle.std.proofs.Common.{◌+◌, ◌<◌, ◌∙◌, sym, arith, rules}
use Rattle.ec_symmetry.proofs.ChoiceLemmas.{step_slot, step_phase}
use Rattle.ec_symmetry.proofs.child.ChildrenIterator.next.Goals as goal

pub returns-then-self-clause-steps : goal.returns-then-self-clause-steps
returns-then-self-clause-steps c =
    let s = c.self.inside in
    sym c.self.view_is ∙ step_phase s.width s.phase s.slot s.phases c.if-self-eq0.false c.if-self.true

pub returns-then-self-clause-goes : goal.returns-then-self-clause-goes
returns-then-self-clause-goes c =
    let s = c.self.inside in
    let steps = sym c.self.view_is ∙ step_phase s.width s.phase s.slot s.phases c.if-self-eq0.false c.if-self.true in
    search rules

pub returns-else-self-clause-steps : goal.returns-else-self-clause-steps
returns-else-self-clause-steps c =
    let s = c.self.inside in
    sym c.self.view_is ∙ step_slot s.width s.phase s.slot s.phases c.if-self-eq0.false (omega arith)

pub returns-else-self-clause-goes : goal.returns-else-self-clause-goes
returns-else-self-clause-goes c =
    let s = c.self.inside in
    let below : s.slot + 1 < s.width = omega arith in
    let steps = sym c.self.view_is ∙ step_slot s.width s.phase s.slot s.phases c.if-self-eq0.false below in
    search rules

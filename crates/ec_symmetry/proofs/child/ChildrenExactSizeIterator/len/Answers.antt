use Rattle.std.proofs.Common.{◌+◌, ◌*◌, ◌∙◌, sym, ap, length}
use Rattle.ec_symmetry.proofs.ChoiceLemmas.{count_left}
use Rattle.ec_symmetry.proofs.child.ChildrenExactSizeIterator.len.Goals as goal

pub returns-clause-value : goal.returns-clause-value
returns-clause-value c =
    let s = c.self.inside in
    (λ j. c.from.ensures j + c.from-2.ensures j * c.from-3.ensures j)
    ∙ sym (count_left s.width s.phase s.slot s.phases c.if-self-eq0.false)
    ∙ ap length c.self.view_is

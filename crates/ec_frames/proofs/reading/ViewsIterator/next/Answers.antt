use Rattle.std.proofs.Common.{◌∙◌, sym, arith, rules}
use Rattle.ec_frames.proofs.ParsingSteps.{entries_step, entries_none, entries_of_none}
use Rattle.ec_frames.proofs.reading.ViewsIterator.next.Goals as goal

pub returns-in-Ok-clause-steps : goal.returns-in-Ok-clause-steps
returns-in-Ok-clause-steps c = sym c.self.view_is ∙ entries_step _ _ (sym c.in-Ok.ensures.read)

pub returns-in-Ok-clause-goes : goal.returns-in-Ok-clause-goes
returns-in-Ok-clause-goes c =
    let step = sym c.self.view_is ∙ entries_step _ _ (sym c.in-Ok.ensures.read) in
    search (rules, step, arith)

pub returns-in-Err-clause-steps : goal.returns-in-Err-clause-steps
returns-in-Err-clause-steps c = (sym c.self.view_is ∙ entries_none _ _ (sym c.in-Err.ensures.read), entries_of_none)

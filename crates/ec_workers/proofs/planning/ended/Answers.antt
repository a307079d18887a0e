use Rattle.std.proofs.Common.{rules}
use Rattle.ec_outcome.specs.declared.search.Cut.TheVariants as cut
use Rattle.ec_workers.specs.Answers.{asked_beyond}
use Rattle.ec_workers.proofs.AnswerLemmas.{beyond, keeps-of}
use Rattle.ec_workers.proofs.planning.ended.Goals as goal

pub returns-then-left-eq0-clause-outcome : goal.returns-then-left-eq0-clause-outcome
returns-then-left-eq0-clause-outcome c = c.proved.ensures.outcome (asked_beyond c.args.strong 1 c.args.nodes c.args.book.given c.args.book.part.count)

pub returns-then-left-eq0-clause-beyond : goal.returns-then-left-eq0-clause-beyond
returns-then-left-eq0-clause-beyond c = beyond c.args.book c.in-Ok.finished c.args.nodes c.proved.result c.in-Ok.ensures.ok c.requires.nodes c.proved.ensures.tree c.proved.ensures.value

pub returns-then-left-eq0-clause-others : goal.returns-then-left-eq0-clause-others
returns-then-left-eq0-clause-others c = keeps-of c.args.book c.in-Ok.finished c.proved.result c.in-Ok.ensures.ok c.proved.ensures.tree (λ why. absurd (c.proved.ensures.uncut cut.Parts why))

pub proved-requires-clause-found : goal.proved-requires-clause-found
proved-requires-clause-found c = search rules

use Rattle.std.proofs.Common.{rules}
use Rattle.ec_outcome.specs.Searched.{searched_by}
use Rattle.ec_outcome.specs.declared.search.Cut.TheVariants as cut
use Rattle.ec_workers.specs.Answers.{asked_beyond}
use Rattle.ec_workers.proofs.AnswerLemmas.{crew-beyond, crew-keeps}
use Rattle.ec_workers.proofs.crewed.outcome_of.Goals as goal

pub returns-then-left-eq0-clause-outcome : goal.returns-then-left-eq0-clause-outcome
returns-then-left-eq0-clause-outcome c = λ workers given value many crewed. c.proved.ensures.outcome (asked_beyond c.args.strong workers c.args.nodes given c.args.part.count)

pub returns-then-left-eq0-clause-beyond : goal.returns-then-left-eq0-clause-beyond
returns-then-left-eq0-clause-beyond c = λ given value crewed. crew-beyond c.args.units.now.units c.args.units.now.slots c.args.order (searched_by c.args.strong) given value c.args.nodes c.args.part c.args.crewed.finished c.proved.result crewed c.proved.ensures.tree c.proved.ensures.value

pub returns-then-left-eq0-clause-others : goal.returns-then-left-eq0-clause-others
returns-then-left-eq0-clause-others c = λ given value crewed. crew-keeps c.args.units.now.units c.args.units.now.slots c.args.order (searched_by c.args.strong) given value c.args.nodes c.args.part c.args.crewed.finished c.proved.result crewed c.proved.ensures.tree (λ why. absurd (c.proved.ensures.uncut cut.Parts why))

pub proved-requires-clause-found : goal.proved-requires-clause-found
proved-requires-clause-found c = search rules

use Rattle.std.proofs.Common.{ap, subst}
use Rattle.ec_book.specs.Steps.{PiecesState, IsHistory}
use Rattle.ec_book.specs.Views.{state_of, opening}
use Rattle.ec_book.proofs.law.law_empty_logs_spend_nothing.Goals as goal

pub returns : goal.returns
returns c = λ b past none. ap (λ (s : PiecesState). s.spent) (subst (λ w. IsHistory b.nodes (opening b) w (state_of b)) none past)

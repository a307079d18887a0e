use Rattle.std.proofs.Common.{rules}
use Rattle.std.proofs.lemmas.Fn.{filter_same}
use Rattle.ec_book_shared.proofs.receipts.follow.Goals as goal

pub returns-in-Reported : goal.returns-in-Reported
returns-in-Reported c = rw c.in-Reported.is (filter_same _ _ _ (λ x b f' k. search rules) _ _ c.retain.ensures.filtered)

pub returns-in-Back : goal.returns-in-Back
returns-in-Back c = rw c.in-Back.is (filter_same _ _ _ (λ x b f' k. search rules) _ _ c.retain-in-Back.ensures.filtered)

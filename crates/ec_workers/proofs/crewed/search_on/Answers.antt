use Rattle.std.proofs.Common.{ℕ, List, subst, sym, arith}
use Rattle.ec_cert.specs.declared.part.Part.{Part}
use Rattle.ec_search_threads.specs.IsCrewed.{IsCrewed}
use Rattle.ec_outcome.specs.Searched.{searched_by}
use Rattle.ec_workers.specs.Answers.{asked_beyond, IsOutcome, KeepsToPart}
use Rattle.ec_workers.proofs.crewed.search_on.Goals as goal

pub returns-in-Ok-clause-outcome : goal.returns-in-Ok-clause-outcome
returns-in-Ok-clause-outcome g c =
    let few = c.requires.workers.0 in
    let Made : Part → List ℕ → ℕ → Type 0 = λ p w k. IsCrewed c.args.units.now.units c.args.units.now.slots w (searched_by c.args.strong) c.args.book.given c.args.book.given_value k p c.in-Ok.crewed.finished in
    let Says : Part → Type 0 = λ p. IsOutcome c.args.units.now.units c.args.units.now.slots (asked_beyond c.args.strong c.args.workers c.args.nodes c.args.book.given p.count) c.outcome_of.result in
    subst Says c.part-part.ensures.value (c.outcome_of.ensures.outcome c.args.workers c.args.book.given c.args.book.given_value (omega (arith, few))
    (subst (λ p. Made p c.new-order.result c.args.nodes) (sym c.part-part.ensures.value) (subst (λ w. Made c.args.book.part w c.args.nodes) (sym c.new-order.ensures) (subst (λ w. Made c.args.book.part w c.args.nodes) c.as_slice.ensures.value (subst (λ k. Made c.args.book.part c.as_slice.result.now k) c.requires.nodes (subst (λ r. IsCrewed c.args.units.now.units c.args.units.now.slots c.as_slice.result.now r c.args.book.given c.args.book.given_value c.args.book.nodes c.args.book.part c.in-Ok.crewed.finished) c.requires.book.rules_is c.in-Ok.ensures))))))

pub returns-in-Ok-clause-beyond : goal.returns-in-Ok-clause-beyond
returns-in-Ok-clause-beyond g c =
    let Made : Part → List ℕ → ℕ → Type 0 = λ p w k. IsCrewed c.args.units.now.units c.args.units.now.slots w (searched_by c.args.strong) c.args.book.given c.args.book.given_value k p c.in-Ok.crewed.finished in
    c.outcome_of.ensures.beyond c.args.book.given c.args.book.given_value
    (subst (λ p. Made p c.new-order.result c.args.nodes) (sym c.part-part.ensures.value) (subst (λ w. Made c.args.book.part w c.args.nodes) (sym c.new-order.ensures) (subst (λ w. Made c.args.book.part w c.args.nodes) c.as_slice.ensures.value (subst (λ k. Made c.args.book.part c.as_slice.result.now k) c.requires.nodes (subst (λ r. IsCrewed c.args.units.now.units c.args.units.now.slots c.as_slice.result.now r c.args.book.given c.args.book.given_value c.args.book.nodes c.args.book.part c.in-Ok.crewed.finished) c.requires.book.rules_is c.in-Ok.ensures)))))

pub returns-in-Ok-clause-others : goal.returns-in-Ok-clause-others
returns-in-Ok-clause-others g c =
    let Made : Part → List ℕ → ℕ → Type 0 = λ p w k. IsCrewed c.args.units.now.units c.args.units.now.slots w (searched_by c.args.strong) c.args.book.given c.args.book.given_value k p c.in-Ok.crewed.finished in
    subst (λ (p : Part). KeepsToPart p c.args.book.given c.outcome_of.result) c.part-part.ensures.value (c.outcome_of.ensures.others c.args.book.given c.args.book.given_value
    (subst (λ p. Made p c.new-order.result c.args.nodes) (sym c.part-part.ensures.value) (subst (λ w. Made c.args.book.part w c.args.nodes) (sym c.new-order.ensures) (subst (λ w. Made c.args.book.part w c.args.nodes) c.as_slice.ensures.value (subst (λ k. Made c.args.book.part c.as_slice.result.now k) c.requires.nodes (subst (λ r. IsCrewed c.args.units.now.units c.args.units.now.slots c.as_slice.result.now r c.args.book.given c.args.book.given_value c.args.book.nodes c.args.book.part c.in-Ok.crewed.finished) c.requires.book.rules_is c.in-Ok.ensures))))))

-- A piece that was given back or reported isn't held any more.
use Rattle.std.proofs.Common.{◌≡◌, ℕ, ◌==◌, true, false, List, [], ◌∷◌, ◌++◌, refl}
use Rattle.std.specs.List.{list_any}
use Rattle.ec_book.specs.declared.step.Step.{Step}
use Rattle.ec_book.specs.declared.step.Step.TheVariants.{Reported, Back}
use Rattle.ec_book_shared.specs.Receipts.{held_of, held_without, holds}
use Rattle.ec_book_shared.proofs.Holding.{held_of_push}

none_left : (held : List ℕ) (piece : ℕ) → list_any (λ p. p == piece) (held_without held piece) ≡ false
none_left [] piece = refl
none_left (p ∷ held) piece =
    let rest = none_left held piece in
    elim (p == piece) as (λ b. (p == piece) ≡ b → list_any (λ q. q == piece) (held_without (p ∷ held) piece) ≡ false) [ true ↦ λ is. rw is rest | false ↦ λ is. rw (is, is) rest ] refl

pub back_leaves : (es : List Step) (w piece : ℕ) → holds (es ++ (Back w piece) ∷ []) piece ≡ false
back_leaves es w piece = rw (held_of_push es (Back w piece)) (none_left (held_of es) piece)

pub report_leaves : (es : List Step) (w piece k first count : ℕ) → holds (es ++ (Reported w piece k first count) ∷ []) piece ≡ false
report_leaves es w piece k first count = rw (held_of_push es (Reported w piece k first count)) (none_left (held_of es) piece)

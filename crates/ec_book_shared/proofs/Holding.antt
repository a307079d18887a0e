-- The pieces that a worker holds, step by step.
use Rattle.std.proofs.Common.{◌≡◌, ℕ, ◌+◌, ◌≤◌, ◌==◌, true, false, List, [], ◌∷◌, ◌++◌, length, refl, arith}
use Rattle.std.specs.List.{list_any}
use Rattle.ec_book.specs.declared.step.Step.{Step}
use Rattle.ec_book_shared.specs.Receipts.{held_after, held_from, held_of, held_without}

held-push : (held : List ℕ) (es : List Step) (e : Step) → held_from held (es ++ e ∷ []) ≡ held_after (held_from held es) e
held-push held [] e = refl
held-push held (x ∷ es) e = held-push (held_after held x) es e

pub held_of_push : (es : List Step) (e : Step) → held_of (es ++ e ∷ []) ≡ held_after (held_of es) e
held_of_push es e = held-push [] es e

pub at_most : (held : List ℕ) (piece : ℕ) → length (held_without held piece) ≤ length held
at_most [] piece = omega arith
at_most (p ∷ held) piece = let rest = at_most held piece in elim (p == piece) as (λ b. (p == piece) ≡ b → length (held_without (p ∷ held) piece) ≤ length (p ∷ held)) [ true ↦ λ is. rw is (omega (arith, rest)) | false ↦ λ is. rw is (omega (arith, rest)) ] refl

pub fewer : (held : List ℕ) (piece : ℕ) → list_any (λ p. p == piece) held ≡ true → length (held_without held piece) + 1 ≤ length held
fewer [] piece h = absurd (cc)
fewer (p ∷ held) piece h =
    let rest = fewer held piece in
    let most = at_most held piece in
    (elim (p == piece) as (λ b. (p == piece) ≡ b → length (held_without (p ∷ held) piece) + 1 ≤ length (p ∷ held)) [ true ↦ λ is. rw is (omega (arith, most)) | false ↦ λ is. rw is (let more = rest (rw is at h) in omega (arith, more)) ]) refl

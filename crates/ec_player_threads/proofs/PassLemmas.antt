-- One frame more passes a slave.
use Rattle.std.proofs.Common.{◌≡◌, List, [], ◌∷◌, ◌++◌, refl, ap}
use Rattle.ec_slave.specs.Journey.{outs, final}

pub outs-push : {X F : Type 0} (out : X → F → F) (next : X → F → X) (s : X) (xs : List F) (x : F) → outs out next s (xs ++ x ∷ []) ≡ outs out next s xs ++ out (final out next s xs) x ∷ []
outs-push out next s [] x = refl
outs-push out next s (y ∷ xs) x = ap (λ ys. out s y ∷ ys) (outs-push out next (next s y) xs x)

pub final-push : {X F : Type 0} (out : X → F → F) (next : X → F → X) (s : X) (xs : List F) (x : F) → final out next s (xs ++ x ∷ []) ≡ next (final out next s xs) x
final-push out next s [] x = refl
final-push out next s (y ∷ xs) x = final-push out next (next s y) xs x

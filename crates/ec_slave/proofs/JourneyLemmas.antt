-- Slave by slave is frame by frame.
use Rattle.std.proofs.Common.{◌≡◌, List, [], ◌∷◌, refl, ap, ◌∙◌}
use Rattle.ec_slave.specs.Journey.{through, passed, journey, arrived, outs, final, line_outs, line_finals}

outs-none : {S F : Type 0} (out : S → F → F) (next : S → F → S) (ss : List S) → line_outs out next ss [] ≡ []
outs-none out next [] = refl
outs-none out next (s ∷ ss) = outs-none out next ss

outs-first : {S F : Type 0} (out : S → F → F) (next : S → F → S) (ss : List S) (x : F) (xs : List F) → line_outs out next ss (x ∷ xs) ≡ through out next ss x ∷ line_outs out next (passed out next ss x) xs
outs-first out next [] x xs = refl
outs-first out next (s ∷ ss) x xs = outs-first out next ss (out s x) (outs out next (next s x) xs)

pub frames_alike : {S F : Type 0} (out : S → F → F) (next : S → F → S) (ss : List S) (xs : List F) → line_outs out next ss xs ≡ journey out next ss xs
frames_alike out next ss [] = outs-none out next ss
frames_alike out next ss (x ∷ xs) = outs-first out next ss x xs ∙ ap (λ ys. through out next ss x ∷ ys) (frames_alike out next (passed out next ss x) xs)

finals-none : {S F : Type 0} (out : S → F → F) (next : S → F → S) (ss : List S) → line_finals out next ss [] ≡ ss
finals-none out next [] = refl
finals-none out next (s ∷ ss) = ap (λ rest. s ∷ rest) (finals-none out next ss)

finals-first : {S F : Type 0} (out : S → F → F) (next : S → F → S) (ss : List S) (x : F) (xs : List F) → line_finals out next ss (x ∷ xs) ≡ line_finals out next (passed out next ss x) xs
finals-first out next [] x xs = refl
finals-first out next (s ∷ ss) x xs = ap (λ rest. final out next (next s x) xs ∷ rest) (finals-first out next ss (out s x) (outs out next (next s x) xs))

pub slaves_alike : {S F : Type 0} (out : S → F → F) (next : S → F → S) (ss : List S) (xs : List F) → line_finals out next ss xs ≡ arrived out next ss xs
slaves_alike out next ss [] = finals-none out next ss
slaves_alike out next ss (x ∷ xs) = finals-first out next ss x xs ∙ slaves_alike out next (passed out next ss x) xs

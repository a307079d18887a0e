use Rattle.std.proofs.Common.{◌≡◌, ℕ, suc, ◌-◌, ◌<◌, List, [], ◌∷◌, ◌++◌, length, replicate, ap, sym, subst, ◌∙◌, arith, append_assoc, length-append}
use Rattle.ec_frames.specs.Written.{padded}
use Rattle.ec_frames.proofs.writing.pad.Goals as goal

padded_more : (xs : List ℕ) → length xs < 60 → padded (xs ++ 0 ∷ []) ≡ padded xs
padded_more xs h =
    let less : 60 - length xs ≡ suc (60 - length (xs ++ 0 ∷ [])) = omega (arith, length-append xs (0 ∷ [])) in
    append_assoc xs (0 ∷ []) (replicate (60 - length (xs ++ 0 ∷ [])) 0) ∙ ap (λ n. xs ++ replicate n 0) (sym less)

pub loop-frame-preserved : goal.loop-frame-preserved
loop-frame-preserved c =
    ap padded c.push.ensures.items ∙ padded_more c.loop-frame.frame.items (subst (λ n. n < 60) c.len.ensures.value c.loop-frame-test.true) ∙ c.loop-frame.invariant

-- A history goes on by one step.
use Rattle.std.proofs.Common.{◌≡◌, ℕ, zero, suc, ◌+◌, ◌≤◌, Bool, true, List, [], ◌∷◌, ◌++◌, length, set, slice_get, replicate, Option, Some, None, refl, sym, ap, ◌∙◌, subst, arith, inl, inr, ◌⊎◌}
use Rattle.ec_loads.specs.Search.{IsAtMost}
use Rattle.ec_book.specs.Views.{BookView, ours}
use Rattle.ec_book.specs.Kept.{NoneFreeBelow}
use Rattle.ec_book.specs.Faults.{HasNothing}
use Rattle.ec_book.specs.Laws.{HasNoneLeft}
use Rattle.ec_book.specs.declared.step.Step.{Step}
use Rattle.ec_book.specs.declared.step.Step.TheVariants.{Took, Reported, Better, Back}
use Rattle.ec_book.specs.declared.piece.Piece.{Piece}
use Rattle.ec_book.specs.declared.piece.Piece.TheVariants.{Free, Taken, Ended}
use Rattle.ec_book.specs.Steps.{PiecesState, PiecesStep, IsHistory, IsBelow, after, replay, granted, grant_of, taken_count, taken_one, live}

pub history-push : (n : ℕ) (s : PiecesState) (es : List Step) (e : Step) (t u : PiecesState) → IsHistory n s es t → PiecesStep n t e u → IsHistory n s (es ++ e ∷ []) u
history-push n s [] e t u h step = (u, subst (λ w. PiecesStep n w e u) h step, refl)
history-push n s (x ∷ es) e t u h step = (h.0, h.1, history-push n h.0 es e t u h.2 step)

step-after : (n : ℕ) (s : PiecesState) (e : Step) (t : PiecesState) → PiecesStep n s e t → t ≡ after s e
step-after n s (Took w p g) t h = h.3
step-after n s (Reported w p k first count) t h = h.5
step-after n s (Better w v) t h = h.1
step-after n s (Back w p) t h = h.2

-- a legal history replays to its last state
pub history-replays : (n : ℕ) (s : PiecesState) (es : List Step) (t : PiecesState) → IsHistory n s es t → replay s es ≡ t
history-replays n s [] t h = sym h
history-replays n s (e ∷ es) t h = ap (λ w. replay w es) (sym (step-after n s e h.0 h.1)) ∙ history-replays n h.0 es t h.2

at_most-same : (v : Option ℕ) → IsAtMost v v
at_most-same None = tt
at_most-same (Some b) = omega arith

at_most-trans : (a b c : Option ℕ) → IsAtMost a b → IsAtMost b c → IsAtMost a c
at_most-trans (Some x) (Some y) (Some z) h k = omega (arith, h, k)
at_most-trans (Some x) (Some y) None h k = tt
at_most-trans (Some x) None (Some z) h k = absurd k
at_most-trans (Some x) None None h k = tt
at_most-trans None (Some y) c h k = absurd h
at_most-trans None None c h k = k

below-at_most : (v : ℕ) (value : Option ℕ) → IsBelow v value → IsAtMost (Some v) value
below-at_most v None below = tt
below-at_most v (Some w) below = omega (arith, below)

-- the value after a step is at most the one before it
step-falls : (n : ℕ) (s : PiecesState) (e : Step) (t : PiecesState) → PiecesStep n s e t → IsAtMost t.value s.value
step-falls n s (Took w p g) t h = subst (λ (x : PiecesState). IsAtMost x.value s.value) (sym (step-after n s (Took w p g) t h)) (at_most-same s.value)
step-falls n s (Reported w p k first count) t h = subst (λ (x : PiecesState). IsAtMost x.value s.value) (sym (step-after n s (Reported w p k first count) t h)) (at_most-same s.value)
step-falls n s (Better w v) t h = subst (λ (x : PiecesState). IsAtMost x.value s.value) (sym (step-after n s (Better w v) t h)) (below-at_most v s.value h.0)
step-falls n s (Back w p) t h = subst (λ (x : PiecesState). IsAtMost x.value s.value) (sym (step-after n s (Back w p) t h)) (at_most-same s.value)

-- a legal history only lowers the value
pub history-falls : (n : ℕ) (s : PiecesState) (es : List Step) (t : PiecesState) → IsHistory n s es t → IsAtMost t.value s.value
history-falls n s [] t h = subst (λ (x : PiecesState). IsAtMost x.value s.value) (sym h) (at_most-same s.value)
history-falls n s (e ∷ es) t h = at_most-trans t.value h.0.value s.value (history-falls n h.0 es t h.2) (step-falls n s e h.0 h.1)

pub granted-set : (ps : List Piece) (i : ℕ) (old new : Piece) → slice_get ps i ≡ Some old → granted (set ps i new) + grant_of old ≡ granted ps + grant_of new
granted-set [] i old new h = absurd (cc)
granted-set (p ∷ ps) zero old new h = let same : p ≡ old = cc in let one = ap grant_of same in omega (arith, one)
granted-set (p ∷ ps) (suc i) old new h = let rest = granted-set ps i old new h in omega (arith, rest)

pub granted-free : (ps : List Piece) (k : ℕ) → granted (ps ++ replicate k Free) ≡ granted ps
granted-free [] zero = refl
granted-free [] (suc k) = let rest = granted-free [] k in omega (arith, rest)
granted-free (p ∷ ps) k = ap (λ w. grant_of p + w) (granted-free ps k)

-- a piece holds no more than all of them
pub granted-le : (ps : List Piece) (i : ℕ) (old : Piece) → slice_get ps i ≡ Some old → grant_of old ≤ granted ps
granted-le ps i old h = let one = granted-set ps i old Free h in omega (arith, one)

pub taken-set : (ps : List Piece) (i : ℕ) (old new : Piece) → slice_get ps i ≡ Some old → taken_count (set ps i new) + taken_one old ≡ taken_count ps + taken_one new
taken-set [] i old new h = absurd (cc)
taken-set (p ∷ ps) zero old new h = let same : p ≡ old = cc in let one = ap taken_one same in omega (arith, one)
taken-set (p ∷ ps) (suc i) old new h = let rest = taken-set ps i old new h in omega (arith, rest)

pub taken-free : (ps : List Piece) (k : ℕ) → taken_count (ps ++ replicate k Free) ≡ taken_count ps
taken-free [] zero = refl
taken-free [] (suc k) = let rest = taken-free [] k in omega (arith, rest)
taken-free (p ∷ ps) k = ap (λ w. taken_one p + w) (taken-free ps k)

pub taken-le : (ps : List Piece) (i : ℕ) (old : Piece) → slice_get ps i ≡ Some old → taken_one old ≤ taken_count ps
taken-le ps i old h = let one = taken-set ps i old Free h in omega (arith, one)

-- where no piece is taken nothing is granted
pub granted-none : (ps : List Piece) → taken_count ps ≡ 0 → granted ps ≡ 0
granted-none [] h = refl
granted-none (Free ∷ ps) h = let rest = granted-none ps (omega (arith, h)) in omega (arith, rest)
granted-none (Ended ∷ ps) h = let rest = granted-none ps (omega (arith, h)) in omega (arith, rest)
granted-none (Taken w g ∷ ps) h = absurd (omega (arith, h))

-- none of these pieces is left where none of them is free and no piece is taken
live-none : (ours : ℕ → Bool) (ps : List Piece) → NoneFreeBelow ours ps (length ps) → taken_count ps ≡ 0 → (m : ℕ) → ours m ≡ true → live ps m ≡ 0
live-none ours [] free none m own = refl
live-none ours (Free ∷ ps) free none zero own = absurd (free 0 (omega arith) own refl)
live-none ours (Taken w g ∷ ps) free none zero own = absurd (omega (arith, none))
live-none ours (Ended ∷ ps) free none zero own = refl
live-none ours (p ∷ ps) free none (suc m) own = live-none (λ n. ours (suc n)) ps (λ n low yes e. free (suc n) (omega arith) yes e) (omega (arith, none)) m own

pub done-spent : (b : BookView) → b.spent ≤ b.nodes → HasNothing b → taken_count b.pieces ≡ 0 → HasNoneLeft b ⊎ (b.spent ≡ b.nodes)
done-spent b most (inl free) none = inl (live-none (ours b) b.pieces free none)
done-spent b most (inr left) none = let nothing = granted-none b.pieces none in inr (omega (arith, most, left, nothing))

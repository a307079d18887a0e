-- One of several deques loses a number.
use Rattle.std.proofs.Common.{◌≡◌, ℕ, zero, suc, ◌<◌, List, [], ◌∷◌, length, ap, ◌∙◌, arith, get_or, Option, Some, None}
use Rattle.std.specs.Prelude.{slice_set, MatchOption}
use Rattle.crossbeam_deque.specs.Handles.{view}
use Rattle.ec_search_queues.specs.declared.deques.Hand.{Hand}
use Rattle.ec_search_queues.specs.declared.deques.Other.{Other}
use Rattle.ec_search_queues.specs.Counted.{took, TakenFrom}
use Rattle.ec_search_queues.specs.Hands.{hands}

pub same_at : (xs : List Other) (i : ℕ) (now o : Other) → i < length xs → now ≡ get_or xs i now → view o.pass ≡ view now.pass → hands (slice_set xs i o) ≡ hands xs
same_at [] i now o lt at e = absurd (omega arith)
same_at (x ∷ xs) zero now o lt at e = ap (λ h. h ∷ hands xs) (e ∙ ap (λ (y : Other). view y.pass) at)
same_at (x ∷ xs) (suc i) now o lt at e = ap (λ hs. view x.pass ∷ hs) (same_at xs i now o (omega arith) at e)

pub taken_at : (xs : List Other) (i : ℕ) (now o : Other) (n : ℕ) → i < length xs → now ≡ get_or xs i now → view o.pass ≡ took (view now.pass) n → TakenFrom (hands xs) n (hands (slice_set xs i o))
taken_at [] i now o n lt at e = absurd (omega arith)
taken_at (x ∷ xs) zero now o n lt at e = (0, omega arith, ap (λ h. h ∷ hands xs) (e ∙ ap (λ (y : Other). took (view y.pass) n) at))
taken_at (x ∷ xs) (suc i) now o n lt at e =
    let rest = taken_at xs i now o n (omega arith) at e in
    (suc rest.0, omega (arith, rest.1), ap (λ hs. view x.pass ∷ hs) rest.2)

pub taken_later : (old new : List Hand) (h : Hand) (n : ℕ) → TakenFrom old n new → TakenFrom (h ∷ old) n (h ∷ new)
taken_later old new h n t = (suc t.0, omega (arith, t.1), ap (λ hs. h ∷ hs) t.2)

pub joined : (r : Option ℕ) (old new : List Hand) (h h' : Hand) → h' ≡ h → MatchOption r (new ≡ old) (λ n. TakenFrom old n new) → MatchOption r ((h' ∷ new) ≡ (h ∷ old)) (λ n. TakenFrom (h ∷ old) n (h' ∷ new))
joined None old new h h' e m = cc (e, m)
joined (Some n) old new h h' e m =
    let t = taken_later old new h n m in (t.0, t.1, ap (λ (x : Hand). x ∷ new) e ∙ t.2)

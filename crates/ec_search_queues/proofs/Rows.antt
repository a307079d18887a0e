-- Facts of each element of a list.
use Rattle.std.proofs.Common.{◌≡◌, ℕ, zero, suc, ◌<◌, List, [], ◌∷◌, ◌++◌, length, vec_len, All, arith, refl}
use Rattle.std.specs.List.{slice_index_or}
use Rattle.ec_search_queues.specs.Counted.{hand, AreNew}
use Rattle.ec_search_queues.specs.Hands.{hands, all_hands, IsFresh, IsNew}
use Rattle.ec_search_queues.specs.declared.deques.Hand.{Hand}
use Rattle.ec_search_queues.specs.declared.deques.Other.{Other}
use Rattle.ec_search_queues.specs.declared.deques.Deques.{Deques}

pub all_head : {X : Type 0} (P : X → Type 0) (x : X) (xs : List X) → All P (x ∷ xs) → P x
all_head P x xs all = all 0 x (omega arith)

pub all_tail : {X : Type 0} (P : X → Type 0) (x : X) (xs : List X) → All P (x ∷ xs) → All P xs
all_tail P x xs all = λ k d below. all (suc k) d (omega (arith, below))

pub all_push : {X : Type 0} (P : X → Type 0) (xs : List X) (x : X) → All P xs → P x → (k : ℕ) (d : X) → k < length (xs ++ x ∷ []) → P (slice_index_or (xs ++ x ∷ []) k d)
all_push P [] x h p zero d below = p
all_push P [] x h p (suc k) d below = absurd (omega (arith, below))
all_push P (y ∷ ys) x h p zero d below = h 0 y (omega arith)
all_push P (y ∷ ys) x h p (suc k) d below = all_push P ys x (all_tail P y ys h) p k d (omega (arith, below))

length_hands : (os : List Other) → length (hands os) ≡ length os
length_hands [] = refl
length_hands (o ∷ os) = let rest = length_hands os in omega arith

fresh_hands : (os : List Other) → All IsFresh os → (k : ℕ) (d : Hand) → k < length (hands os) → slice_index_or (hands os) k d ≡ hand [] []
fresh_hands [] h k d below = absurd (omega (arith, below))
fresh_hands (o ∷ os) h zero d below = h 0 o (omega arith)
fresh_hands (o ∷ os) h (suc k) d below = fresh_hands os (all_tail IsFresh o os h) k d (omega (arith, below))

new_hands : (own : Hand) (os : List Other) → own ≡ hand [] [] → All IsFresh os → (k : ℕ) (d : Hand) → k < length (own ∷ hands os) → slice_index_or (own ∷ hands os) k d ≡ hand [] []
new_hands own os same h zero d below = same
new_hands own os same h (suc k) d below = fresh_hands os h k d (omega (arith, below))

pub are_new_of : (n : ℕ) (t : Deques) → length t.others.items ≡ vec_len t.others → IsNew n t → AreNew n (all_hands t)
are_new_of n t len new = let l = length_hands t.others.items in (omega (arith, l, len, new.1), new_hands _ t.others.items new.0 new.2)

-- Some frames and then others.
use Rattle.std.proofs.Common.{◌≡◌, ℕ, suc, ◌+◌, List, [], ◌∷◌, ◌++◌, Option, Some, None, length, refl, ap, ◌∙◌, arith}
use Rattle.std.proofs.lemmas.List.{length-map, map-append}
use Rattle.ec_slave.specs.Journey.{through, passed, journey, arrived}
use Rattle.ec_slave.specs.Logical.{first_of}
use Rattle.ec_outcome.specs.declared.play.PlayFault.{PlayFault}
use Rattle.ec_player.specs.Sent.{Sent}
use Rattle.ec_player.specs.Faults.{fault_of, first_fault}
use Rattle.ec_player.specs.Lines.{bytes_of, came_back, slaves_after, AreRight}

pub journey-append : {S F : Type 0} (out : S → F → F) (next : S → F → S) (ss : List S) (xs ys : List F) → journey out next ss (xs ++ ys) ≡ journey out next ss xs ++ journey out next (arrived out next ss xs) ys
journey-append out next ss [] ys = refl
journey-append out next ss (x ∷ xs) ys = ap (λ w. through out next ss x ∷ w) (journey-append out next (passed out next ss x) xs ys)

arrived-append : {S F : Type 0} (out : S → F → F) (next : S → F → S) (ss : List S) (xs ys : List F) → arrived out next ss (xs ++ ys) ≡ arrived out next (arrived out next ss xs) ys
arrived-append out next ss [] ys = refl
arrived-append out next ss (x ∷ xs) ys = arrived-append out next (passed out next ss x) xs ys

length-journey : {S F : Type 0} (out : S → F → F) (next : S → F → S) (ss : List S) (xs : List F) → length (journey out next ss xs) ≡ length xs
length-journey out next ss [] = refl
length-journey out next ss (x ∷ xs) = ap suc (length-journey out next (passed out next ss x) xs)

first_of-assoc : {X : Type 0} (a b c : Option X) → first_of a (first_of b c) ≡ first_of (first_of a b) c
first_of-assoc None b c = refl
first_of-assoc (Some x) b c = refl

fault-append : (n : ℕ) (xs ys : List Sent) (bs cs : List (List ℕ)) → length bs ≡ length xs → first_fault n (xs ++ ys) (bs ++ cs) ≡ first_of (first_fault n xs bs) (first_fault (n + length xs) ys cs)
fault-append n [] ys [] cs h = ap (λ w. first_fault w ys cs) (omega arith)
fault-append n [] ys (b ∷ bs) cs h = absurd (omega (arith, h))
fault-append n (x ∷ xs) ys [] cs h = absurd (omega (arith, h))
fault-append n (x ∷ xs) ys (b ∷ bs) cs h =
    let e : n + 1 + length xs ≡ n + suc (length xs) = omega arith in
    ap (first_of (fault_of n x b)) (fault-append (n + 1) xs ys bs cs (omega (arith, h)) ∙ ap (λ w. first_of (first_fault (n + 1) xs bs) (first_fault w ys cs)) e)
    ∙ first_of-assoc (fault_of n x b) (first_fault (n + 1) xs bs) (first_fault (n + suc (length xs)) ys cs)

module _ {X : Type 0} (out : X → List ℕ → List ℕ) (next : X → List ℕ → X) where
  pub came-append : (slaves : List X) (xs ys : List Sent) → came_back out next slaves (xs ++ ys) ≡ came_back out next slaves xs ++ came_back out next (slaves_after out next slaves xs) ys
  came-append slaves xs ys = ap (journey out next slaves) (map-append (λ s. s.bytes) xs ys) ∙ journey-append out next slaves (bytes_of xs) (bytes_of ys)

  pub after-append : (slaves : List X) (xs ys : List Sent) → slaves_after out next slaves (xs ++ ys) ≡ slaves_after out next (slaves_after out next slaves xs) ys
  after-append slaves xs ys = ap (arrived out next slaves) (map-append (λ s. s.bytes) xs ys) ∙ arrived-append out next slaves (bytes_of xs) (bytes_of ys)

  pub length-came : (slaves : List X) (xs : List Sent) → length (came_back out next slaves xs) ≡ length xs
  length-came slaves xs = length-journey out next slaves (bytes_of xs) ∙ length-map xs (λ (s : Sent). s.bytes)

  -- the first fault of both is that of the first ones, or else that of the others
  pub faults-append : (slaves : List X) (n : ℕ) (xs ys : List Sent) → first_fault n (xs ++ ys) (came_back out next slaves (xs ++ ys))
      ≡ first_of (first_fault n xs (came_back out next slaves xs)) (first_fault (n + length xs) ys (came_back out next (slaves_after out next slaves xs) ys))
  faults-append slaves n xs ys =
      ap (first_fault n (xs ++ ys)) (came-append slaves xs ys)
      ∙ fault-append n xs ys (came_back out next slaves xs) (came_back out next (slaves_after out next slaves xs) ys) (length-came slaves xs)

  pub right-append : (slaves : List X) (n : ℕ) (xs ys : List Sent) → AreRight out next slaves n xs → AreRight out next (slaves_after out next slaves xs) (n + length xs) ys → AreRight out next slaves n (xs ++ ys)
  right-append slaves n xs ys h k = faults-append slaves n xs ys ∙ (λ i. first_of (h i) (k i))

  pub fault-first : (slaves : List X) (n : ℕ) (xs ys : List Sent) (f : PlayFault) → first_fault n xs (came_back out next slaves xs) ≡ Some f → first_fault n (xs ++ ys) (came_back out next slaves (xs ++ ys)) ≡ Some f
  fault-first slaves n xs ys f h =
      faults-append slaves n xs ys ∙ ap (λ w. first_of w (first_fault (n + length xs) ys (came_back out next (slaves_after out next slaves xs) ys))) h

  pub fault-later : (slaves : List X) (n : ℕ) (xs ys : List Sent) (f : PlayFault) → AreRight out next slaves n xs →
      first_fault (n + length xs) ys (came_back out next (slaves_after out next slaves xs) ys) ≡ Some f → first_fault n (xs ++ ys) (came_back out next slaves (xs ++ ys)) ≡ Some f
  fault-later slaves n xs ys f h k = faults-append slaves n xs ys ∙ (λ i. first_of (h i) (k i))

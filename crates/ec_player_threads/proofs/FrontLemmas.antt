-- Fronts of lists, and the first fault of frames of which not all came back.
use Rattle.std.proofs.Common.{◌≡◌, ℕ, suc, ◌+◌, ◌<◌, List, [], ◌∷◌, ◌++◌, Option, Some, None, length, map, drop, take, get_or, refl, sym, ap, ◌∙◌, arith, append_assoc}
use Rattle.std.proofs.Math.Seq.{drop-cons}
use Rattle.std.proofs.Math.ListN.{get_or-map}
use Rattle.std.proofs.lemmas.List.{length-map, take_more}
use Rattle.ec_slave.specs.Logical.{first_of}
use Rattle.ec_outcome.specs.declared.play.PlayFault.{PlayFault}
use Rattle.ec_player.specs.Sent.{Sent}
use Rattle.ec_player.specs.Faults.{fault_of, first_fault}
use Rattle.ec_player.specs.Lines.{bytes_of}

first_same : {A : Type 0} {x y : A} {xs ys : List A} → x ∷ xs ≡ y ∷ ys → x ≡ y
first_same e = cc

rest_same : {A : Type 0} {x y : A} {xs ys : List A} → x ∷ xs ≡ y ∷ ys → xs ≡ ys
rest_same e = cc

none_there : {A : Type 0} {B : Type 0} (x : A) (xs : List A) → [] ≡ x ∷ xs → B
none_there x xs e = cc

-- two lists of which the fronts have one length
pub parts_same : {A : Type 0} (a b c d : List A) → length a ≡ length c → a ++ b ≡ c ++ d → (a ≡ c) × (b ≡ d)
parts_same [] b [] d l e = (refl, e)
parts_same [] b (y ∷ c) d l e = absurd (omega (arith, l))
parts_same (x ∷ a) b [] d l e = absurd (omega (arith, l))
parts_same (x ∷ a) b (y ∷ c) d l e =
    let both = parts_same a b c d (omega (arith, l)) (rest_same e) in
    ((λ i. first_same e i ∷ both.0 i), both.1)

-- ---- the first fault

none_parts : (a b : Option PlayFault) → first_of a b ≡ None → (a ≡ None) × (b ≡ None)
none_parts None b h = (refl, h)
none_parts (Some x) b h = absurd (cc (h))

or_none : (a : Option PlayFault) → first_of a None ≡ a
or_none None = refl
or_none (Some x) = refl

pub none_yet : {F : Type 0} (f : F → Sent) (n : ℕ) (ts : List F) → first_fault n (map f ts) [] ≡ None
none_yet f n [] = refl
none_yet f n (t ∷ ts) = refl

-- one frame more comes back
pub fault-push : {F G : Type 0} (f : F → Sent) (g : G → List ℕ) (n : ℕ) (ts : List F) (gs : List G) (t : F) (tail : List F) (x : G) → first_fault n (map f ts) (map g gs) ≡ None →
    drop (length gs) ts ≡ t ∷ tail → first_fault n (map f ts) (map g (gs ++ x ∷ [])) ≡ fault_of (n + length gs) (f t) (g x)
fault-push f g n [] [] t tail x h d = none_there t tail d
fault-push f g n [] (z ∷ gs) t tail x h d = none_there t tail d
fault-push f g n (y ∷ ts) [] t tail x h d =
    let e : n ≡ n + 0 = omega arith in
    ap (first_of (fault_of n (f y) (g x))) (none_yet f (n + 1) ts)
    ∙ or_none (fault_of n (f y) (g x))
    ∙ (λ i. fault_of (e i) (f (first_same d i)) (g x))
fault-push f g n (y ∷ ts) (z ∷ gs) t tail x h d =
    let both = none_parts (fault_of n (f y) (g z)) (first_fault (n + 1) (map f ts) (map g gs)) h in
    let e : n + 1 + length gs ≡ n + suc (length gs) = omega arith in
    (λ i. first_of (both.0 i) (fault-push f g (n + 1) ts gs t tail x both.1 d i))
    ∙ ap (λ m. fault_of m (f t) (g x)) e

pub fault-next : {F G : Type 0} (f : F → Sent) (g : G → List ℕ) (n : ℕ) (ts : List F) (gs : List G) (t : F) (x : G) (i : ℕ) → i ≡ length gs → i < length ts → t ≡ get_or ts i t →
    first_fault n (map f ts) (map g gs) ≡ None → first_fault n (map f ts) (map g (gs ++ x ∷ [])) ≡ fault_of (n + i) (f t) (g x)
fault-next f g n ts gs t x i e l is h =
    let d : drop (length gs) ts ≡ t ∷ drop (suc i) ts = ap (λ k. drop k ts) (sym e) ∙ drop-cons ts i t l ∙ ap (λ w. w ∷ drop (suc i) ts) (sym is) in
    fault-push f g n ts gs t (drop (suc i) ts) x h d ∙ ap (λ k. fault_of (n + k) (f t) (g x)) (sym e)

-- one frame more is sent
pub sent-next : {F : Type 0} (f : F → Sent) (ts : List F) (t : F) (i : ℕ) (base old new : List (List ℕ)) (x : List ℕ) → i < length ts → t ≡ get_or ts i t → x ≡ (f t).bytes →
    new ≡ old ++ x ∷ [] → old ≡ base ++ take i (bytes_of (map f ts)) → new ≡ base ++ take (i + 1) (bytes_of (map f ts))
sent-next f ts t i base old new x l is e h k =
    let bytes : Sent → List ℕ = λ s. s.bytes in
    let all = bytes_of (map f ts) in
    let here : get_or all i ((f t).bytes) ≡ x = get_or-map bytes (map f ts) i (f t) ∙ ap bytes (get_or-map f ts i t ∙ ap f (sym is)) ∙ sym e in
    let within : i < length all = omega (arith, l, length-map (map f ts) bytes, length-map ts f) in
    h ∙ ap (λ w. w ++ x ∷ []) k ∙ append_assoc base (take i all) (x ∷ [])
    ∙ ap (λ w. base ++ w) (ap (λ w. take i all ++ w ∷ []) (sym here) ∙ sym (take_more all i ((f t).bytes) within))

first_front : (a p q : Option PlayFault) (f : PlayFault) → (p ≡ Some f → q ≡ Some f) → first_of a p ≡ Some f → first_of a q ≡ Some f
first_front None p q f h e = h e
first_front (Some x) p q f h e = e

-- a fault of the first that came back is that of more
pub fault-front : (n : ℕ) (ss : List Sent) (bs rest : List (List ℕ)) (f : PlayFault) → first_fault n ss bs ≡ Some f → first_fault n ss (bs ++ rest) ≡ Some f
fault-front n [] bs rest f h = h
fault-front n (s ∷ ss) [] rest f h = absurd (cc (h))
fault-front n (s ∷ ss) (b ∷ bs) rest f h =
    first_front (fault_of n s b) (first_fault (n + 1) ss bs) (first_fault (n + 1) ss (bs ++ rest)) f (λ k. fault-front (n + 1) ss bs rest f k) h

-- what comes back of later frames has no part in it
pub fault-rest : (n : ℕ) (ss : List Sent) (bs rest : List (List ℕ)) → length bs ≡ length ss → first_fault n ss (bs ++ rest) ≡ first_fault n ss bs
fault-rest n [] bs rest l = refl
fault-rest n (s ∷ ss) [] rest l = absurd (omega (arith, l))
fault-rest n (s ∷ ss) (b ∷ bs) rest l = ap (first_of (fault_of n s b)) (fault-rest (n + 1) ss bs rest (omega (arith, l)))

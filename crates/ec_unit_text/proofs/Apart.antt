-- Elements of which none came before, and lists without two of one kind.
use Rattle.std.proofs.Common.{◌≡◌, ◌==◌, ℕ, Bool, false, ◌||◌, List, [], ◌∷◌, ◌++◌, append_assoc, refl, sym, ◌∙◌}
use Rattle.std.specs.List.{list_any}
use Rattle.std.specs.Str.{bytes_eq}
use Rattle.std.proofs.lemmas.Bool.{or_parts, or_from}
use Rattle.std.proofs.lemmas.Bool.Decides.{Decides-eqb, same_from_decides}
use Rattle.std.proofs.lemmas.List.{append-nil}
use Rattle.std.proofs.lemmas.List.Folds.{list_any-append}
use Rattle.std.proofs.lemmas.Slice.Eq.{bytes_eq-Decides}
use Rattle.ec_units.specs.Together.{has_same}

-- an element is among those before it
abbrev pub repeats : {X : Type 0} → (X → X → Bool) → List X → List X → Bool
repeats eq before [] = false
repeats eq before (x ∷ xs) = list_any (eq x) before || repeats eq (before ++ x ∷ []) xs

pub repeats-append : {X : Type 0} (eq : X → X → Bool) (before xs ys : List X) → repeats eq before xs ≡ false → repeats eq (before ++ xs) ys ≡ false → repeats eq before (xs ++ ys) ≡ false
repeats-append eq before [] ys h k = rw (append-nil before) at k
repeats-append eq before (x ∷ xs) ys h k =
    let (here, later) = or_parts (list_any (eq x) before) (repeats eq (before ++ x ∷ []) xs) h in
    or_from _ _ here (repeats-append eq (before ++ x ∷ []) xs ys later (rw append_assoc k))

-- none of these is the x that came before
none_later : {X : Type 0} (eq : X → X → Bool) (turned : (a b : X) → eq a b ≡ eq b a) (before after : List X) (x : X) (xs : List X) → repeats eq (before ++ x ∷ after) xs ≡ false → list_any (eq x) xs ≡ false
none_later eq turned before after x [] h = refl
none_later eq turned before after x (y ∷ ys) h =
    let (here, later) = or_parts (list_any (eq y) (before ++ x ∷ after)) (repeats eq ((before ++ x ∷ after) ++ y ∷ []) ys) h in
    let (left, right) = or_parts (list_any (eq y) before) (list_any (eq y) (x ∷ after)) (sym (list_any-append (eq y) before (x ∷ after)) ∙ here) in
    let (this, others) = or_parts (eq y x) (list_any (eq y) after) right in
    or_from (eq x y) (list_any (eq x) ys) (turned x y ∙ this) (none_later eq turned before (after ++ y ∷ []) x ys (rw append_assoc at later))

pub has_same-from_repeats : {X : Type 0} (eq : X → X → Bool) (turned : (a b : X) → eq a b ≡ eq b a) (before xs : List X) → repeats eq before xs ≡ false → has_same eq xs ≡ false
has_same-from_repeats eq turned before [] h = refl
has_same-from_repeats eq turned before (x ∷ xs) h =
    let (here, later) = or_parts (list_any (eq x) before) (repeats eq (before ++ x ∷ []) xs) h in
    or_from _ _ (none_later eq turned before [] x xs later) (has_same-from_repeats eq turned (before ++ x ∷ []) xs later)

pub bytes_eq-turned : (a b : List ℕ) → bytes_eq a b ≡ bytes_eq b a
bytes_eq-turned a b =
    let (to, from) = bytes_eq-Decides b a in
    same_from_decides (bytes_eq a b) (bytes_eq b a) (bytes_eq-Decides a b) ((λ h. sym (to h)), (λ e. from (sym e)))

pub nat_eq-turned : (a b : ℕ) → (a == b) ≡ (b == a)
nat_eq-turned a b =
    let (to, from) = Decides-eqb b a in
    same_from_decides (a == b) (b == a) (Decides-eqb a b) ((λ h. sym (to h)), (λ e. from (sym e)))

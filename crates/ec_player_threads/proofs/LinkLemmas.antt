-- Rings from slave to slave.
use Rattle.std.specs.Prelude.{OnOk}
use Rattle.std.proofs.Common.{◌≡◌, ℕ, List, [], ◌∷◌, ◌++◌, Result, Ok, Err, length, map, refl, ap, sym, ◌∙◌, subst, arith}
use Rattle.std.proofs.lemmas.List.{append-nil}
use Rattle.rtrb.specs.Ends.{SameRing}
use Rattle.ec_slave.specs.Journey.{outs, final, line_outs, line_finals}
use Rattle.ec_player_threads.specs.Frames.{Link}
use Rattle.ec_player_threads.specs.Threads.{Linked}
use Rattle.ec_player_threads.specs.declared.carrying.Carried.{Carried}

pub same_ring : (a : Link) → SameRing a a
same_ring a = (refl, refl, refl, refl)

pub same_ring-back : (a b c : Link) → SameRing a b → SameRing a c → SameRing b c
same_ring-back a b c p q = (q.0 ∙ sym p.0, q.1 ∙ sym p.1, q.2 ∙ sym p.2, q.3 ∙ sym p.3)

pub same_ring-trans : (a b c : Link) → SameRing a b → SameRing b c → SameRing a c
same_ring-trans a b c p q = (q.0 ∙ p.0, q.1 ∙ p.1, q.2 ∙ p.2, q.3 ∙ p.3)

pub linked-push : {X : Type 0} (e c d : Link) (ps : List (Carried X)) (p : Carried X) → Linked e ps c → p.taken.value.end ≡ c → SameRing p.put.value.end d → Linked e (ps ++ p ∷ []) d
linked-push e c d [] p l t s = (subst (λ (x : Link). SameRing e x) (sym t) l, s)
linked-push e c d (q ∷ ps) p l t s = (l.0, linked-push q.put.value.end c d ps p l.1 t s)

pub map-push : {A B : Type 0} (f : A → B) (xs : List A) (x : A) → map f (xs ++ x ∷ []) ≡ map f xs ++ f x ∷ []
map-push f [] x = refl
map-push f (y ∷ xs) x = ap (λ ys. f y ∷ ys) (map-push f xs x)

pub linked-from : {X : Type 0} (a b c : Link) (ps : List (Carried X)) → Linked a ps c → SameRing a b → Linked b ps c
linked-from a b c [] l s = same_ring-back a b c s l
linked-from a b c (q ∷ ps) l s = (same_ring-back a b q.taken.value.end s l.0, l.1)

pub linked-to : {X : Type 0} (a b c : Link) (ps : List (Carried X)) → Linked a ps b → SameRing b c → Linked a ps c
linked-to a b c [] l s = same_ring-trans a b c l s
linked-to a b c (q ∷ ps) l s = (l.0, linked-to q.put.value.end b c ps l.1 s)

pub nothing_left : {F : Type 0} (xs ks ys : List F) (n : ℕ) → xs ++ ks ≡ ys → n ≡ length ks → n ≡ 0 → xs ≡ ys
nothing_left xs [] ys n e l z = sym (append-nil xs) ∙ e
nothing_left xs (k ∷ ks) ys n e l z = absurd (omega (arith, l, z))

-- what the next threads make of what this one put
pub outs-from : {X F : Type 0} (out : X → F → F) (next : X → F → X) (s : X) (ss : List X) (took sent0 sent1 : List F) → took ≡ sent0 → sent1 ≡ outs out next s took →
    line_outs out next ss sent1 ≡ line_outs out next (s ∷ ss) sent0
outs-from out next s ss took sent0 sent1 t e = ap (λ l. line_outs out next ss l) (e ∙ ap (λ l. outs out next s l) t)

pub finals-from : {X F : Type 0} (out : X → F → F) (next : X → F → X) (s z : X) (ss : List X) (took sent0 sent1 : List F) → took ≡ sent0 → sent1 ≡ outs out next s took → z ≡ final out next s took →
    (z ∷ line_finals out next ss sent1) ≡ line_finals out next (s ∷ ss) sent0
finals-from out next s z ss took sent0 sent1 t e f =
    (λ i. (f ∙ ap (λ l. final out next s l) t) i ∷ line_finals out next ss ((e ∙ ap (λ l. outs out next s l) t) i))

pub on_ok_map : {A E P Q : Type 0} (r : Result A E) → (P → Q) → OnOk r P → OnOk r Q
on_ok_map (Ok a) f p = f p
on_ok_map (Err e) f p = tt

-- Readers of the rest of a text, to its end: what they answer of a text that was cut off, and of one with the same first lines.
-- `IsCloser` is what `IsReader` is, for what reads to the end (`is_closed`, `is_ending`).
use Rattle.std.proofs.Common.{◌≡◌, ℕ, ◌+◌, ◌<◌, ◌≤◌, Bool, true, false, ◌==◌, cond, List, [], ◌∷◌, ◌++◌, length, codes, Option, Some, None, Result, Ok, Err, refl, ap, sym, subst, ◌∙◌, arith, inl, inr, append-nil}
use Rattle.std.specs.Str.{bytes_eq}
use Rattle.std.proofs.lemmas.Bool.Decides.{nat_tests}
use Rattle.ec_cert_text.specs.declared.fault.CertFault.{CertFault}
use Rattle.ec_cert_text.specs.declared.fault.CertFault.TheVariants as fault
use Rattle.ec_cert_text.specs.Reading.{◌>>=◌, At, cut, line_at, nothing_at, end_at}
use Rattle.ec_cert_text.specs.Fronts.{feed_count, fault_line}
use Rattle.ec_cert_text.proofs.WordLaws.{bind_ok}
use Rattle.ec_cert_text.proofs.TextLaws.{end_found}
use Rattle.ec_cert_text.proofs.FrontLemmas.{at, end_of, Goes, IsPast, Alike, IsReader, cut_none, cut_some, line_front, line_next, line_over, line_goes}

pub record IsCloser {A : Type 0} (k : At → Result A CertFault) : Type 0 where
  -- a fault at a line that is complete in a, whatever follows a
  pub stays : (n : ℕ) (a s t : List ℕ) (e : CertFault) → fault_line e < n + feed_count a → k (at n (a ++ s)) ≡ Err e → k (at n (a ++ t)) ≡ Err e
  pub late : (p : At) (e : CertFault) → k p ≡ Err e → p.line ≤ fault_line e
  pub ends : (p : At) → feed_count p.rest ≡ 0 → k p ≡ Err (fault.Early p.line)
  -- what is read has no proper front that is read
  pub cuts : (n : ℕ) (a : List ℕ) (b : ℕ) (s : List ℕ) (x : A) → k (at n (a ++ b ∷ s)) ≡ Ok x → k (at n a) ≡ Err (fault.Early (n + feed_count a))

-- ---- a reader, and then a reader of the rest

stays_by : {X A : Type 0} (n : ℕ) (s t : List ℕ) (u v : Result (X × At) CertFault) (k : X → At → Result A CertFault) (e : CertFault) → ((x : X) → IsCloser (k x)) → Alike n s t u v → fault_line e < n
    → (u >>= (λ x. k x.0 x.1)) ≡ Err e → (v >>= (λ x. k x.0 x.1)) ≡ Err e
stays_by n s t u v k e c (Alike.reads x m r same eu ev) low h =
    let before : k x (at m (r ++ s)) ≡ Err e = subst (λ (w : Result (_ × At) CertFault). (w >>= (λ x. k x.0 x.1)) ≡ Err e) eu h in
    rw ev ((c x).stays m r s t e (omega arith) before)
stays_by n s t (Err d) v k e c (Alike.fails f small eu ev) low h = rw ev cc
stays_by n s t (Ok x) v k e c (Alike.fails f small eu ev) low h = absurd cc
stays_by n s t (Err d) v k e c (Alike.passes hu hv) low h = let same : d ≡ e = cc in let is : fault_line d ≡ fault_line e = ap fault_line same in absurd (omega arith)
stays_by n s t (Ok x) v k e c (Alike.passes hu hv) low h = let after : x.1.line ≤ fault_line e = (c x.0).late x.1 e h in absurd (omega arith)

late_by : {X A : Type 0} (p : At) (u : Result (X × At) CertFault) (k : X → At → Result A CertFault) (e : CertFault) → ((x : X) → IsCloser (k x)) → Goes p u → (u >>= (λ x. k x.0 x.1)) ≡ Err e → p.line ≤ fault_line e
late_by p (Ok x) k e c g h = let after : x.1.line ≤ fault_line e = (c x.0).late x.1 e h in omega (arith, g.0)
late_by p (Err d) k e c g h = let same : d ≡ e = cc in let is : fault_line d ≡ fault_line e = ap fault_line same in omega (arith, g.0)

-- a reader that came to the end of what has no line more
over_by : {X A : Type 0} (n : ℕ) (p : At) (u : Result (X × At) CertFault) (k : X → At → Result A CertFault) → ((x : X) → IsCloser (k x)) → Goes p u → IsPast n u → end_of p ≡ n → (u >>= (λ x. k x.0 x.1)) ≡ Err (fault.Early n)
over_by n p (Ok x) k c g past is =
    let line : x.1.line ≡ n = omega (arith, g.1) in
    let none : feed_count x.1.rest ≡ 0 = omega (arith, g.1) in
    subst (λ (m : ℕ). k x.0 x.1 ≡ Err (fault.Early m)) line ((c x.0).ends x.1 none)
over_by n p (Err e) k c g past is =
    elim g.1 [
      | inl low ↦ absurd (omega arith)
      | inr early ↦ let same : e ≡ fault.Early n = early ∙ ap fault.Early is in ap Err same
    ]

past_self : {X : Type 0} (p : At) (u : Result (X × At) CertFault) → Goes p u → IsPast p.line u
past_self p (Ok x) g = g.0
past_self p (Err e) g = g.0

cuts_by : {X A : Type 0} (n : ℕ) (a : List ℕ) (b : ℕ) (s : List ℕ) (u v : Result (X × At) CertFault) (k : X → At → Result A CertFault) (y : A) → ((x : X) → IsCloser (k x)) → Goes (at n a) v → Alike (n + feed_count a) (b ∷ s) [] u v
    → (u >>= (λ x. k x.0 x.1)) ≡ Ok y → (v >>= (λ x. k x.0 x.1)) ≡ Err (fault.Early (n + feed_count a))
cuts_by n a b s u v k y c g (Alike.reads x m r same eu ev) h =
    let before : k x (at m (r ++ b ∷ s)) ≡ Ok y = subst (λ (w : Result (_ × At) CertFault). (w >>= (λ x. k x.0 x.1)) ≡ Ok y) eu h in
    let cut_off : k x (at m r) ≡ Err (fault.Early (m + feed_count r)) = (c x).cuts m r b s y before in
    rw (ev, append-nil r) (cut_off ∙ ap (λ (i : ℕ). Err (fault.Early i)) same)
cuts_by n a b s (Ok x) v k y c g (Alike.fails e low eu ev) h = absurd cc
cuts_by n a b s (Err d) v k y c g (Alike.fails e low eu ev) h = absurd cc
cuts_by n a b s u v k y c g (Alike.passes hu hv) h = over_by (n + feed_count a) (at n a) v k c g hv refl

pub is_closed : {X A : Type 0} (f : At → Result (X × At) CertFault) (k : X → At → Result A CertFault) → IsReader f → ((x : X) → IsCloser (k x)) → IsCloser (λ (p : At). f p >>= (λ x. k x.0 x.1))
is_closed f k h c = record {
  stays = λ n a s t e low is. stays_by (n + feed_count a) s t (f (at n (a ++ s))) (f (at n (a ++ t))) k e c (h.alike n a s t) low is;
  late = λ p e is. late_by p (f p) k e c (h.goes p) is;
  ends = λ p none. over_by p.line p (f p) k c (h.goes p) (past_self p (f p) (h.goes p)) (omega arith);
  cuts = λ n a b s x is.
      let alike = subst (λ l. Alike (n + feed_count a) (b ∷ s) [] (f (at n (a ++ b ∷ s))) (f (at n l))) (append-nil a) (h.alike n a (b ∷ s) []) in
      cuts_by n a b s (f (at n (a ++ b ∷ s))) (f (at n a)) k x c (h.goes (at n a)) alike is;
}

-- ---- the end

late_line : (p : At) (u : Result (List ℕ × At) CertFault) (e : CertFault) → line_at p ≡ u → u ≡ Err e → p.line ≤ fault_line e
late_line p u e is h = let g : Goes {X = List ℕ} p (Err e) = subst (Goes {X = List ℕ} p) (is ∙ h) (line_goes p) in g.0

abbrev fails_by : CertFault → Result (Unit {0}) CertFault
fails_by e = Err e

nothing_by : (p : At) (u : Result (List ℕ × At) CertFault) (e : CertFault) → line_at p ≡ u → (u >>= (λ l. Err (fault.Late p.line))) ≡ fails_by e → p.line ≤ fault_line e
nothing_by p (Ok l) e is h = let same : fault.Late p.line ≡ e = cc in let line : p.line ≡ fault_line e = ap fault_line same in omega arith
nothing_by p (Err d) e is h = let same : d ≡ e = cc in late_line p (Err d) e is (ap Err same)

nothing_late_by : (p : At) (test : Bool) (e : CertFault) → cond test (Ok tt) (line_at p >>= (λ l. Err (fault.Late p.line))) ≡ fails_by e → p.line ≤ fault_line e
nothing_late_by p true e h = absurd cc
nothing_late_by p false e h = nothing_by p (line_at p) e refl h

nothing_late : (p : At) (e : CertFault) → nothing_at p ≡ Err e → p.line ≤ fault_line e
nothing_late p e h = nothing_late_by p (length p.rest == 0) e h

-- a line more is in what follows the end
nothing_more : (n : ℕ) (a s : List ℕ) (x : List ℕ × List ℕ) → cut 10 a ≡ Some x → nothing_at (at n (a ++ s)) ≡ Err (fault.Late n)
nothing_more n [] s x e = absurd cc
nothing_more n (b ∷ a) s x e =
    let some : (length ((b ∷ a) ++ s) == 0) ≡ false = grind (arith, nat_tests) in
    rw (some, line_front n (b ∷ a) s x e) refl

nothing_stays_by : (n : ℕ) (a s t : List ℕ) (o : Option (List ℕ × List ℕ)) (e : CertFault) → cut 10 a ≡ o → fault_line e < n + feed_count a → nothing_at (at n (a ++ s)) ≡ Err e → nothing_at (at n (a ++ t)) ≡ Err e
nothing_stays_by n a s t None e is low h = let none = cut_none a is in let after = nothing_late (at n (a ++ s)) e h in absurd (omega arith)
nothing_stays_by n a s t (Some x) e is low h = nothing_more n a t x is ∙ sym (nothing_more n a s x is) ∙ h

-- what the last line says, and what follows it
abbrev closing : {A : Type 0} → A → At → At → Bool → Result A CertFault
closing c p q test = cond test (nothing_at q) (Err (fault.Late p.line)) >>= (λ y. Ok c)

map_err : {A B : Type 0} (r : Result A CertFault) (c : B) (e : CertFault) → (r >>= (λ y. Ok c)) ≡ Err e → r ≡ Err e
map_err (Ok x) c e h = absurd cc
map_err (Err d) c e h = let same : d ≡ e = cc in ap Err same

abbrev ending : {A : Type 0} → A → At → Result A CertFault
ending c p = end_at p >>= (λ y. Ok c)

closing_late : {A : Type 0} (c : A) (p q : At) (test : Bool) (e : CertFault) → p.line ≤ q.line → closing c p q test ≡ Err e → p.line ≤ fault_line e
closing_late c p q true e next h = let after : q.line ≤ fault_line e = nothing_late q e (map_err (nothing_at q) c e h) in omega arith
closing_late c p q false e next h = let same : fault.Late p.line ≡ e = cc in let is : p.line ≡ fault_line e = ap fault_line same in omega arith

ending_late_by : {A : Type 0} (c : A) (p : At) (u : Result (List ℕ × At) CertFault) (e : CertFault) → line_at p ≡ u → ((u >>= (λ l. cond (bytes_eq l.0 (codes "end")) (nothing_at l.1) (Err (fault.Late p.line)))) >>= (λ y. Ok c)) ≡ Err e → p.line ≤ fault_line e
ending_late_by c p (Err d) e is h = let same : d ≡ e = cc in late_line p (Err d) e is (ap Err same)
ending_late_by c p (Ok l) e is h = let next : l.1.line ≡ p.line + 1 = line_next p l is in closing_late c p l.1 (bytes_eq l.0 (codes "end")) e (omega arith) h

ending_late : {A : Type 0} (c : A) (p : At) (e : CertFault) → ending c p ≡ Err e → p.line ≤ fault_line e
unfolding end_at
ending_late c p e h = ending_late_by c p (line_at p) e refl h

ending_over : {A : Type 0} (c : A) (p : At) → feed_count p.rest ≡ 0 → ending c p ≡ Err (fault.Early p.line)
unfolding end_at
ending_over c p none = rw (line_over p none) refl

closing_stays : {A : Type 0} (c : A) (n : ℕ) (r s t : List ℕ) (test : Bool) (e : CertFault) → fault_line e < (n + 1) + feed_count r → closing c (at n (r ++ s)) (at (n + 1) (r ++ s)) test ≡ Err e → closing c (at n (r ++ t)) (at (n + 1) (r ++ t)) test ≡ Err e
closing_stays c n r s t true e low h =
    let more : nothing_at (at (n + 1) (r ++ t)) ≡ Err e = nothing_stays_by (n + 1) r s t (cut 10 r) e refl low (map_err (nothing_at (at (n + 1) (r ++ s))) c e h) in
    rw more refl
closing_stays c n r s t false e low h = h

ending_stays_by : {A : Type 0} (c : A) (n : ℕ) (a s t : List ℕ) (o : Option (List ℕ × List ℕ)) (e : CertFault) → cut 10 a ≡ o → fault_line e < n + feed_count a → ending c (at n (a ++ s)) ≡ Err e → ending c (at n (a ++ t)) ≡ Err e
unfolding end_at
ending_stays_by c n a s t None e is low h = let none = cut_none a is in let after = ending_late c (at n (a ++ s)) e h in absurd (omega arith)
ending_stays_by c n a s t (Some x) e is low h =
    let more = cut_some a x is in
    let before : closing c (at n (x.1 ++ s)) (at (n + 1) (x.1 ++ s)) (bytes_eq x.0 (codes "end")) ≡ Err e = rw (line_front n a s x is) at h in
    rw (line_front n a t x is) (closing_stays c n x.1 s t (bytes_eq x.0 (codes "end")) e (omega (arith, more.0)) before)

front_of_end : (a : List ℕ) (b : ℕ) (s : List ℕ) → a ++ b ∷ s ≡ codes "end\n" → feed_count a ≡ 0
front_of_end [] b s e = refl
front_of_end (c ∷ []) b s e = let c_is : c ≡ 101 = cc in rw c_is refl
front_of_end (c ∷ d ∷ []) b s e = let c_is : c ≡ 101 = cc in let d_is : d ≡ 110 = cc in rw (c_is, d_is) refl
front_of_end (c ∷ d ∷ f ∷ []) b s e = let c_is : c ≡ 101 = cc in let d_is : d ≡ 110 = cc in let f_is : f ≡ 100 = cc in rw (c_is, d_is, f_is) refl
front_of_end (c ∷ d ∷ f ∷ g ∷ []) b s e = absurd cc
front_of_end (c ∷ d ∷ f ∷ g ∷ h ∷ a) b s e = absurd cc

ending_cut : {A : Type 0} (c : A) (n : ℕ) (a : List ℕ) (b : ℕ) (s : List ℕ) (x : A) → ending c (at n (a ++ b ∷ s)) ≡ Ok x → ending c (at n a) ≡ Err (fault.Early (n + feed_count a))
ending_cut c n a b s x h =
    let (y, read, then) = bind_ok (end_at (at n (a ++ b ∷ s))) (λ y. Ok c) x h in
    let none : feed_count a ≡ 0 = front_of_end a b s (end_found (at n (a ++ b ∷ s)) y read) in
    let same : n ≡ n + feed_count a = omega arith in
    ending_over c (at n a) none ∙ ap (λ (i : ℕ). Err (fault.Early i)) same

pub is_ending : {A : Type 0} (c : A) → IsCloser (ending c)
is_ending c = record {
  stays = λ n a s t e low h. ending_stays_by c n a s t (cut 10 a) e refl low h;
  late = ending_late c;
  ends = ending_over c;
  cuts = ending_cut c;
}

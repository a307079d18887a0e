-- Readers of lines: what a reader answers of a text whose first lines are those of another.
-- `IsReader`: a reader goes on, and reads two texts with one front alike. It is closed under `is_done`, `is_then`,
-- `is_many` and `is_judged` (and `is_chosen` of `PartLaws`). A reader of another shape is first shown equal at each
-- place and carried over by `fun_ext`.
use Rattle.std.proofs.Common.{◌≡◌, ◌⊎◌, ℕ, zero, suc, ◌+◌, ◌<◌, ◌≤◌, Bool, true, false, ◌==◌, cond, List, [], ◌∷◌, ◌++◌, Option, Some, None, option_map, Result, Ok, Err, refl, ap, subst, ◌∙◌, arith, inl, inr}
use Rattle.ec_cert_text.specs.declared.fault.CertFault.{CertFault}
use Rattle.ec_cert_text.specs.declared.fault.CertFault.TheVariants as fault
use Rattle.ec_cert_text.specs.Reading.{◌>>=◌, At, cut, line_from, line_at, many_from}
use Rattle.ec_cert_text.specs.Fronts.{feed_count, fault_line}

abbrev pub at : ℕ → List ℕ → At
at n bytes = record { line = n; rest = bytes }

-- the line after the last complete one
abbrev pub end_of : At → ℕ
end_of p = p.line + feed_count p.rest

-- a reader goes on, and fails at a line that is complete or at the end
abbrev pub Goes : {X : Type 0} → At → Result (X × At) CertFault → Type 0
Goes p (Ok x) = (p.line ≤ x.1.line) × (end_of x.1 ≡ end_of p)
Goes p (Err e) = (p.line ≤ fault_line e) × ((fault_line e < end_of p) ⊎ (e ≡ fault.Early (end_of p)))

-- it ended at this line or after it
abbrev pub IsPast : {X : Type 0} → ℕ → Result (X × At) CertFault → Type 0
IsPast n (Ok x) = n ≤ x.1.line
IsPast n (Err e) = n ≤ fault_line e

-- two answers before line n are one, over what follows; from there on anything goes
pub data Alike {X : Type 0} (n : ℕ) (s t : List ℕ) (u v : Result (X × At) CertFault) : Type 0 where
  reads : (x : X) (m : ℕ) (r : List ℕ) → m + feed_count r ≡ n → u ≡ Ok (x, at m (r ++ s)) → v ≡ Ok (x, at m (r ++ t)) → Alike n s t u v
  fails : (e : CertFault) → fault_line e < n → u ≡ Err e → v ≡ Err e → Alike n s t u v
  passes : IsPast n u → IsPast n v → Alike n s t u v

pub record IsReader {X : Type 0} (f : At → Result (X × At) CertFault) : Type 0 where
  pub goes : (p : At) → Goes p (f p)
  pub alike : (n : ℕ) (a s t : List ℕ) → Alike (n + feed_count a) s t (f (at n (a ++ s))) (f (at n (a ++ t)))

-- ---- steps

pub past_of : {X : Type 0} (n : ℕ) (p : At) (u : Result (X × At) CertFault) → n ≤ p.line → Goes p u → IsPast n u
past_of n p (Ok x) h g = omega (arith, g.0)
past_of n p (Err e) h g = omega (arith, g.0)

past_step : {X Y : Type 0} (n : ℕ) (u : Result (X × At) CertFault) (k : X × At → Result (Y × At) CertFault) → IsPast n u → ((x : X × At) → Goes x.1 (k x)) → IsPast n (u >>= k)
past_step n (Ok x) k h g = past_of n x.1 (k x) h (g x)
past_step n (Err e) k h g = h

goes_on : {Y : Type 0} (p q : At) (v : Result (Y × At) CertFault) → p.line ≤ q.line → end_of q ≡ end_of p → Goes q v → Goes p v
goes_on p q (Ok y) h same g = (omega (arith, g.0), g.1 ∙ same)
goes_on p q (Err e) h same g = (omega (arith, g.0), subst (λ (n : ℕ). (fault_line e < n) ⊎ (e ≡ fault.Early n)) same g.1)

goes_step : {X Y : Type 0} (p : At) (u : Result (X × At) CertFault) (k : X × At → Result (Y × At) CertFault) → Goes p u → ((x : X × At) → Goes x.1 (k x)) → Goes p (u >>= k)
goes_step p (Ok x) k g h = goes_on p x.1 (k x) g.0 g.1 (h x)
goes_step p (Err e) k g h = g

-- where no line is complete in a
pub alike_none : {X : Type 0} (f : At → Result (X × At) CertFault) → ((p : At) → Goes p (f p)) → (n : ℕ) (a s t : List ℕ) → feed_count a ≡ 0 → Alike (n + feed_count a) s t (f (at n (a ++ s))) (f (at n (a ++ t)))
alike_none f g n a s t none =
    let low : n + feed_count a ≤ n = omega arith in
    passes (past_of _ (at n (a ++ s)) _ low (g (at n (a ++ s)))) (past_of _ (at n (a ++ t)) _ low (g (at n (a ++ t))))

alike_step : {X Y : Type 0} (n : ℕ) (s t : List ℕ) (u v : Result (X × At) CertFault) (k : X × At → Result (Y × At) CertFault) → Alike n s t u v
    → ((x : X) (m : ℕ) (r : List ℕ) → Alike (m + feed_count r) s t (k (x, at m (r ++ s))) (k (x, at m (r ++ t)))) → ((x : X × At) → Goes x.1 (k x)) → Alike n s t (u >>= k) (v >>= k)
alike_step n s t u v k (reads x m r same eu ev) h g = rw (eu, ev) (subst (λ (i : ℕ). Alike i s t (k (x, at m (r ++ s))) (k (x, at m (r ++ t)))) same (h x m r))
alike_step n s t u v k (fails e low eu ev) h g = rw (eu, ev) (fails e low refl refl)
alike_step n s t u v k (passes hu hv) h g = passes (past_step n u k hu g) (past_step n v k hv g)

pub is_done : {X : Type 0} (x : X) → IsReader (λ (p : At). Ok (x, p))
is_done x = record { goes = λ p. (omega arith, refl); alike = λ n a s t. reads x n a refl refl refl }

pub is_then : {X Y : Type 0} (f : At → Result (X × At) CertFault) (g : X → At → Result (Y × At) CertFault) → IsReader f → ((x : X) → IsReader (g x)) → IsReader (λ (p : At). f p >>= (λ x. g x.0 x.1))
is_then f g hf hg = record {
  goes = λ p. goes_step p (f p) (λ x. g x.0 x.1) (hf.goes p) (λ x. (hg x.0).goes x.1);
  alike = λ n a s t. alike_step _ s t (f (at n (a ++ s))) (f (at n (a ++ t))) (λ x. g x.0 x.1) (hf.alike n a s t) (λ x m r. (hg x).alike m r s t) (λ x. (hg x.0).goes x.1);
}

pub is_many : {X : Type 0} (one : At → Result (X × At) CertFault) → IsReader one → (n : ℕ) → IsReader (many_from one n)
is_many one h zero = is_done []
is_many one h (suc n) = is_then one _ h (λ x. is_then (many_from one n) _ (is_many one h n) (λ xs. is_done (x ∷ xs)))

-- ---- a line

cut_none_step : (b : ℕ) (bs : List ℕ) (test : Bool) (o : Option (List ℕ × List ℕ)) → (b == 10) ≡ test → (o ≡ None → feed_count bs ≡ 0) → cond {A = Option (List ℕ × List ℕ)} test (Some ([], bs)) (option_map (λ (y : List ℕ × List ℕ). (b ∷ y.0, y.1)) o) ≡ None
    → cond test (1 + feed_count bs) (feed_count bs) ≡ 0
cut_none_step b bs true o e ih h = absurd cc
cut_none_step b bs false None e ih h = ih refl
cut_none_step b bs false (Some y) e ih h = absurd cc

pub cut_none : (bs : List ℕ) → cut 10 bs ≡ None → feed_count bs ≡ 0
cut_none [] h = refl
cut_none (b ∷ bs) h = cut_none_step b bs (b == 10) (cut 10 bs) refl (cut_none bs) h

-- the first line ends in a, and what follows a is left to what follows the line
abbrev pub CutsFront : List ℕ → List ℕ × List ℕ → Type 0
CutsFront a x = (feed_count a ≡ suc (feed_count x.1)) × ((s : List ℕ) → cut 10 (a ++ s) ≡ Some (x.0, x.1 ++ s))

cut_some_step : (b : ℕ) (bs : List ℕ) (test : Bool) (o : Option (List ℕ × List ℕ)) (x : List ℕ × List ℕ) → (b == 10) ≡ test → ((y : List ℕ × List ℕ) → o ≡ Some y → CutsFront bs y)
    → cond {A = Option (List ℕ × List ℕ)} test (Some ([], bs)) (option_map (λ (y : List ℕ × List ℕ). (b ∷ y.0, y.1)) o) ≡ Some x
    → (cond test (1 + feed_count bs) (feed_count bs) ≡ suc (feed_count x.1)) × ((s : List ℕ) → cond {A = Option (List ℕ × List ℕ)} test (Some ([], bs ++ s)) (option_map (λ (y : List ℕ × List ℕ). (b ∷ y.0, y.1)) (cut 10 (bs ++ s))) ≡ Some (x.0, x.1 ++ s))
cut_some_step b bs true o x e ih h =
    let first : x.0 ≡ [] = cc in
    let second : x.1 ≡ bs = cc in
    rw (first, second) (omega arith, λ s. refl)
cut_some_step b bs false None x e ih h = absurd cc
cut_some_step b bs false (Some y) x e ih h =
    let first : x.0 ≡ b ∷ y.0 = cc in
    let second : x.1 ≡ y.1 = cc in
    let more : CutsFront bs y = ih y refl in
    rw (first, second) (more.0, λ s. rw (more.1 s) refl)

pub cut_some : (bs : List ℕ) (x : List ℕ × List ℕ) → cut 10 bs ≡ Some x → CutsFront bs x
cut_some [] x h = absurd cc
cut_some (b ∷ bs) x h = cut_some_step b bs (b == 10) (cut 10 bs) x refl (cut_some bs) h

line_goes_by : (p : At) (o : Option (List ℕ × List ℕ)) → cut 10 p.rest ≡ o → Goes p (line_from p.line o)
line_goes_by p None e = let none = cut_none p.rest e in (omega arith, inr (ap fault.Early (omega arith)))
line_goes_by p (Some x) e = let more = cut_some p.rest x e in (omega arith, omega (arith, more.0))

pub line_goes : (p : At) → Goes p (line_at p)
unfolding line_at
line_goes p = line_goes_by p (cut 10 p.rest) refl

-- the first line is complete in a
pub line_front : (n : ℕ) (a s : List ℕ) (x : List ℕ × List ℕ) → cut 10 a ≡ Some x → line_at (at n (a ++ s)) ≡ Ok (x.0, at (n + 1) (x.1 ++ s))
unfolding line_at
line_front n a s x e = let more = cut_some a x e in rw (more.1 s) refl

line_next_by : (n : ℕ) (o : Option (List ℕ × List ℕ)) (l : List ℕ × At) → line_from n o ≡ Ok l → l.1.line ≡ n + 1
line_next_by n None l e = absurd cc
line_next_by n (Some x) l e = let is : l.1 ≡ at (n + 1) x.1 = cc in ap (λ (p : At). p.line) is

pub line_next : (p : At) (l : List ℕ × At) → line_at p ≡ Ok l → l.1.line ≡ p.line + 1
unfolding line_at
line_next p l e = line_next_by p.line (cut 10 p.rest) l e

line_over_by : (n : ℕ) (o : Option (List ℕ × List ℕ)) (bs : List ℕ) → cut 10 bs ≡ o → feed_count bs ≡ 0 → line_from n o ≡ Err (fault.Early n)
line_over_by n None bs e none = refl
line_over_by n (Some x) bs e none = let more = cut_some bs x e in absurd (omega (arith, more.0))

pub line_over : (p : At) → feed_count p.rest ≡ 0 → line_at p ≡ Err (fault.Early p.line)
unfolding line_at
line_over p none = line_over_by p.line (cut 10 p.rest) p.rest refl none

line_alike_by : (n : ℕ) (a s t : List ℕ) (o : Option (List ℕ × List ℕ)) → cut 10 a ≡ o → Alike (n + feed_count a) s t (line_at (at n (a ++ s))) (line_at (at n (a ++ t)))
line_alike_by n a s t None e = alike_none line_at line_goes n a s t (cut_none a e)
line_alike_by n a s t (Some x) e =
    let more = cut_some a x e in
    reads x.0 (n + 1) x.1 (omega (arith, more.0)) (line_front n a s x e) (line_front n a t x e)

pub is_line : IsReader line_at
is_line = record { goes = line_goes; alike = λ n a s t. line_alike_by n a s t (cut 10 a) refl }

-- ---- a line, and what it says

-- what a judge of lines finds is at the line
abbrev pub IsJudge : {X : Type 0} → (ℕ → List ℕ → Result X CertFault) → Type 0
IsJudge j = (n : ℕ) (l : List ℕ) (e : CertFault) → j n l ≡ Err e → fault_line e ≡ n

abbrev pub judged : {X : Type 0} → (ℕ → List ℕ → Result X CertFault) → At → Result (X × At) CertFault
judged j p = line_at p >>= (λ l. j p.line l.0 >>= (λ x. Ok (x, l.1)))

judged_goes_by : {X : Type 0} (p : At) (l : List ℕ × At) (o : Result X CertFault) → l.1.line ≡ p.line + 1 → end_of l.1 ≡ end_of p → ((e : CertFault) → o ≡ Err e → fault_line e ≡ p.line) → Goes p (o >>= (λ x. Ok (x, l.1)))
judged_goes_by p l (Ok x) next same h = (omega arith, same)
judged_goes_by p l (Err e) next same h = let is : fault_line e ≡ p.line = h e refl in (omega arith, inl (omega arith))

judged_goes : {X : Type 0} (j : ℕ → List ℕ → Result X CertFault) → IsJudge j → (p : At) (u : Result (List ℕ × At) CertFault) → line_at p ≡ u → Goes p (u >>= (λ l. j p.line l.0 >>= (λ x. Ok (x, l.1))))
judged_goes j h p (Err e) is = subst (Goes {X = List ℕ} p) is (line_goes p)
judged_goes j h p (Ok l) is =
    let g : Goes p (Ok l) = subst (Goes {X = List ℕ} p) is (line_goes p) in
    judged_goes_by p l (j p.line l.0) (line_next p l is) g.1 (h p.line l.0)

judged_same : {X : Type 0} (n : ℕ) (s t r : List ℕ) (o : Result X CertFault) → ((e : CertFault) → o ≡ Err e → fault_line e ≡ n) → Alike ((n + 1) + feed_count r) s t (o >>= (λ x. Ok (x, at (n + 1) (r ++ s)))) (o >>= (λ x. Ok (x, at (n + 1) (r ++ t))))
judged_same n s t r (Ok x) h = reads x (n + 1) r refl refl refl
judged_same n s t r (Err e) h = let is : fault_line e ≡ n = h e refl in fails e (omega arith) refl refl

judged_alike : {X : Type 0} (j : ℕ → List ℕ → Result X CertFault) → IsJudge j → (n : ℕ) (a s t : List ℕ) (o : Option (List ℕ × List ℕ)) → cut 10 a ≡ o → Alike (n + feed_count a) s t (judged j (at n (a ++ s))) (judged j (at n (a ++ t)))
judged_alike j h n a s t None e = alike_none (judged j) (λ p. judged_goes j h p (line_at p) refl) n a s t (cut_none a e)
judged_alike j h n a s t (Some x) e =
    let more = cut_some a x e in
    let same : (n + 1) + feed_count x.1 ≡ n + feed_count a = omega (arith, more.0) in
    rw (line_front n a s x e, line_front n a t x e) (subst (λ (i : ℕ). Alike i s t (j n x.0 >>= (λ y. Ok (y, at (n + 1) (x.1 ++ s)))) (j n x.0 >>= (λ y. Ok (y, at (n + 1) (x.1 ++ t))))) same (judged_same n s t x.1 (j n x.0) (h n x.0)))

pub is_judged : {X : Type 0} (j : ℕ → List ℕ → Result X CertFault) → IsJudge j → IsReader (judged j)
is_judged j h = record { goes = λ p. judged_goes j h p (line_at p) refl; alike = λ n a s t. judged_alike j h n a s t (cut 10 a) refl }

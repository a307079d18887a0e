-- Texts that were cut off, and faults that stay whatever follows.
use Rattle.std.proofs.Common.{◌≡◌, ◌⊎◌, ℕ, ◌+◌, ◌<◌, ◌≤◌, Bool, true, false, cond, nat_eq, nat_lt, List, [], ◌∷◌, ◌++◌, length, drop, codes, Ok, Err, refl, ap, sym, subst, ◌∙◌, arith, inl, inr}
use Rattle.std.specs.List.{starts_with, list_all}
use Rattle.std.proofs.lemmas.Bool.{and_parts}
use Rattle.std.proofs.lemmas.List.{take-append-le}
use Rattle.std.proofs.lemmas.Bool.Decides.{nat_tests}
use Rattle.ec_cert_text.specs.declared.fault.CertFault.{CertFault}
use Rattle.ec_cert_text.specs.declared.fault.CertFault.TheVariants as fault
use Rattle.ec_cert.specs.Shapes.{CertView}
use Rattle.ec_cert_text.specs.Reading.{version_at, parts_at, is_text_byte, reading}
use Rattle.ec_cert_text.specs.Fronts.{feed_count, fault_line, IsReadable}
use Rattle.ec_cert.specs.WellFormed.{IsWellFormed}
use Rattle.ec_cert_text.specs.Text.{certificate_text}
use Rattle.ec_cert_text.proofs.WordLaws.{if_ok, bind_ok, chosen, begins}
use Rattle.ec_cert_text.proofs.TextLaws.{body, body_again}
use Rattle.ec_cert_text.proofs.ByteLaws.{text-certificate}
use Rattle.ec_cert_text.proofs.FrontLemmas.{at}
use Rattle.ec_cert_text.proofs.PartLaws.{starts_front, parts_closed}

abbrev IsKnown : ℕ → Type 0
IsKnown k = (k ≡ 1) ⊎ ((k ≡ 2) ⊎ ((k ≡ 3) ⊎ (k ≡ 4)))

-- the first line of a text of version k
abbrev first_line : ℕ → List ℕ
first_line k = codes "ecplan " ++ (48 + k) ∷ 10 ∷ []

reading_body : (text : List ℕ) → IsReadable text → reading text ≡ body text
unfolding reading
reading_body text r =
    let long : nat_lt 67108864 (length text) ≡ false = grind (arith, nat_tests, r.short) in
    rw (long, r.bytes) refl

-- after the first line
body_after : (k : ℕ) (rest : List ℕ) → IsKnown k → body (first_line k ++ rest) ≡ parts_at k (at 2 rest)
unfolding version_at
body_after k rest (inl is) = rw is refl
body_after k rest (inr (inl is)) = rw is refl
body_after k rest (inr (inr (inl is))) = rw is refl
body_after k rest (inr (inr (inr is))) = rw is refl

body_without : (text : List ℕ) → starts_with nat_eq text (first_line 1) ≡ false → starts_with nat_eq text (first_line 2) ≡ false → starts_with nat_eq text (first_line 3) ≡ false → starts_with nat_eq text (first_line 4) ≡ false → body text ≡ Err fault.Version
unfolding version_at
body_without text one two three four = rw (one, two, three, four) refl

-- ---- faults that stay

body_fault_by : (b c : Bool) (text : List ℕ) (f : CertFault) → 1 ≤ fault_line f → cond b (Err fault.TooLarge) (cond c (body text) (Err fault.NotText)) ≡ Err f → body text ≡ Err f
body_fault_by true c text f some h = let same : fault.TooLarge ≡ f = cc in let is : 0 ≡ fault_line f = ap fault_line same in absurd (omega arith)
body_fault_by false true text f some h = h
body_fault_by false false text f some h = let same : fault.NotText ≡ f = cc in let is : 0 ≡ fault_line f = ap fault_line same in absurd (omega arith)

body_fault : (text : List ℕ) (f : CertFault) → 1 ≤ fault_line f → reading text ≡ Err f → body text ≡ Err f
unfolding reading
body_fault text f some h = body_fault_by (nat_lt 67108864 (length text)) (list_all is_text_byte text) text f some h

rest_stays : (k : ℕ) (r x y : List ℕ) (f : CertFault) → IsKnown k → fault_line f ≤ 1 + feed_count r → body (first_line k ++ (r ++ x)) ≡ Err f → body (first_line k ++ (r ++ y)) ≡ Err f
rest_stays k r x y f known low h =
    let before : parts_at k (at 2 (r ++ x)) ≡ Err f = sym (body_after k (r ++ x) known) ∙ h in
    body_after k (r ++ y) known ∙ (parts_closed k).stays 2 r x y f (omega arith) before

begun_1 : (a s : List ℕ) → 1 ≤ feed_count a → starts_with nat_eq (a ++ s) (first_line 1) ≡ starts_with nat_eq a (first_line 1)
begun_1 a s some = starts_front (10 ∷ []) (λ b l r. refl) a s (codes "ecplan 1") refl some

begun_2 : (a s : List ℕ) → 1 ≤ feed_count a → starts_with nat_eq (a ++ s) (first_line 2) ≡ starts_with nat_eq a (first_line 2)
begun_2 a s some = starts_front (10 ∷ []) (λ b l r. refl) a s (codes "ecplan 2") refl some

begun_3 : (a s : List ℕ) → 1 ≤ feed_count a → starts_with nat_eq (a ++ s) (first_line 3) ≡ starts_with nat_eq a (first_line 3)
begun_3 a s some = starts_front (10 ∷ []) (λ b l r. refl) a s (codes "ecplan 3") refl some

begun_4 : (a s : List ℕ) → 1 ≤ feed_count a → starts_with nat_eq (a ++ s) (first_line 4) ≡ starts_with nat_eq a (first_line 4)
begun_4 a s some = starts_front (10 ∷ []) (λ b l r. refl) a s (codes "ecplan 4") refl some

feeds : (k : ℕ) (r : List ℕ) → IsKnown k → feed_count (first_line k ++ r) ≡ 1 + feed_count r
feeds k r (inl is) = rw is refl
feeds k r (inr (inl is)) = rw is refl
feeds k r (inr (inr (inl is))) = rw is refl
feeds k r (inr (inr (inr is))) = rw is refl

stays_after : (k : ℕ) (a x y : List ℕ) (f : CertFault) → IsKnown k → starts_with nat_eq a (first_line k) ≡ true → fault_line f ≤ feed_count a → body (a ++ x) ≡ Err f → body (a ++ y) ≡ Err f
stays_after k a x y f known is low h =
    let front : a ≡ first_line k ++ drop 9 a = begins a (first_line k) is in
    let count : feed_count a ≡ 1 + feed_count (drop 9 a) = ap feed_count front ∙ feeds k (drop 9 a) known in
    let before : body (first_line k ++ (drop 9 a ++ x)) ≡ Err f = subst (λ l. body (l ++ x) ≡ Err f) front h in
    subst (λ l. body (l ++ y) ≡ Err f) (sym front) (rest_stays k (drop 9 a) x y f known (omega arith) before)

body_stays_by : (a x y : List ℕ) (f : CertFault) (b c d e : Bool) → starts_with nat_eq a (first_line 1) ≡ b → starts_with nat_eq a (first_line 2) ≡ c → starts_with nat_eq a (first_line 3) ≡ d → starts_with nat_eq a (first_line 4) ≡ e
    → 1 ≤ feed_count a → fault_line f ≤ feed_count a → body (a ++ x) ≡ Err f → body (a ++ y) ≡ Err f
body_stays_by a x y f true c d e one two three four some low h = stays_after 1 a x y f (inl refl) one low h
body_stays_by a x y f false true d e one two three four some low h = stays_after 2 a x y f (inr (inl refl)) two low h
body_stays_by a x y f false false true e one two three four some low h = stays_after 3 a x y f (inr (inr (inl refl))) three low h
body_stays_by a x y f false false false true one two three four some low h = stays_after 4 a x y f (inr (inr (inr refl))) four low h
body_stays_by a x y f false false false false one two three four some low h =
    body_without (a ++ y) (begun_1 a y some ∙ one) (begun_2 a y some ∙ two) (begun_3 a y some ∙ three) (begun_4 a y some ∙ four)
    ∙ sym (body_without (a ++ x) (begun_1 a x some ∙ one) (begun_2 a x some ∙ two) (begun_3 a x some ∙ three) (begun_4 a x some ∙ four)) ∙ h

pub fault_stays : (a x y : List ℕ) (f : CertFault) → 1 ≤ fault_line f → fault_line f ≤ feed_count a → reading (a ++ x) ≡ Err f → IsReadable (a ++ y) → reading (a ++ y) ≡ Err f
fault_stays a x y f some low h readable = reading_body (a ++ y) readable ∙ body_stays_by a x y f (starts_with nat_eq a (first_line 1)) (starts_with nat_eq a (first_line 2)) (starts_with nat_eq a (first_line 3)) (starts_with nat_eq a (first_line 4)) refl refl refl refl (omega arith) low (body_fault (a ++ x) f some h)

-- ---- texts that were cut off

text_front : (a b : List ℕ) → list_all is_text_byte (a ++ b) ≡ true → list_all is_text_byte a ≡ true
text_front [] b h = refl
text_front (c ∷ a) b h =
    let parts = and_parts (is_text_byte c) (list_all is_text_byte (a ++ b)) h in
    rw (parts.0, text_front a b parts.1) refl

front_readable : (c : CertView) (a b : List ℕ) → IsWellFormed c → certificate_text c ≡ a ++ b → length a ≤ 67108864 → IsReadable a
front_readable c a b f same short = record { short = short; bytes = text_front a b (ap (list_all is_text_byte) (sym same) ∙ text-certificate c f) }

short_front : (k : ℕ) (a : List ℕ) (b : Bool) → starts_with nat_eq a (first_line k) ≡ b → length a < 9 → b ≡ false
short_front k a false is short = refl
short_front k a true is short =
    let front : a ≡ first_line k ++ drop 9 a = begins a (first_line k) is in
    let count : length a ≡ length (first_line k ++ drop 9 a) = ap length front in
    absurd (omega arith)

pub no_version : (c : CertView) (a b : List ℕ) → IsWellFormed c → certificate_text c ≡ a ++ b → length a < 9 → reading a ≡ Err fault.Version
no_version c a b f same short =
    reading_body a (front_readable c a b f same (omega arith))
    ∙ body_without a (short_front 1 a (starts_with nat_eq a (first_line 1)) refl short) (short_front 2 a (starts_with nat_eq a (first_line 2)) refl short) (short_front 3 a (starts_with nat_eq a (first_line 3)) refl short) (short_front 4 a (starts_with nat_eq a (first_line 4)) refl short)

starts_whole : (k : ℕ) (a s : List ℕ) → 9 ≤ length a → starts_with nat_eq (a ++ s) (first_line k) ≡ starts_with nat_eq a (first_line k)
starts_whole k a s long = rw take-append-le refl

-- the version of a text that is read
abbrev HasVersion : List ℕ → Type 0
HasVersion text = (k : ℕ) × IsKnown k × (starts_with nat_eq text (first_line k) ≡ true)

body_starts : (text : List ℕ) (c : CertView) → body text ≡ Ok c → HasVersion text
unfolding version_at
body_starts text c h =
    let (v, first, then) = bind_ok (version_at text) (λ v. parts_at v.0 v.1) c h in
    elim (chosen (starts_with nat_eq text (first_line 1)) _ _ _ first) [
      | inl y ↦ (1, inl refl, y.0)
      | inr y ↦ elim (chosen (starts_with nat_eq text (first_line 2)) _ _ _ y.1) [
        | inl z ↦ (2, inr (inl refl), z.0)
        | inr z ↦ elim (chosen (starts_with nat_eq text (first_line 3)) _ _ _ z.1) [
          | inl w ↦ (3, inr (inr (inl refl)), w.0)
          | inr w ↦ (4, inr (inr (inr refl)), (if_ok (starts_with nat_eq text (first_line 4)) _ _ v w.1).0)
        ]
      ]
    ]

rest_cut : (k : ℕ) (c : CertView) (r : List ℕ) (b : ℕ) (bs : List ℕ) → IsKnown k → body (first_line k ++ (r ++ b ∷ bs)) ≡ Ok c → body (first_line k ++ r) ≡ Err (fault.Early (2 + feed_count r))
rest_cut k c r b bs known h = body_after k r known ∙ (parts_closed k).cuts 2 r b bs c (sym (body_after k (r ++ b ∷ bs) known) ∙ h)

pub cut_early : (c : CertView) (a : List ℕ) (b : ℕ) (bs : List ℕ) → IsWellFormed c → certificate_text c ≡ a ++ b ∷ bs → 9 ≤ length a → length a ≤ 67108864 → reading a ≡ Err (fault.Early (1 + feed_count a))
cut_early c a b bs f same long short =
    let read : body (a ++ b ∷ bs) ≡ Ok c = ap body (sym same) ∙ body_again c f in
    let (k, known, starts) = body_starts (a ++ b ∷ bs) c read in
    let front : a ≡ first_line k ++ drop 9 a = begins a (first_line k) (sym (starts_whole k a (b ∷ bs) long) ∙ starts) in
    let whole : body (first_line k ++ (drop 9 a ++ b ∷ bs)) ≡ Ok c = subst (λ l. body (l ++ b ∷ bs) ≡ Ok c) front read in
    let cut_off : body a ≡ Err (fault.Early (2 + feed_count (drop 9 a))) = ap body front ∙ rest_cut k c (drop 9 a) b bs known whole in
    let count : feed_count a ≡ 1 + feed_count (drop 9 a) = ap feed_count front ∙ feeds k (drop 9 a) known in
    let line : 2 + feed_count (drop 9 a) ≡ 1 + feed_count a = omega arith in
    reading_body a (front_readable c a (b ∷ bs) f same short) ∙ cut_off ∙ ap (λ (n : ℕ). Err (fault.Early n)) line

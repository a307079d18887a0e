-- Several of a kind, one after the other.
-- `many_found` and `many_again` are for lists of lines of one kind, as `one_line_found` and `one_line_again` for one
-- line.
use Rattle.std.proofs.Common.{◌≡◌, ℕ, zero, suc, ◌+◌, ◌<◌, List, [], ◌∷◌, ◌++◌, length, Result, Ok, refl, ap, sym, ◌∙◌, arith, append_assoc}
use Rattle.std.specs.List.{flat_map, All, AllByRecursion}
use Rattle.ec_cert_text.specs.declared.fault.CertFault.{CertFault}
use Rattle.ec_cert_text.specs.Reading.{At, many_from}
use Rattle.ec_cert_text.proofs.WordLaws.{bind_ok}

pub Rec-from_All : {X : Type 0} (P : X → Type 0) (xs : List X) → All P xs → AllByRecursion P xs
Rec-from_All P [] h = tt
Rec-from_All P (x ∷ xs) h =
    let pos : 0 < length (x ∷ xs) = omega arith in
    (h 0 x pos, Rec-from_All P xs (λ k d lt. h (suc k) d (omega arith)))

All-step : {X : Type 0} (P : X → Type 0) (x : X) (xs : List X) → P x → All P xs → All P (x ∷ xs)
All-step P x xs h t zero d lt = h
All-step P x xs h t (suc k) d lt = t k d (omega arith)

pub All-from_Rec : {X : Type 0} (P : X → Type 0) (xs : List X) → AllByRecursion P xs → All P xs
All-from_Rec P [] h = λ k d lt. absurd (omega arith)
All-from_Rec P (x ∷ xs) h = All-step P x xs h.0 (All-from_Rec P xs h.1)

-- what a reader of one reads is the line of it
abbrev pub Spells : {X S : Type 0} → (S → List ℕ) → (X → List ℕ) → (X → Type 0) → (S → Result (X × S) CertFault) → Type 0
Spells bytes line P one = (p : _) (x : _) → one p ≡ Ok x → P x.0 × (bytes p ≡ line x.0 ++ bytes x.1)

pub many_found : {X S : Type 0} (bytes : S → List ℕ) (line : X → List ℕ) (P : X → Type 0) (one : S → Result (X × S) CertFault) → Spells bytes line P one
    → (n : ℕ) (p : S) (x : List X × S) → many_from one n p ≡ Ok x → AllByRecursion P x.0 × (length x.0 ≡ n) × (bytes p ≡ flat_map line x.0 ++ bytes x.1)
many_found bytes line P one law zero p x e =
    let is : ([], p) ≡ x = cc in
    rw (← is) (tt, refl, refl)
many_found bytes line P one law (suc n) p x e =
    let (t, read, then) = bind_ok (one p) _ x e in
    let (ts, reads, last) = bind_ok (many_from one n t.1) _ x then in
    let is : (t.0 ∷ ts.0, ts.1) ≡ x = cc in
    let first = law p t read in
    let others = many_found bytes line P one law n t.1 ts reads in
    rw (← is) ((first.0, others.0), ap suc others.1, first.1 ∙ ap (λ l. line t.0 ++ l) others.2 ∙ sym (append_assoc (line t.0) (flat_map line ts.0) (bytes ts.1)))

-- a line is read again, whatever follows it
abbrev pub Returns : {X : Type 0} → (X → List ℕ) → (X → Type 0) → (At → Result (X × At) CertFault) → Type 0
Returns {X} line P one = (n : ℕ) (x : X) (rest : List ℕ) → P x → one (record { line = n; rest = line x ++ rest }) ≡ Ok (x, record { line = n + 1; rest = rest })

pub many_again : {X : Type 0} (line : X → List ℕ) (P : X → Type 0) (one : At → Result (X × At) CertFault) → Returns line P one
    → (n : ℕ) (xs : List X) (rest : List ℕ) → AllByRecursion P xs → (m : ℕ) × (many_from one (length xs) (record { line = n; rest = flat_map line xs ++ rest }) ≡ Ok (xs, record { line = m; rest = rest }))
many_again line P one law n [] rest h = (n, refl)
many_again line P one law n (x ∷ xs) rest h =
    let (m, es) = many_again line P one law (n + 1) xs rest h.1 in
    (m, rw (append_assoc (line x) (flat_map line xs) rest, law n x (flat_map line xs ++ rest) h.0, es) refl)

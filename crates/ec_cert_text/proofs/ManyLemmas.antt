-- Reading one after the other, as a loop does.
-- The loops keep `with_front (items so far) (many_from one (count - i) here) ≡ many_from one count start`; `goes_on`
-- and `ends` are generic in what is read and in the state, and serve places, numbers of the order and trees.
-- `units_go_on`, `units_end` and their like serve a loop that stops at the first other line. `fails_as` has a case for
-- each fault. `rw` beneath `bind_ok` at an unfolded `with_front` builds an ill-typed motive: state a lemma over plain
-- variables.
use Rattle.std.proofs.Common.{◌≡◌, ℕ, suc, ◌-◌, ◌+◌, ◌≤◌, ◌<◌, Bool, true, false, List, [], ◌∷◌, ◌++◌, Some, Result, Ok, Err, refl, sym, ap, ◌∙◌, arith, append_assoc, append-nil}
use Rattle.ec_cert_text.specs.declared.fault.CertFault.{CertFault}
use Rattle.ec_cert_text.specs.declared.fault.CertFault.TheVariants as fault
use Rattle.ec_cert.specs.declared.lists.UnitLine.{UnitLine}
use Rattle.ec_cert_text.specs.Reading.{◌>>=◌, At, Fails, with_front, many_from, unit_at, units_from, is_unit_next, cut, is_number, are_numbers}

regroup : {X S : Type 0} (front : List X) (t : X) (read : Result (List X × S) CertFault) → with_front front (read >>= λ ts. Ok (t ∷ ts.0, ts.1)) ≡ with_front (front ++ t ∷ []) read
regroup front t (Ok x) = ap (λ l. Ok (l, x.1)) (sym (append_assoc front (t ∷ []) x.0))
regroup front t (Err f) = refl

-- a fault of a part is the fault of the whole
pub fails_as : {A B : Type 0} (f : CertFault) (one : Result A CertFault) (total : Result B CertFault) → ((e : CertFault) → one ≡ Err e → total ≡ Err e) → Fails f one → Fails f total
fails_as fault.OutOfMemory one total along h = tt
fails_as fault.NotText one total along h = along _ h
fails_as fault.Version one total along h = along _ h
fails_as (fault.BadLine n) one total along h = along _ h
fails_as (fault.Number n) one total along h = along _ h
fails_as (fault.Early n) one total along h = along _ h
fails_as (fault.Late n) one total along h = along _ h
fails_as (fault.TooDeep n) one total along h = along _ h
fails_as fault.TooLarge one total along h = along _ h

-- ---- so many

pub goes_on : {X S : Type 0} (one : S → Result (X × S) CertFault) (front : List X) (count i : ℕ) (p : S) (t : X) (after : S) (total : Result (List X × S) CertFault) → i < count → one p ≡ Ok (t, after)
    → with_front front (many_from one (count - i) p) ≡ total → with_front (front ++ t ∷ []) (many_from one (count - (i + 1)) after) ≡ total
goes_on one front count i p t after total lt h so_far =
    let k : count - i ≡ suc (count - (i + 1)) = omega arith in
    let here : with_front front (many_from one (count - i) p) ≡ with_front (front ++ t ∷ []) (many_from one (count - (i + 1)) after) = rw (k, h) (regroup front t (many_from one (count - (i + 1)) after)) in
    sym here ∙ so_far

pub ends : {X S : Type 0} (one : S → Result (X × S) CertFault) (e : CertFault) (front : List X) (count i : ℕ) (p : S) (total : Result (List X × S) CertFault) → i < count → Fails e (one p)
    → with_front front (many_from one (count - i) p) ≡ total → Fails e total
ends one e front count i p total lt h so_far =
    let k : count - i ≡ suc (count - (i + 1)) = omega arith in
    fails_as e (one p) total (λ f is. let here : with_front front (many_from one (count - i) p) ≡ Err f = rw (k, is) refl in sym so_far ∙ here) h

starts : {X S : Type 0} (front : List X) (read : Result (List X × S) CertFault) → front ≡ [] → with_front front read ≡ read
starts front (Ok x) none = ap (λ l. Ok (l ++ x.0, x.1)) none
starts front (Err f) none = refl

-- none was read so far
pub many_begin : {X S : Type 0} (one : S → Result (X × S) CertFault) (front : List X) (count : ℕ) (p : S) → front ≡ [] → with_front front (many_from one (count - 0) p) ≡ many_from one count p
many_begin one front count p none =
    let k : count - 0 ≡ count = omega arith in
    rw k (starts front (many_from one count p) none)

-- all were read
pub many_end : {X S : Type 0} (one : S → Result (X × S) CertFault) (front : List X) (count i : ℕ) (p : S) (total : Result (List X × S) CertFault) → count ≤ i
    → with_front front (many_from one (count - i) p) ≡ total → total ≡ Ok (front, p)
many_end one front count i p total le so_far =
    let k : count - i ≡ 0 = omega arith in
    let here : with_front front (many_from one (count - i) p) ≡ Ok (front, p) = rw k (ap (λ l. Ok (l, p)) (append-nil front)) in
    sym so_far ∙ here

-- ---- units, for as long as a line of one is next

pub units_go_on : (front : List UnitLine) (count i : ℕ) (p : At) (u : UnitLine) (after : At) (total : Result (List UnitLine × At) CertFault) → i < count → is_unit_next p ≡ true → unit_at p ≡ Ok (u, after)
    → with_front front (units_from (count - i) p) ≡ total → with_front (front ++ u ∷ []) (units_from (count - (i + 1)) after) ≡ total
units_go_on front count i p u after total lt next h so_far =
    let k : count - i ≡ suc (count - (i + 1)) = omega arith in
    let here : with_front front (units_from (count - i) p) ≡ with_front (front ++ u ∷ []) (units_from (count - (i + 1)) after) = rw (k, next, h) (regroup front u (units_from (count - (i + 1)) after)) in
    sym here ∙ so_far

pub units_fail : (e : CertFault) (front : List UnitLine) (count i : ℕ) (p : At) (total : Result (List UnitLine × At) CertFault) → i < count → is_unit_next p ≡ true → Fails e (unit_at p)
    → with_front front (units_from (count - i) p) ≡ total → Fails e total
units_fail e front count i p total lt next h so_far =
    let k : count - i ≡ suc (count - (i + 1)) = omega arith in
    fails_as e (unit_at p) total (λ f is. let here : with_front front (units_from (count - i) p) ≡ Err f = rw (k, next, is) refl in sym so_far ∙ here) h

pub units_stop : (front : List UnitLine) (count i : ℕ) (p : At) (total : Result (List UnitLine × At) CertFault) → i < count → is_unit_next p ≡ false
    → with_front front (units_from (count - i) p) ≡ total → total ≡ Ok (front, p)
units_stop front count i p total lt next so_far =
    let k : count - i ≡ suc (count - (i + 1)) = omega arith in
    let here : with_front front (units_from (count - i) p) ≡ Ok (front, p) = rw (k, next) (ap (λ l. Ok (l, p)) (append-nil front)) in
    sym so_far ∙ here

pub units_end : (front : List UnitLine) (count i : ℕ) (p : At) (total : Result (List UnitLine × At) CertFault) → count ≤ i
    → with_front front (units_from (count - i) p) ≡ total → total ≡ Ok (front, p)
units_end front count i p total le so_far =
    let k : count - i ≡ 0 = omega arith in
    let here : with_front front (units_from (count - i) p) ≡ Ok (front, p) = rw k (ap (λ l. Ok (l, p)) (append-nil front)) in
    sym so_far ∙ here

-- ---- words of digits

pub numbers_go_on : (more i : ℕ) (rest word after : List ℕ) (total : Bool) → i < more → cut 32 rest ≡ Some (word, after) → is_number word ≡ true → are_numbers (more - i) rest ≡ total → are_numbers (more - (i + 1)) after ≡ total
numbers_go_on more i rest word after total lt parts digits so_far =
    let k : more - i ≡ suc (more - (i + 1)) = omega arith in
    let here : are_numbers (more - i) rest ≡ are_numbers (more - (i + 1)) after = rw (k, parts, digits) refl in
    sym here ∙ so_far

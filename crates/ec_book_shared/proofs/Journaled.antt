-- Two cursors, one over a log and one over receipts.
-- The invariant is what is left of both (`Goes`); an entry of the worker takes one from each.
use Rattle.std.proofs.Common.{◌≡◌, ◌≢◌, ℕ, zero, suc, ◌+◌, ◌<◌, ◌≤◌, ◌==◌, true, List, [], ◌∷◌, length, drop, get_or, filter, map, refl, sym, ap, ◌∙◌, arith, drop-cons, drop_of_length-le, add-one}
use Rattle.std.specs.Prelude.{◌↔◌}
use Rattle.std.specs.List.{list_any}
use Rattle.std.proofs.lemmas.Bool.{eq-eqb, ne_eqb, or_right}
use Rattle.ec_book.specs.declared.step.Step.{Step}
use Rattle.ec_book_shared.specs.Receipts.{worker_of, AreOwn}
use Rattle.ec_book_shared.specs.Seats.{SeatView}

-- the receipts are the worker's entries of the log just where those that are left are the ones of what is left of the log
abbrev pub Goes : ℕ → List Step → List Step → List Step → ℕ → Type 0
Goes w receipts log left i = AreOwn w receipts log ↔ AreOwn w left (drop i log)

head_of : {x y : Step} {xs ys : List Step} → x ∷ xs ≡ y ∷ ys → x ≡ y
head_of e = cc

tail_of : {x y : Step} {xs ys : List Step} → x ∷ xs ≡ y ∷ ys → xs ≡ ys
tail_of e = cc

filter-own : (w : ℕ) (e : Step) (es : List Step) → worker_of e ≡ w → filter (λ x. worker_of x == w) (e ∷ es) ≡ e ∷ filter (λ x. worker_of x == w) es
filter-own w e es is = rw (eq-eqb (worker_of e) w is) refl

filter-other : (w : ℕ) (e : Step) (es : List Step) → worker_of e ≢ w → filter (λ x. worker_of x == w) (e ∷ es) ≡ filter (λ x. worker_of x == w) es
filter-other w e es other = rw (ne_eqb (worker_of e) w other) refl

at : (log : List Step) (i : ℕ) (e : Step) → i < length log → e ≡ get_or log i e → drop i log ≡ e ∷ drop (i + 1) log
at log i e lt is = rw add-one (drop-cons log i e lt ∙ ap (λ x. x ∷ drop (suc i) log) (sym is))

module _ (w : ℕ) (receipts log left : List Step) (i : ℕ) (e : Step) (lt : i < length log) (is : e ≡ get_or log i e) (goes : Goes w receipts log left i) where
  -- an entry of another worker
  pub goes-other : worker_of e ≢ w → Goes w receipts log left (i + 1)
  goes-other other =
      let same = ap (λ es. filter (λ x. worker_of x == w) es) (at log i e lt is) ∙ filter-other w e (drop (i + 1) log) other in
      (λ h. goes.0 h ∙ same, λ h. goes.1 (h ∙ sym same))

  -- the worker's own, which is the next receipt
  pub goes-own : (r : Step) (later : List Step) → worker_of e ≡ w → left ≡ r ∷ later → r ≡ e → Goes w receipts log later (i + 1)
  goes-own r later own next agrees =
      let same = ap (λ es. filter (λ x. worker_of x == w) es) (at log i e lt is) ∙ filter-own w e (drop (i + 1) log) own in
      (λ h. tail_of (sym next ∙ goes.0 h ∙ same), λ h. goes.1 (next ∙ (λ j. agrees j ∷ h j) ∙ sym same))

  -- it is another one
  pub goes-wrong : (r : Step) (later : List Step) → worker_of e ≡ w → left ≡ r ∷ later → r ≢ e → AreOwn w receipts log → ⊥
  goes-wrong r later own next differs h =
      let same = ap (λ es. filter (λ x. worker_of x == w) es) (at log i e lt is) ∙ filter-own w e (drop (i + 1) log) own in
      differs (head_of (sym next ∙ goes.0 h ∙ same))

  -- there is none
  pub goes-short : worker_of e ≡ w → length left ≡ 0 → AreOwn w receipts log → ⊥
  goes-short own none h =
      let same = ap (λ es. filter (λ x. worker_of x == w) es) (at log i e lt is) ∙ filter-own w e (drop (i + 1) log) own in
      let long : length left ≡ length (e ∷ filter (λ x. worker_of x == w) (drop (i + 1) log)) = ap length (goes.0 h ∙ same) in
      absurd (omega (arith, long, none))

-- at the end of the log
pub goes-end : (w : ℕ) (receipts log left : List Step) (i : ℕ) → length log ≤ i → Goes w receipts log left i → (AreOwn w receipts log ↔ (length left ≡ 0))
goes-end w receipts log left i end goes =
    let same = ap (λ es. filter (λ x. worker_of x == w) es) (drop_of_length-le log end) in
    (λ h. ap length (goes.0 h ∙ same), λ h. goes.1 (empty left h ∙ sym same))
  where
    empty : (es : List Step) → length es ≡ 0 → es ≡ []
    empty [] h = refl
    empty (x ∷ xs) h = absurd (omega (arith, h))

-- a seat of this worker
pub any-worker : (w : ℕ) (seats : List SeatView) → list_any (λ v. v == w) (map (λ s. s.worker) seats) ≡ list_any (λ s. s.worker == w) seats
any-worker w [] = refl
any-worker w (s ∷ seats) = rw (any-worker w seats) refl

pub any-at : (w : ℕ) (seats : List SeatView) (i : ℕ) (d : SeatView) → i < length seats → (get_or seats i d).worker ≡ w → list_any (λ s. s.worker == w) seats ≡ true
any-at w [] i d lt is = absurd (omega (arith, lt))
any-at w (s ∷ seats) zero d lt is = rw (eq-eqb s.worker w is) refl
any-at w (s ∷ seats) (suc i) d lt is = or_right (s.worker == w) (list_any (λ x. x.worker == w) seats) (any-at w seats i d (omega (arith, lt)) is)

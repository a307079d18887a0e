-- What is judged of each byte of a frame.
use Rattle.std.proofs.Common.{◌≡◌, ℕ, ◌+◌, ◌<◌, ◌≤◌, ◌==◌, ◌&&◌, ◌||◌, Bool, true, false, true≢false, min, ◌-◌, List, take, drop, length-take, length-drop, [], ◌∷◌, None, length, get_or, inl, inr, refl, sym, ap, ◌∙◌, arith}
use Rattle.std.specs.Prelude.{nat_le, nat_lt}
use Rattle.std.specs.List.{list_all, range_with_len}
use Rattle.std.proofs.lemmas.Bool.{eqb-true, eq-eqb, and_parts, and_from, cases_lt, false_from_ne_true}
use Rattle.std.proofs.lemmas.Bool.Decides.{nat_tests}
use Rattle.std.proofs.lemmas.List.{ext_get_or, get_or_past, get_or-take, get_or-drop}
use Rattle.std.proofs.lemmas.List.Folds.{list_all_at}
use Rattle.std.proofs.lemmas.List.FromFn.{get_or-range_with_len, length-range_with_len}
use Rattle.ec_frames.specs.Reading.{Entry}
use Rattle.ec_slave.specs.Requests.{row_of}
use Rattle.ec_slave.specs.Step.{is_raised}
use Rattle.ec_player.specs.Faults.{is_open, may_change, is_reply_of, first_wrong}

all-each : (p : ℕ → Bool) (xs : List ℕ) → ((k : ℕ) → p k ≡ true) → list_all p xs ≡ true
all-each p [] h = refl
all-each p (x ∷ xs) h = and_from (p x) (list_all p xs) (h x) (all-each p xs h)

from-zero : (k : ℕ) → 0 + k ≡ k
from-zero k = omega arith

all-at : (p : ℕ → Bool) (n k : ℕ) (b : Bool) → k < n → list_all p (range_with_len 0 n) ≡ true → p k ≡ b → b ≡ true
all-at p n k true l h e = refl
all-at p n k false l h e =
    let here : p (get_or (range_with_len 0 n) k 0) ≡ false = ap p (get_or-range_with_len 0 n k 0 l ∙ from-zero k) ∙ e in
    absurd (true≢false (sym h ∙ list_all_at p (range_with_len 0 n) k 0 (let long = length-range_with_len 0 n in omega (arith, l, long)) here))

-- a byte that isn't in a datagram's open parts
none-open : (b x y : Bool) → x ≡ false → y ≡ false → ((b && x) || y) ≡ false
none-open true x y e f = λ i. e i || f i
none-open false x y e f = f

pub open-early : (at : ℕ) (d : Entry) (k : ℕ) → k < at → is_open at d k ≡ false
open-early at d k l =
    none-open (is_raised (row_of d.command).kind) (nat_le (at + 2) k && nat_lt k (at + 4)) (nat_le (at + 10) k && nat_lt k (at + 12 + length d.bytes)) (grind (arith, nat_tests)) (grind (arith, nat_tests))

pub open-late : (at : ℕ) (d : Entry) (k : ℕ) → at + (length d.bytes + 12) ≤ k → is_open at d k ≡ false
open-late at d k l =
    none-open (is_raised (row_of d.command).kind) (nat_le (at + 2) k && nat_lt k (at + 4)) (nat_le (at + 10) k && nat_lt k (at + 12 + length d.bytes)) (grind (arith, nat_tests)) (grind (arith, nat_tests))

-- no byte before the datagrams may change
pub closed-before : (at : ℕ) (ds : List Entry) (k : ℕ) → k < at → may_change at ds k ≡ false
closed-before at [] k l = refl
closed-before at (d ∷ ds) k l = λ i. open-early at d k l i || closed-before (at + (length d.bytes + 12)) ds k (omega (arith, l)) i

past-same : (sent back : List ℕ) (k : ℕ) → length back ≡ length sent → length sent ≤ k → get_or back k 0 ≡ get_or sent k 0
past-same sent back k len l = get_or_past back k 0 (omega (arith, len, l)) ∙ sym (get_or_past sent k 0 l)

-- two frames from one place up to another, as far as they go
piece-at : (xs : List ℕ) (from end j : ℕ) → j < end - from → get_or (take (end - from) (drop from xs)) j 0 ≡ get_or xs (from + j) 0
piece-at xs from end j l = get_or-take (end - from) (drop from xs) j 0 l ∙ get_or-drop from xs j 0

pub piece-each : (sent back : List ℕ) (from end to : ℕ) → end ≡ min to (length sent) → length back ≡ length sent → take (end - from) (drop from sent) ≡ take (end - from) (drop from back) →
    (k : ℕ) → from ≤ k → k < to → get_or back k 0 ≡ get_or sent k 0
piece-each sent back from end to is len same k low high =
    elim (cases_lt k end) [
      | inl l ↦
          let at : from + (k - from) ≡ k = omega (arith, low) in
          let j : k - from < end - from = omega (arith, low, l) in
          sym (piece-at back from end (k - from) j ∙ ap (λ i. get_or back i 0) at) ∙ ap (λ (x : List ℕ). get_or x (k - from) 0) (sym same) ∙ piece-at sent from end (k - from) j ∙ ap (λ i. get_or sent i 0) at
      | inr l ↦ past-same sent back k len (omega (arith, is, l, high))
    ]

pub each-piece : (sent back : List ℕ) (from end to : ℕ) → end ≡ min to (length sent) → length back ≡ length sent → ((k : ℕ) → from ≤ k → k < to → get_or back k 0 ≡ get_or sent k 0) →
    take (end - from) (drop from sent) ≡ take (end - from) (drop from back)
each-piece sent back from end to is len each =
    let a = length-take (end - from) (drop from sent) in
    let b = length-take (end - from) (drop from back) in
    let c = length-drop from sent in
    let d = length-drop from back in
    ext_get_or 0 (take (end - from) (drop from sent)) (take (end - from) (drop from back)) (omega (arith, a, b, c, d, len))
    (λ j l.
    let inside : j < end - from = omega (arith, l, a, c) in
    piece-at sent from end j inside ∙ sym (each (from + j) (omega arith) (omega (arith, inside, is))) ∙ sym (piece-at back from end j inside))

closed-or : (b : Bool) (y z : ℕ) → (b ≡ false → y ≡ z) → (b || (y == z)) ≡ true
closed-or true y z h = refl
closed-or false y z h = eq-eqb y z (h refl)

or-closed : (b : Bool) (y z : ℕ) → b ≡ false → (b || (y == z)) ≡ true → y ≡ z
or-closed true y z e h = absurd (true≢false e)
or-closed false y z e h = eqb-true y z h

-- each byte of two frames that no slave may change is the same
abbrev pub AreKept : List Entry → List ℕ → List ℕ → Type 0
AreKept ds sent back = (k : ℕ) → may_change 16 ds k ≡ false → get_or back k 0 ≡ get_or sent k 0

pub reply-from : (ds : List Entry) (sent back : List ℕ) → length back ≡ length sent → ((k : ℕ) → k < length sent → may_change 16 ds k ≡ false → get_or back k 0 ≡ get_or sent k 0) → is_reply_of ds sent back ≡ true
unfolding is_reply_of
reply-from ds sent back len each =
    let p : ℕ → Bool = λ k. may_change 16 ds k || (get_or back k 0 == get_or sent k 0) in
    let kept : (k : ℕ) → p k ≡ true = λ k.
    elim (cases_lt k (length sent)) [
      | inl l ↦ closed-or (may_change 16 ds k) (get_or back k 0) (get_or sent k 0) (each k l)
      | inr l ↦ closed-or (may_change 16 ds k) (get_or back k 0) (get_or sent k 0) (λ c. past-same sent back k len l)
    ] in
    and_from (length back == length sent) (list_all p (range_with_len 0 (length sent))) (eq-eqb (length back) (length sent) len) (all-each p (range_with_len 0 (length sent)) kept)

pub reply-length : (ds : List Entry) (sent back : List ℕ) → is_reply_of ds sent back ≡ true → length back ≡ length sent
unfolding is_reply_of
reply-length ds sent back h =
    eqb-true (length back) (length sent) (and_parts (length back == length sent) (list_all (λ k. may_change 16 ds k || (get_or back k 0 == get_or sent k 0)) (range_with_len 0 (length sent))) h).0

pub reply-kept : (ds : List Entry) (sent back : List ℕ) → is_reply_of ds sent back ≡ true → AreKept ds sent back
unfolding is_reply_of
reply-kept ds sent back h = λ k c.
    let p : ℕ → Bool = λ k. may_change 16 ds k || (get_or back k 0 == get_or sent k 0) in
    let both = and_parts (length back == length sent) (list_all p (range_with_len 0 (length sent))) h in
    elim (cases_lt k (length sent)) [
      | inl l ↦ or-closed (may_change 16 ds k) (get_or back k 0) (get_or sent k 0) c (all-at p (length sent) k (p k) l both.1 refl)
      | inr l ↦ past-same sent back k (eqb-true (length back) (length sent) both.0) l
    ]

-- no reply, since bytes differ that no slave may change
pub not-reply : (ds : List Entry) (sent back : List ℕ) (b : Bool) → b ≡ false → (AreKept ds sent back → b ≡ true) → is_reply_of ds sent back ≡ false
not-reply ds sent back b e h = false_from_ne_true (is_reply_of ds sent back) (λ t. true≢false (sym (h (reply-kept ds sent back t)) ∙ e))

pub first_wrong-none : (k : ℕ) (ws : List ℕ) → first_wrong k ws [] ≡ None
first_wrong-none k [] = refl
first_wrong-none k (w ∷ ws) = refl

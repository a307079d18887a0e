-- What would be too much with one item more.
use Rattle.std.proofs.Common.{◌≡◌, ℕ, ◌+◌, ◌%◌, ◌<◌, ◌≤◌, min, List, get_or, Option, Some, None, MatchOption, IfSome, refl, sym, ap, ◌∙◌, subst, arith, inl, inr}
use Rattle.std.proofs.lemmas.Bool.{eq-eqb}
use Rattle.ec_loads.specs.declared.item.Item.{Item}
use Rattle.ec_loads.specs.declared.excess.Excess.{Excess}
use Rattle.ec_loads.specs.declared.excess.Excess.TheVariants.{Payload, Cost}
use Rattle.ec_loads.specs.Cost.{payload, tick_cost}
use Rattle.ec_loads.specs.Table.{cell_cost, group_at, HoldsItems, IsOneMore}
use Rattle.ec_loads.specs.Excess.{IsExcess, IsTableExcess, IsFirstRaised, StaysBelow, cell_at}
use Rattle.ec_loads.proofs.CellLemmas.{one_remainder}
use Rattle.ec_loads.proofs.StepLemmas.{lt_or_le}
use Rattle.ec_loads.proofs.MoreLemmas.{payload-more, added-sent}
use Rattle.ec_loads.proofs.TrafficLemmas.{header, slot_on, tick_cost-more}

-- the ticks of a phase below the next one
pub next_tick : (P : ℕ → Type 0) (p f k h : ℕ) → k % p ≡ f → ((i : ℕ) → i < h → i < k → i % p ≡ f → P i) → P k → (i : ℕ) → i < h → i < k + p → i % p ≡ f → P i
next_tick P p f k h turn before here i within low on =
    elim (lt_or_le i k) [
      | inl lt ↦ before i within lt on
      | inr le ↦ subst P (one_remainder p k i (turn ∙ sym on) le low) here
    ]

-- the first tick that reaches the value, of one more
pub raised_step :
    (cells costs : List ℕ) (h p f s b v k c : ℕ) (o r : Option ℕ) → k < h → 0 < p → k % p ≡ f →
    IsFirstRaised cells costs (min k h) p f s b v o →
    c + cell_cost (cell_at cells s k) ≡ get_or costs k 0 + cell_cost (cell_at cells s k + b) →
    IfSome o (λ t. r ≡ Some t) → (o ≡ None → v ≤ c → r ≡ Some k) → (o ≡ None → c < v → r ≡ None) →
    IsFirstRaised cells costs (min (k + p) h) p f s b v r
raised_step cells costs h p f s b v k c (Some t) r within pos turn found cost kept reached below =
    subst (λ o. IsFirstRaised cells costs (min (k + p) h) p f s b v o) (sym kept)
    (let low = found.0 in (omega (arith, low, within), found.1, found.2, found.3))
raised_step cells costs h p f s b v k c None r within pos turn found cost kept reached below =
    elim (lt_or_le c v) [
      | inl lt ↦
          subst (λ o. IsFirstRaised cells costs (min (k + p) h) p f s b v o) (sym (below refl lt))
          (λ i low on. next_tick (StaysBelow cells costs s b v) p f k h turn (λ j inside lower at. found j (omega (arith, inside, lower)) at) (omega (arith, lt, cost)) i (omega (arith, low)) (omega (arith, low)) on)
      | inr le ↦
          subst (λ o. IsFirstRaised cells costs (min (k + p) h) p f s b v o) (sym (reached refl le))
          (omega (arith, within, pos), turn, omega (arith, le, cost), λ i low on. found i (omega (arith, low, within)) on)
    ]

-- where the ticks end, by what was found
pub raised_end :
    (cells costs : List ℕ) (h p f s b v k : ℕ) (o : Option ℕ) → h ≤ k →
    ((i : ℕ) → i < h → i < k → i % p ≡ f → cell_at cells s i + b ≤ 1498) → IsFirstRaised cells costs (min k h) p f s b v o →
    MatchOption o (IsTableExcess cells costs h p f s b v None) (λ t. IsTableExcess cells costs h p f s b v (Some (Cost t)))
raised_end cells costs h p f s b v k None past fits found = λ i low on. (fits i low (omega (arith, low, past)) on, found i (omega (arith, low, past)) on)
raised_end cells costs h p f s b v k (Some t) past fits found =
    let low = found.0 in (omega (arith, low), found.1, found.2, found.3, λ i inside on. fits i inside (omega (arith, inside, past)) on)

-- in a tick in which it travels, an item adds its bytes, and a header where it is the first of its group
cell_more :
    (x : Item) {xs ys : List Item} (n h head : ℕ) (counts cells costs raws : List ℕ) (total q c : ℕ) →
    HoldsItems xs n h counts cells costs raws total q c → IsOneMore x xs ys → x.period ≤ 60 → x.phase < x.period → x.slot < n →
    (get_or counts (group_at x.period x.phase x.slot) 0 ≡ 0 → head ≡ 12) → (0 < get_or counts (group_at x.period x.phase x.slot) 0 → head ≡ 0) →
    (t : ℕ) → t < h → t % x.period ≡ x.phase → cell_at cells x.slot t + (head + x.bytes) ≡ payload ys t x.slot
cell_more x {xs = xs} n h head counts cells costs raws total q c k m small low within first more t below on =
    let same = k.counted x.period x.phase x.slot small low within in
    let on_slot = slot_on x t on in
    let more_is = payload-more t x.slot x m in
    let z = added-sent t x.slot x xs on_slot in
    let w = header x t x.slot head xs (eq-eqb (t % x.period) x.phase on) (λ e. first (same ∙ e)) (λ e. more (omega (arith, same, e))) in
    let old = k.carried t x.slot below within in
    omega (arith, more_is, z, w, old)

-- what a tick then costs
cost_more :
    (x : Item) {xs ys : List Item} (n h head : ℕ) (counts cells costs raws : List ℕ) (total q c : ℕ) →
    HoldsItems xs n h counts cells costs raws total q c → IsOneMore x xs ys → x.slot < n →
    (t : ℕ) → t < h → cell_at cells x.slot t + (head + x.bytes) ≡ payload ys t x.slot →
    tick_cost ys n t + cell_cost (cell_at cells x.slot t) ≡ get_or costs t 0 + cell_cost (cell_at cells x.slot t + (head + x.bytes))
cost_more x n h head counts cells costs raws total q c k m within t below is =
    let step = tick_cost-more x n t m within in
    let old = k.cost t below in
    let p = ap cell_cost (k.carried t x.slot below within) in
    let w = ap cell_cost is in
    omega (arith, step, old, p, w)

-- what a table tells of the payloads and costs, by each answer
by_answer :
    (cells costs : List ℕ) (h p f s b v n : ℕ) (ys : List Item) (r : Option Excess) → IsTableExcess cells costs h p f s b v r →
    ((t : ℕ) → t < h → t % p ≡ f → cell_at cells s t + b ≡ payload ys t s) →
    ((t : ℕ) → t < h → t % p ≡ f → tick_cost ys n t + cell_cost (cell_at cells s t) ≡ get_or costs t 0 + cell_cost (cell_at cells s t + b)) →
    IsExcess ys n h p f s v r
by_answer cells costs h p f s b v n ys None is cell cost =
    λ i below on.
    let at = is i below on in
    let a = cell i below on in
    let c = cost i below on in
    (omega (arith, at.0, a), omega (arith, at.1, c))
by_answer cells costs h p f s b v n ys (Some (Payload t)) is cell cost = record {
  below = is.0;
  travels = is.1;
  above = let a = cell t is.0 is.1 in let k = is.2 in omega (arith, a, k);
  first = λ i less on. let l = is.0 in let a = cell i (omega (arith, less, l)) on in let k = is.3 i less on in omega (arith, a, k);
}
by_answer cells costs h p f s b v n ys (Some (Cost t)) is cell cost = record {
  below = is.0;
  travels = is.1;
  reached = let a = cost t is.0 is.1 in let k = is.2 in omega (arith, a, k);
  first = λ i less on. let l = is.0 in let a = cost i (omega (arith, less, l)) on in let k = is.3 i less on in omega (arith, a, k);
  fits = λ i below on. let a = cell i below on in let k = is.4 i below on in omega (arith, a, k);
}

pub excess_of :
    (x : Item) {xs ys : List Item} (n h head v : ℕ) (counts cells costs raws : List ℕ) (total q c : ℕ) (r : Option Excess) →
    HoldsItems xs n h counts cells costs raws total q c → IsOneMore x xs ys → x.period ≤ 60 → x.phase < x.period → x.slot < n →
    (get_or counts (group_at x.period x.phase x.slot) 0 ≡ 0 → head ≡ 12) → (0 < get_or counts (group_at x.period x.phase x.slot) 0 → head ≡ 0) →
    IsTableExcess cells costs h x.period x.phase x.slot (head + x.bytes) v r → IsExcess ys n h x.period x.phase x.slot v r
excess_of x {ys = ys} n h head v counts cells costs raws total q c r k m small low within first more is =
    let cell = cell_more x n h head counts cells costs raws total q c k m small low within first more in
    by_answer cells costs h x.period x.phase x.slot (head + x.bytes) v n ys r is cell
    (λ t below on. cost_more x n h head counts cells costs raws total q c k m within t below (cell t below on))

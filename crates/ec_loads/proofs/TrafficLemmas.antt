-- A table of items stays one where one item more is counted in, or out.
-- The table's contract speaks of any items (`IsOneMore xs ys → HoldsItems xs old → HoldsItems ys new`) and knows
-- nothing of `Loads`; all laws on one item more or less go over `IsOneMore`.
use Rattle.std.proofs.Common.{◌⊎◌, mul-suc, ◌≡◌, ◌≢◌, ℕ, zero, suc, ◌+◌, ◌-◌, ◌*◌, ◌%◌, ◌<◌, ◌≤◌, ◌==◌, ◌&&◌, ◌||◌, Bool, true, false, cond, List, [], ◌∷◌, ◌++◌, take, drop, take_all, append-nil, drop_of_length-le, replicate, length, set, get_or, get_or-set_other, get_or-set_same, sum_by, inl, inr, refl, sym, subst, ap, ◌∙◌, arith}
use Rattle.std.specs.List.{list_any, count_by}
use Rattle.std.proofs.lemmas.Bool.{eqb-true, eq-eqb, cases_Bool, and_parts, and_from, true≢false}
use Rattle.std.proofs.lemmas.Bool.Decides.{eqb_tells}
use Rattle.std.proofs.lemmas.List.{length-set, length-replicate, get_or-replicate, get_or_past}
use Rattle.std.proofs.lemmas.List.Folds.{sum_by-replicate}
use Rattle.std.proofs.lemmas.List.Elements.{All-head, All-tail}
use Rattle.std.proofs.lemmas.Nat.{mod_below}
use Rattle.std.proofs.Math.Nat.{mul-le-mul_left, le_trans}
use Rattle.std.proofs.lemmas.List.Sums.{sum_by-cons, count_by-le-length}
use Rattle.ec_hyper.specs.Travel.{travels}
use Rattle.ec_wire.specs.Wire.{wire_of, raw_of}
use Rattle.ec_loads.specs.declared.item.Item.{Item}
use Rattle.ec_loads.specs.Cost.{is_sent, group, same_group, payload, has_group, added, slot_cost, slot_raw, tick_cost, raw_cost, sum_below, is_busy, AreUnits, DivideAll}
use Rattle.ec_loads.specs.Table.{cell_cost, cell_raw, is_in, group_at, HoldsItems, IsOneMore}
use Rattle.ec_loads.proofs.PayloadLemmas.{payload-cons, payload-nil}
use Rattle.ec_loads.proofs.CostLemmas.{sum_below-agree, tick_cost-mod}
use Rattle.ec_loads.proofs.MoreLemmas.{same_group-is, payload-more, added-idle, added-sent, count-more}
use Rattle.ec_loads.proofs.StepLemmas.{lt_or_le}
use Rattle.ec_loads.proofs.CellLemmas.{cell_cost-zero, cell_raw-zero, cell_cost-some, cell_raw-some, cell_cost-le, cell_raw-le, cell_cost-more}

never : (b : Bool) → (b && false) ≡ false
never true = refl
never false = refl

-- in a tick in which a group travels, its items are those of its period, phase and slot
in_group : (p f t s : ℕ) (x : Item) → travels p f t ≡ true → (is_sent t s x && same_group (p, f) (group x)) ≡ is_in p f s x
in_group p f t s x on =
    elim (cases_Bool (same_group (p, f) (group x))) [
      | inl eq ↦
          let is = same_group-is (p, f) (group x) eq in
          let sent : travels x.period x.phase t ≡ true = ap (λ g. travels g.0 g.1 t) (sym is) ∙ on in
          ap (λ b. (b && (x.slot == s)) && same_group (p, f) (group x)) sent
      | inr ne ↦
          ap (λ b. is_sent t s x && b) ne ∙ never (is_sent t s x) ∙ sym (never (x.slot == s)) ∙ sym (ap (λ b. (x.slot == s) && b) ne)
    ]

pub has_group-in : (p f t s : ℕ) (xs : List Item) → travels p f t ≡ true → has_group (p, f) t s xs ≡ list_any (is_in p f s) xs
has_group-in p f t s [] on = refl
has_group-in p f t s (x ∷ xs) on = λ i. in_group p f t s x on i || has_group-in p f t s xs on i

-- something is in a group where it counts some
pub any-count : (g : Item → Bool) (xs : List Item) → ((list_any g xs ≡ true) × (0 < count_by g xs)) ⊎ ((list_any g xs ≡ false) × (count_by g xs ≡ 0))
any-count g [] = inr (refl, refl)
any-count g (x ∷ xs) =
    let more = sum_by-cons (λ y. cond (g y) 1 0) x xs in
    elim (cases_Bool (g x)) [
      | inl eq ↦ let one = ap {B = ℕ} (λ b. cond b 1 0) eq in inl (ap (λ b. b || list_any g xs) eq, omega (arith, more, one))
      | inr ne ↦
          let none = ap {B = ℕ} (λ b. cond b 1 0) ne in
          elim (any-count g xs) [
            | inl h ↦ let k = h.1 in inl (ap (λ b. b || list_any g xs) ne ∙ h.0, omega (arith, more, none, k))
            | inr h ↦ let k = h.1 in inr (ap (λ b. b || list_any g xs) ne ∙ h.0, omega (arith, more, none, k))
          ]
    ]

-- the header that an item needs, by how many others its group has
pub header : (x : Item) (t s head : ℕ) (xs : List Item) → travels x.period x.phase t ≡ true →
    (count_by (is_in x.period x.phase s) xs ≡ 0 → head ≡ 12) → (0 < count_by (is_in x.period x.phase s) xs → head ≡ 0) →
    cond (has_group (group x) t s xs) 0 12 ≡ head
header x t s head xs on first more =
    let e = has_group-in x.period x.phase t s xs on in
    elim (any-count (is_in x.period x.phase s) xs) [
      | inl h ↦ ap (λ b. cond b 0 12) (e ∙ h.0) ∙ sym (more h.1)
      | inr h ↦ ap (λ b. cond b 0 12) (e ∙ h.0) ∙ sym (first h.1)
    ]

group_busy : (t s : ℕ) (g : ℕ × ℕ) (xs : List Item) → has_group g t s xs ≡ true → is_busy xs t s ≡ true
group_busy t s g [] h = h
group_busy t s g (x ∷ xs) h =
    elim (cases_Bool (is_sent t s x)) [
      | inl eq ↦ ap (λ b. b || is_busy xs t s) eq
      | inr ne ↦ ap (λ b. b || is_busy xs t s) ne ∙ group_busy t s g xs (sym (ap (λ b. (b && same_group g (group x)) || has_group g t s xs) ne) ∙ h)
    ]

-- a slot that carries something has a payload
pub busy-payload : (t s : ℕ) (xs : List Item) → ((is_busy xs t s ≡ true) × (0 < payload xs t s)) ⊎ ((is_busy xs t s ≡ false) × (payload xs t s ≡ 0))
busy-payload t s [] = inr (refl, payload-nil t s)
busy-payload t s (x ∷ xs) =
    let more = payload-cons x xs t s in
    elim (cases_Bool (is_sent t s x)) [
      | inl eq ↦
          let first = added-sent t s x xs eq in
          elim (cases_Bool (has_group (group x) t s xs)) [
            | inl same ↦
                let there : is_busy xs t s ≡ true = group_busy t s (group x) xs same in
                elim (busy-payload t s xs) [
                  | inl h ↦ let k = h.1 in inl (ap (λ b. b || is_busy xs t s) eq, omega (arith, more, k))
                  | inr h ↦ absurd (true≢false (sym there ∙ h.0))
                ]
            | inr none ↦ let head = ap {B = ℕ} (λ b. cond b 0 12) none in inl (ap (λ b. b || is_busy xs t s) eq, omega (arith, more, first, head))
          ]
      | inr ne ↦
          let nothing = added-idle t s x xs ne in
          elim (busy-payload t s xs) [
            | inl h ↦ let k = h.1 in inl (ap (λ b. b || is_busy xs t s) ne ∙ h.0, omega (arith, more, nothing, k))
            | inr h ↦ let k = h.1 in inr (ap (λ b. b || is_busy xs t s) ne ∙ h.0, omega (arith, more, nothing, k))
          ]
    ]

-- what a slot costs hangs on its payload alone
pub slot_cost-cell : (xs : List Item) (t s : ℕ) → slot_cost xs t s ≡ cell_cost (payload xs t s)
slot_cost-cell xs t s =
    elim (busy-payload t s xs) [
      | inl h ↦ ap (λ b. cond b (wire_of (2 + payload xs t s)) 0) h.0 ∙ (let e = cell_cost-some (payload xs t s) h.1 in omega (arith, e))
      | inr h ↦ ap (λ b. cond b (wire_of (2 + payload xs t s)) 0) h.0 ∙ sym (ap cell_cost h.1 ∙ cell_cost-zero)
    ]

pub slot_raw-cell : (xs : List Item) (t s : ℕ) → slot_raw xs t s ≡ cell_raw (payload xs t s)
slot_raw-cell xs t s =
    elim (busy-payload t s xs) [
      | inl h ↦ ap (λ b. cond b (raw_of (2 + payload xs t s)) 0) h.0 ∙ (let e = cell_raw-some (payload xs t s) h.1 in omega (arith, e))
      | inr h ↦ ap (λ b. cond b (raw_of (2 + payload xs t s)) 0) h.0 ∙ sym (ap cell_raw h.1 ∙ cell_raw-zero)
    ]

-- sums that differ in one term
pub sum_below-change : (f g : ℕ → ℕ) (n s : ℕ) → s < n → ((k : ℕ) → k < n → k ≢ s → f k ≡ g k) → sum_below g n + f s ≡ sum_below f n + g s
sum_below-change f g zero s h same = absurd (omega (arith, h))
sum_below-change f g (suc n) s h same =
    elim (eqb_tells s n) [
      | inl w ↦
          let rest = sum_below-agree f g n (λ k l. same k (omega arith) (let e = w.1 in λ q. omega (arith, e, q, l))) in
          let a = ap f w.1 in
          let b = ap g w.1 in
          omega (arith, rest, a, b)
      | inr w ↦
          let rest = sum_below-change f g n s (let e = w.1 in omega (arith, h, e)) (λ k l ne. same k (omega arith) ne) in
          let last = same n (omega arith) (λ q. w.1 (sym q)) in
          omega (arith, rest, last)
    ]

-- the cells of two tables, where the second has d more in the slot and the ticks of an item
pub record IsMoved (p f slot d h : ℕ) (olds news : List ℕ) : Type 0 where
  pub sent : (t : ℕ) → t < h → t % p ≡ f → get_or news (t * 8 + slot) 0 ≡ get_or olds (t * 8 + slot) 0 + d
  pub idle : (t : ℕ) → t < h → t % p ≢ f → get_or news (t * 8 + slot) 0 ≡ get_or olds (t * 8 + slot) 0
  pub slots : (t s : ℕ) → s < 8 → s ≢ slot → get_or news (t * 8 + s) 0 ≡ get_or olds (t * 8 + s) 0

slot_off : (x : Item) (t s : ℕ) → s ≢ x.slot → is_sent t s x ≡ false
slot_off x t s ne =
    elim (eqb_tells x.slot s) [
      | inl w ↦ absurd (ne (sym w.1))
      | inr w ↦ ap (λ b. travels x.period x.phase t && b) w.0 ∙ never (travels x.period x.phase t)
    ]

tick_off : (x : Item) (t s : ℕ) → t % x.period ≢ x.phase → is_sent t s x ≡ false
tick_off x t s ne =
    elim (eqb_tells (t % x.period) x.phase) [
      | inl w ↦ absurd (ne w.1)
      | inr w ↦ ap (λ b. b && (x.slot == s)) w.0
    ]

pub slot_on : (x : Item) (t : ℕ) → t % x.period ≡ x.phase → is_sent t x.slot x ≡ true
slot_on x t e = and_from (travels x.period x.phase t) (x.slot == x.slot) (eq-eqb (t % x.period) x.phase e) (eq-eqb x.slot x.slot refl)

-- so they differ by what the item adds
pub moved-added : (x : Item) (xs : List Item) (h head : ℕ) (olds news : List ℕ) → IsMoved x.period x.phase x.slot (head + x.bytes) h olds news →
    (count_by (is_in x.period x.phase x.slot) xs ≡ 0 → head ≡ 12) → (0 < count_by (is_in x.period x.phase x.slot) xs → head ≡ 0) →
    (t s : ℕ) → t < h → s < 8 → get_or news (t * 8 + s) 0 ≡ get_or olds (t * 8 + s) 0 + added t s x xs
moved-added x xs h head olds news m first more t s below within =
    elim (eqb_tells s x.slot) [
      | inr w ↦ let e = m.slots t s within w.1 in let z = added-idle t s x xs (slot_off x t s w.1) in omega (arith, e, z)
      | inl w ↦ subst (λ r. get_or news (t * 8 + r) 0 ≡ get_or olds (t * 8 + r) 0 + added t r x xs) (sym w.1)
          (elim (eqb_tells (t % x.period) x.phase) [
            | inr v ↦ let e = m.idle t below v.1 in let z = added-idle t x.slot x xs (tick_off x t x.slot v.1) in omega (arith, e, z)
            | inl v ↦
                let e = m.sent t below v.1 in
                let z = added-sent t x.slot x xs (slot_on x t v.1) in
                let k = header x t x.slot head xs v.0 first more in
                omega (arith, e, z, k)
          ])
    ]

-- what a tick costs, with and without the item
pub tick_cost-more : (x : Item) {xs ys : List Item} (n t : ℕ) → IsOneMore x xs ys → x.slot < n →
    tick_cost ys n t + cell_cost (payload xs t x.slot) ≡ tick_cost xs n t + cell_cost (payload ys t x.slot)
unfolding tick_cost
tick_cost-more x {xs = xs} {ys = ys} n t h within =
    let change = sum_below-change (slot_cost xs t) (slot_cost ys t) n x.slot within (λ k l ne.
    let e = payload-more t k x h in
    let z = added-idle t k x xs (slot_off x t k ne) in
    let same : payload xs t k ≡ payload ys t k = omega (arith, e, z) in
    slot_cost-cell xs t k ∙ ap cell_cost same ∙ sym (slot_cost-cell ys t k)) in
    let a = slot_cost-cell xs t x.slot in
    let b = slot_cost-cell ys t x.slot in
    omega (arith, change, a, b)

pub raw_cost-more : (x : Item) {xs ys : List Item} (n t : ℕ) → IsOneMore x xs ys → x.slot < n →
    raw_cost ys n t + cell_raw (payload xs t x.slot) ≡ raw_cost xs n t + cell_raw (payload ys t x.slot)
unfolding raw_cost
raw_cost-more x {xs = xs} {ys = ys} n t h within =
    let change = sum_below-change (slot_raw xs t) (slot_raw ys t) n x.slot within (λ k l ne.
    let e = payload-more t k x h in
    let z = added-idle t k x xs (slot_off x t k ne) in
    let same : payload xs t k ≡ payload ys t k = omega (arith, e, z) in
    slot_raw-cell xs t k ∙ ap cell_raw same ∙ sym (slot_raw-cell ys t k)) in
    let a = slot_raw-cell xs t x.slot in
    let b = slot_raw-cell ys t x.slot in
    omega (arith, change, a, b)

-- one group has one place among the counts
one_group : (p f s q g r : ℕ) → f < 60 → s < 8 → g < 60 → r < 8 → group_at p f s ≡ group_at q g r → (p ≡ q) × (f ≡ g) × (s ≡ r)
one_group p f s q g r a b c d e = (omega arith, omega arith, omega arith)

is_in-self : (x : Item) → is_in x.period x.phase x.slot x ≡ true
is_in-self x = and_from (x.slot == x.slot) (same_group (group x) (group x)) (eq-eqb x.slot x.slot refl) (and_from (x.period == x.period) (x.phase == x.phase) (eq-eqb x.period x.period refl) (eq-eqb x.phase x.phase refl))

is_in-is : (p f s : ℕ) (x : Item) → is_in p f s x ≡ true → (x.slot ≡ s) × (p ≡ x.period) × (f ≡ x.phase)
is_in-is p f s x e =
    let both = and_parts (x.slot == s) (same_group (p, f) (group x)) e in
    let g = same_group-is (p, f) (group x) both.1 in
    (eqb-true x.slot s both.0, ap (λ w. w.0) g, ap (λ w. w.1) g)

-- the counts, where the place of the item's group is written
pub counted-set : (x : Item) (xs ys : List Item) (n : ℕ) (counts : List ℕ) (v : ℕ) → n ≤ 8 → x.phase < 60 → x.slot < 8 → group_at x.period x.phase x.slot < length counts →
    ((p f s : ℕ) → p ≤ 60 → f < p → s < n → get_or counts (group_at p f s) 0 ≡ count_by (is_in p f s) xs) →
    ((p f s : ℕ) → is_in p f s x ≡ false → count_by (is_in p f s) ys ≡ count_by (is_in p f s) xs) →
    v ≡ count_by (is_in x.period x.phase x.slot) ys →
    (p f s : ℕ) → p ≤ 60 → f < p → s < n → get_or (set counts (group_at x.period x.phase x.slot) v) (group_at p f s) 0 ≡ count_by (is_in p f s) ys
counted-set x xs ys n counts v few low width room old other here p f s a b d =
    elim (cases_Bool (is_in p f s x)) [
      | inl eq ↦
          let is = is_in-is p f s x eq in
          (λ i. get_or (set counts (group_at x.period x.phase x.slot) v) (group_at (is.1 i) (is.2 i) (sym is.0 i)) 0)
          ∙ get_or-set_same counts (group_at x.period x.phase x.slot) v 0 room
          ∙ here
          ∙ (λ i. count_by (is_in (sym is.1 i) (sym is.2 i) (is.0 i)) ys)
      | inr ne ↦
          get_or-set_other counts (group_at x.period x.phase x.slot) (group_at p f s) v 0
          (λ e. let is = one_group p f s x.period x.phase x.slot (omega arith) (omega arith) low width e in
          true≢false (sym (is_in-self x) ∙ (λ i. is_in (sym is.0 i) (sym is.1 i) (sym is.2 i) x) ∙ ne))
          ∙ old p f s a b d ∙ sym (other p f s ne)
    ]

pub tick_cost-cells : (xs ys : List Item) (n t : ℕ) → ((s : ℕ) → s < n → payload xs t s ≡ payload ys t s) → tick_cost xs n t ≡ tick_cost ys n t
unfolding tick_cost
tick_cost-cells xs ys n t same = sum_below-agree (slot_cost xs t) (slot_cost ys t) n (λ s l. slot_cost-cell xs t s ∙ ap cell_cost (same s l) ∙ sym (slot_cost-cell ys t s))

pub raw_cost-cells : (xs ys : List Item) (n t : ℕ) → ((s : ℕ) → s < n → payload xs t s ≡ payload ys t s) → raw_cost xs n t ≡ raw_cost ys n t
unfolding raw_cost
raw_cost-cells xs ys n t same = sum_below-agree (slot_raw xs t) (slot_raw ys t) n (λ s l. slot_raw-cell xs t s ∙ ap cell_raw (same s l) ∙ sym (slot_raw-cell ys t s))

-- items that no cell and no count tells apart have one table
pub holds_alike : (xs ys : List Item) (n h : ℕ) (counts cells costs raws : List ℕ) (total q c : ℕ) → HoldsItems xs n h counts cells costs raws total q c →
    ((t s : ℕ) → s < n → payload xs t s ≡ payload ys t s) →
    ((p f s : ℕ) → f < p → s < n → count_by (is_in p f s) xs ≡ count_by (is_in p f s) ys) →
    HoldsItems ys n h counts cells costs raws total q c
holds_alike xs ys n h counts cells costs raws total q c k same alike =
    record {
      size = k.size;
      counted = λ p f s a b d. k.counted p f s a b d ∙ alike p f s b d;
      carried = λ t s a b. k.carried t s a b ∙ same t s b;
      cost = λ t a. k.cost t a ∙ tick_cost-cells xs ys n t (same t);
      raw = λ t a. k.raw t a ∙ raw_cost-cells xs ys n t (same t);
      whole = k.whole;
      most_payload = k.most_payload;
      most_cost = k.most_cost;
    }

-- an item out of the ranges is in no cell and in no count
pub payload-out : (x : Item) {xs ys : List Item} (n : ℕ) → 1 ≤ x.period → IsOneMore x xs ys → (x.phase < x.period → x.slot < n → ⊥) → (t s : ℕ) → s < n → payload ys t s ≡ payload xs t s
payload-out x {xs = xs} {ys = ys} n pos h out t s within =
    let e = payload-more t s x h in
    let off : is_sent t s x ≡ false =
    elim (eqb_tells s x.slot) [
      | inr w ↦ slot_off x t s w.1
      | inl w ↦ tick_off x t s (λ f. out (let m = mod_below t x.period (omega arith) in omega (arith, f, m)) (let g = w.1 in omega (arith, g, within)))
    ] in
    let z = added-idle t s x xs off in
    omega (arith, e, z)

pub count-other : (x : Item) {xs ys : List Item} → IsOneMore x xs ys → (p f s : ℕ) → is_in p f s x ≡ false → count_by (is_in p f s) ys ≡ count_by (is_in p f s) xs
count-other x h p f s off =
    let e = count-more (is_in p f s) x h in
    let z = ap {B = ℕ} (λ b. cond b 1 0) off in
    omega (arith, e, z)

pub count-self : (x : Item) {xs ys : List Item} → IsOneMore x xs ys → count_by (is_in x.period x.phase x.slot) ys ≡ 1 + count_by (is_in x.period x.phase x.slot) xs
count-self x h =
    let e = count-more (is_in x.period x.phase x.slot) x h in
    let z = ap {B = ℕ} (λ b. cond b 1 0) (is_in-self x) in
    omega (arith, e, z)

pub count-out : (x : Item) {xs ys : List Item} (n : ℕ) → IsOneMore x xs ys → (x.phase < x.period → x.slot < n → ⊥) → (p f s : ℕ) → f < p → s < n → count_by (is_in p f s) ys ≡ count_by (is_in p f s) xs
count-out x n h out p f s low within =
    elim (cases_Bool (is_in p f s x)) [
      | inl eq ↦ let is = is_in-is p f s x eq in
          absurd (out (let a = is.1 in let b = is.2 in omega (arith, a, b)) (let a = is.0 in omega (arith, a)))
      | inr ne ↦ count-other x h p f s ne
    ]

-- a table after an item was counted in
pub holds-more : (x : Item) {xs ys : List Item} (n h head : ℕ) (counts cells costs raws : List ℕ) (total q c : ℕ) (news now then_raws : List ℕ) (r v qq cc : ℕ) →
    HoldsItems xs n h counts cells costs raws total q c → IsOneMore x xs ys → n ≤ 8 → x.period ≤ 60 → x.phase < x.period → x.slot < n →
    (get_or counts (group_at x.period x.phase x.slot) 0 ≡ 0 → head ≡ 12) → (0 < get_or counts (group_at x.period x.phase x.slot) 0 → head ≡ 0) →
    v ≡ get_or counts (group_at x.period x.phase x.slot) 0 + 1 →
    (length news ≡ length cells) × (length now ≡ length costs) × (length then_raws ≡ length raws) →
    IsMoved x.period x.phase x.slot (head + x.bytes) h cells news →
    ((t : ℕ) → t < h → get_or now t 0 + cell_cost (get_or cells (t * 8 + x.slot) 0) ≡ get_or costs t 0 + cell_cost (get_or news (t * 8 + x.slot) 0)) →
    ((t : ℕ) → t < h → get_or then_raws t 0 + cell_raw (get_or cells (t * 8 + x.slot) 0) ≡ get_or raws t 0 + cell_raw (get_or news (t * 8 + x.slot) 0)) →
    sum_by (λ r. r) then_raws ≡ sum_by (λ r. r) raws + r →
    ((t : ℕ) → t < h → get_or news (t * 8 + x.slot) 0 ≤ qq) → ((t : ℕ) → t < h → get_or now t 0 ≤ cc) → q ≤ qq →
    HoldsItems ys n h (set counts (group_at x.period x.phase x.slot) v) news now then_raws (total + r) qq cc
holds-more x {xs = xs} {ys = ys} n h head counts cells costs raws total q c news now then_raws r v qq cc k m few small low within first more is sizes moved costs_follow raws_follow sum_is most_q most_c up =
    let group_same = k.counted x.period x.phase x.slot small low within in
    let grown : (t s : ℕ) → t < h → s < n → get_or news (t * 8 + s) 0 ≡ payload ys t s = λ t s a b.
    let e = moved-added x xs h head cells news moved (λ z. first (group_same ∙ z)) (λ z. more (omega (arith, group_same, z))) t s a (omega arith) in
    let old = k.carried t s a b in
    let new = payload-more t s x m in
    omega (arith, e, old, new) in
    record {
      size = (length-set counts _ v ∙ k.size.0, sizes.0 ∙ k.size.1, sizes.1 ∙ k.size.2, sizes.2 ∙ k.size.3);
      counted = counted-set x xs ys n counts v few (omega arith) (omega arith) (let z = k.size.0 in omega (arith, z)) k.counted (count-other x m) (let z = count-self x m in omega (arith, z, is, group_same));
      carried = grown;
      cost = λ t a.
          let e = costs_follow t a in
          let old = k.cost t a in
          let step = tick_cost-more x n t m within in
          let p = ap cell_cost (k.carried t x.slot a within) in
          let w = ap cell_cost (grown t x.slot a within) in
          omega (arith, e, old, step, p, w);
      raw = λ t a.
          let e = raws_follow t a in
          let old = k.raw t a in
          let step = raw_cost-more x n t m within in
          let p = ap cell_raw (k.carried t x.slot a within) in
          let w = ap cell_raw (grown t x.slot a within) in
          omega (arith, e, old, step, p, w);
      whole = let z = k.whole in omega (arith, z, sum_is);
      most_payload = λ t s a b. elim (eqb_tells s x.slot) [
        | inl w ↦ subst (λ z. get_or news (t * 8 + z) 0 ≤ qq) (sym w.1) (most_q t a)
        | inr w ↦ let e = moved.slots t s (omega arith) w.1 in let l = k.most_payload t s a b in omega (arith, e, l, up)
      ];
      most_cost = most_c;
    }

-- a table after an item was counted out
pub holds-less : (x : Item) {xs ys : List Item} (n h head : ℕ) (counts cells costs raws : List ℕ) (total q c : ℕ) (news now then_raws : List ℕ) (r v : ℕ) →
    HoldsItems ys n h counts cells costs raws total q c → IsOneMore x xs ys → n ≤ 8 → x.period ≤ 60 → x.phase < x.period → x.slot < n →
    (get_or counts (group_at x.period x.phase x.slot) 0 ≡ 1 → head ≡ 12) → (1 < get_or counts (group_at x.period x.phase x.slot) 0 → head ≡ 0) →
    v + 1 ≡ get_or counts (group_at x.period x.phase x.slot) 0 →
    (length news ≡ length cells) × (length now ≡ length costs) × (length then_raws ≡ length raws) →
    IsMoved x.period x.phase x.slot (head + x.bytes) h news cells →
    ((t : ℕ) → t < h → get_or now t 0 + cell_cost (get_or cells (t * 8 + x.slot) 0) ≡ get_or costs t 0 + cell_cost (get_or news (t * 8 + x.slot) 0)) →
    ((t : ℕ) → t < h → get_or then_raws t 0 + cell_raw (get_or cells (t * 8 + x.slot) 0) ≡ get_or raws t 0 + cell_raw (get_or news (t * 8 + x.slot) 0)) →
    sum_by (λ r. r) then_raws + r ≡ sum_by (λ r. r) raws →
    ((t s : ℕ) → t < h → s < n → payload xs t s ≤ q) → ((t : ℕ) → t < h → tick_cost xs n t ≤ c) →
    HoldsItems xs n h (set counts (group_at x.period x.phase x.slot) v) news now then_raws (total - r) q c
holds-less x {xs = xs} {ys = ys} n h head counts cells costs raws total q c news now then_raws r v k m few small low within first more is sizes moved costs_follow raws_follow sum_is most_q most_c =
    let group_same = k.counted x.period x.phase x.slot small low within in
    let self = count-self x m in
    let fallen : (t s : ℕ) → t < h → s < n → get_or news (t * 8 + s) 0 ≡ payload xs t s = λ t s a b.
    let e = moved-added x xs h head news cells moved (λ z. first (omega (arith, group_same, self, z))) (λ z. more (omega (arith, group_same, self, z))) t s a (omega arith) in
    let old = k.carried t s a b in
    let new = payload-more t s x m in
    omega (arith, e, old, new) in
    let costs_are : (t : ℕ) → t < h → get_or now t 0 ≡ tick_cost xs n t = λ t a.
    let e = costs_follow t a in
    let old = k.cost t a in
    let step = tick_cost-more x n t m within in
    let p = ap cell_cost (k.carried t x.slot a within) in
    let w = ap cell_cost (fallen t x.slot a within) in
    omega (arith, e, old, step, p, w) in
    record {
      size = (length-set counts _ v ∙ k.size.0, sizes.0 ∙ k.size.1, sizes.1 ∙ k.size.2, sizes.2 ∙ k.size.3);
      counted = counted-set x ys xs n counts v few (omega arith) (omega arith) (let z = k.size.0 in omega (arith, z)) k.counted (λ p f s off. sym (count-other x m p f s off)) (omega (arith, self, is, group_same));
      carried = fallen;
      cost = costs_are;
      raw = λ t a.
          let e = raws_follow t a in
          let old = k.raw t a in
          let step = raw_cost-more x n t m within in
          let p = ap cell_raw (k.carried t x.slot a within) in
          let w = ap cell_raw (fallen t x.slot a within) in
          omega (arith, e, old, step, p, w);
      whole = let z = k.whole in omega (arith, z, sum_is);
      most_payload = λ t s a b. let e = fallen t s a b in let l = most_q t s a b in omega (arith, e, l);
      most_cost = λ t a. let e = costs_are t a in let l = most_c t a in omega (arith, e, l);
    }

added-limit : (t s : ℕ) (x : Item) (xs : List Item) → x.bytes ≤ 1486 → added t s x xs ≤ 1498
added-limit t s x xs small =
    elim (cases_Bool (is_sent t s x)) [
      | inr ne ↦ let z = added-idle t s x xs ne in omega (arith, z)
      | inl eq ↦
          let z = added-sent t s x xs eq in
          elim (cases_Bool (has_group (group x) t s xs)) [
            | inl g ↦ let e = ap {B = ℕ} (λ b. cond b 0 12) g in omega (arith, z, e, small)
            | inr g ↦ let e = ap {B = ℕ} (λ b. cond b 0 12) g in omega (arith, z, e, small)
          ]
    ]

-- how large a payload can be, by the number of items
pub payload-limit : (xs : List Item) (t s : ℕ) → AreUnits xs → payload xs t s ≤ 1498 * length xs
payload-limit [] t s all = let e = payload-nil t s in omega (arith, e)
payload-limit (x ∷ xs) t s all =
    let more = payload-cons x xs t s in
    let rest = payload-limit xs t s (All-tail (λ y. (1 ≤ y.period) × (y.period ≤ 60) × (y.bytes ≤ 1486)) x xs all) in
    let small = (All-head (λ y. (1 ≤ y.period) × (y.period ≤ 60) × (y.bytes ≤ 1486)) x xs all).2 in
    let one : added t s x xs ≤ 1498 = added-limit t s x xs small in
    omega (arith, more, rest, one)

pub sum_below-limit : (f : ℕ → ℕ) (n b : ℕ) → ((k : ℕ) → k < n → f k ≤ b) → sum_below f n ≤ b * n
sum_below-limit f zero b h = omega arith
sum_below-limit f (suc n) b h =
    let rest = sum_below-limit f n b (λ k l. h k (omega arith)) in
    let last = h n (omega arith) in
    let e = mul-suc b n in
    omega (arith, rest, last, e)

pub sum-limit : (xs : List ℕ) (b : ℕ) → ((k : ℕ) → k < length xs → get_or xs k 0 ≤ b) → sum_by (λ r. r) xs ≤ b * length xs
sum-limit [] b h = omega arith
sum-limit (x ∷ xs) b h =
    let more = sum_by-cons (λ r. r) x xs in
    let rest = sum-limit xs b (λ k l. h (suc k) (omega (arith, l))) in
    let first = h 0 (omega arith) in
    let e = mul-suc b (length xs) in
    omega (arith, more, rest, first, e)

sum_below-term : (f : ℕ → ℕ) (n s : ℕ) → s < n → f s ≤ sum_below f n
sum_below-term f zero s h = absurd (omega (arith, h))
sum_below-term f (suc n) s h =
    elim (eqb_tells s n) [
      | inl w ↦ let e = ap f w.1 in omega (arith, e)
      | inr w ↦ let rest = sum_below-term f n s (let e = w.1 in omega (arith, h, e)) in omega (arith, rest)
    ]

-- bounds of what a table holds
pub cells-low : (xs : List Item) (n h m : ℕ) (counts cells costs raws : List ℕ) (total q c : ℕ) → HoldsItems xs n h counts cells costs raws total q c → AreUnits xs → length xs ≤ m →
    (t s : ℕ) → t < h → s < n → get_or cells (t * 8 + s) 0 ≤ 1498 * m
cells-low xs n h m counts cells costs raws total q c k all few t s a b =
    let e = k.carried t s a b in
    let l = payload-limit xs t s all in
    omega (arith, e, l, few)

pub cost-holds : (xs : List Item) (n h : ℕ) (counts cells costs raws : List ℕ) (total q c : ℕ) → HoldsItems xs n h counts cells costs raws total q c →
    (t s : ℕ) → t < h → s < n → cell_cost (get_or cells (t * 8 + s) 0) ≤ get_or costs t 0
unfolding tick_cost
cost-holds xs n h counts cells costs raws total q c k t s a b =
    let e = k.cost t a in
    let l = sum_below-term (slot_cost xs t) n s b in
    let p = slot_cost-cell xs t s in
    let w = ap cell_cost (k.carried t s a b) in
    omega (arith, e, l, p, w)

pub raw-holds : (xs : List Item) (n h : ℕ) (counts cells costs raws : List ℕ) (total q c : ℕ) → HoldsItems xs n h counts cells costs raws total q c →
    (t s : ℕ) → t < h → s < n → cell_raw (get_or cells (t * 8 + s) 0) ≤ get_or raws t 0
unfolding raw_cost
raw-holds xs n h counts cells costs raws total q c k t s a b =
    let e = k.raw t a in
    let l = sum_below-term (slot_raw xs t) n s b in
    let p = slot_raw-cell xs t s in
    let w = ap cell_raw (k.carried t s a b) in
    omega (arith, e, l, p, w)

pub costs-low : (xs : List Item) (n h m : ℕ) (counts cells costs raws : List ℕ) (total q c : ℕ) → HoldsItems xs n h counts cells costs raws total q c → AreUnits xs → length xs ≤ m →
    (t : ℕ) → t < h → get_or costs t 0 ≤ (1498 * m + 84) * n
unfolding tick_cost
costs-low xs n h m counts cells costs raws total q c k all few t a =
    let e = k.cost t a in
    let l = sum_below-limit (slot_cost xs t) n (1498 * m + 84) (λ s b.
    let p = slot_cost-cell xs t s in
    let w = cell_cost-le (payload xs t s) in
    let z = payload-limit xs t s all in
    omega (arith, p, w, z, few)) in
    omega (arith, e, l)

pub raws-low : (xs : List Item) (n h m : ℕ) (counts cells costs raws : List ℕ) (total q c : ℕ) → HoldsItems xs n h counts cells costs raws total q c → AreUnits xs → length xs ≤ m →
    (t : ℕ) → t < h → get_or raws t 0 ≤ (1498 * m + 40) * n
unfolding raw_cost
raws-low xs n h m counts cells costs raws total q c k all few t a =
    let e = k.raw t a in
    let l = sum_below-limit (slot_raw xs t) n (1498 * m + 40) (λ s b.
    let p = slot_raw-cell xs t s in
    let w = cell_raw-le (payload xs t s) in
    let z = payload-limit xs t s all in
    omega (arith, p, w, z, few)) in
    omega (arith, e, l)

pub counts-low : (xs : List Item) (n h : ℕ) (counts cells costs raws : List ℕ) (total q c : ℕ) → HoldsItems xs n h counts cells costs raws total q c →
    (p f s : ℕ) → p ≤ 60 → f < p → s < n → get_or counts (group_at p f s) 0 ≤ length xs
counts-low xs n h counts cells costs raws total q c k p f s a b d =
    let e = k.counted p f s a b d in
    let l = count_by-le-length (is_in p f s) xs in
    omega (arith, e, l)

-- what an item put in is still there
pub more-enough : (x : Item) {xs ys : List Item} (n h head : ℕ) (counts cells costs raws : List ℕ) (total q c : ℕ) → HoldsItems ys n h counts cells costs raws total q c → IsOneMore x xs ys →
    x.period ≤ 60 → x.phase < x.period → x.slot < n →
    (get_or counts (group_at x.period x.phase x.slot) 0 ≡ 1 → head ≡ 12) → (1 < get_or counts (group_at x.period x.phase x.slot) 0 → head ≡ 0) →
    (t : ℕ) → t < h → t % x.period ≡ x.phase → head + x.bytes ≤ get_or cells (t * 8 + x.slot) 0
more-enough x {xs = xs} n h head counts cells costs raws total q c k m small low within first more t a on =
    let group_same = k.counted x.period x.phase x.slot small low within in
    let self = count-self x m in
    let z = added-sent t x.slot x xs (slot_on x t on) in
    let e = header x t x.slot head xs (eq-eqb (t % x.period) x.phase on) (λ w. first (omega (arith, group_same, self, w))) (λ w. more (omega (arith, group_same, self, w))) in
    let old = k.carried t x.slot a within in
    let new = payload-more t x.slot x m in
    omega (arith, z, e, old, new)

-- a vector whose slice was written
pub written : (n : ℕ) (now was : List ℕ) → length now ≡ length was → length now ≡ n → take n (now ++ drop (length now) was) ≡ now
written n now was e f =
    ap (λ w. take n (now ++ w)) (drop_of_length-le was (omega arith)) ∙ ap (take n) (append-nil now) ∙ take_all n now (omega arith)

-- the same table, its lists by other names
pub holds_is : (xs : List Item) (n h : ℕ) (counts cells costs raws cells' costs' raws' : List ℕ) (h' total q c : ℕ) → HoldsItems xs n h counts cells costs raws total q c →
    h' ≡ h → cells' ≡ cells → costs' ≡ costs → raws' ≡ raws → HoldsItems xs n h' counts cells' costs' raws' total q c
holds_is xs n h counts cells costs raws cells' costs' raws' h' total q c k e a b d =
    subst (λ z. HoldsItems xs n z counts cells' costs' raws' total q c) (sym e)
    (subst (λ z. HoldsItems xs n h counts z costs' raws' total q c) (sym a)
    (subst (λ z. HoldsItems xs n h counts cells z raws' total q c) (sym b)
    (subst (λ z. HoldsItems xs n h counts cells costs z total q c) (sym d) k)))

pub total-low : (xs : List Item) (n h b : ℕ) (counts cells costs raws : List ℕ) (total q c : ℕ) → HoldsItems xs n h counts cells costs raws total q c →
    ((t : ℕ) → t < h → get_or raws t 0 ≤ b) → total ≤ b * h
total-low xs n h b counts cells costs raws total q c k low =
    let e = k.whole in
    let z = k.size.3 in
    let l = sum-limit raws b (λ t a. low t (omega (arith, a, z))) in
    let s = ap (λ w. b * w) z in
    omega (arith, e, l, s)

-- at most 8 slots
pub small_cost : (a n m b : ℕ) → a ≤ b * n → n ≤ m → a ≤ b * m
small_cost a n m b h k = le_trans h (mul-le-mul_left b k)

-- fewer items have no greater payload and cost no more
pub less-payload : (x : Item) {xs ys : List Item} (n h : ℕ) (counts cells costs raws : List ℕ) (total q c : ℕ) → HoldsItems ys n h counts cells costs raws total q c → IsOneMore x xs ys →
    (t s : ℕ) → t < h → s < n → payload xs t s ≤ q
less-payload x n h counts cells costs raws total q c k m t s a b =
    let e = payload-more t s x m in
    let old = k.carried t s a b in
    let l = k.most_payload t s a b in
    omega (arith, e, old, l)

pub less-cost : (x : Item) {xs ys : List Item} (n h : ℕ) (counts cells costs raws : List ℕ) (total q c : ℕ) → HoldsItems ys n h counts cells costs raws total q c → IsOneMore x xs ys → x.slot < n →
    (t : ℕ) → t < h → tick_cost xs n t ≤ c
less-cost x {xs = xs} {ys = ys} n h counts cells costs raws total q c k m within t a =
    let e = payload-more t x.slot x m in
    let step = tick_cost-more x n t m within in
    let mono = cell_cost-more (payload xs t x.slot) (payload ys t x.slot) (omega (arith, e)) in
    let old = k.cost t a in
    let l = k.most_cost t a in
    omega (arith, step, mono, old, l)

-- an item that was put in is counted
pub counts-some : (x : Item) {xs ys : List Item} (n h : ℕ) (counts cells costs raws : List ℕ) (total q c : ℕ) → HoldsItems ys n h counts cells costs raws total q c → IsOneMore x xs ys →
    x.period ≤ 60 → x.phase < x.period → x.slot < n → 1 ≤ get_or counts (group_at x.period x.phase x.slot) 0
counts-some x n h counts cells costs raws total q c k m small low within =
    let e = k.counted x.period x.phase x.slot small low within in
    let z = count-self x m in
    omega (arith, e, z)

sum_below-none : (f : ℕ → ℕ) (n : ℕ) → ((k : ℕ) → f k ≡ 0) → sum_below f n ≡ 0
sum_below-none f zero h = refl
sum_below-none f (suc n) h = let a = sum_below-none f n h in let b = h n in omega (arith, a, b)

pub tick_cost-none : (n t : ℕ) → tick_cost [] n t ≡ 0
unfolding tick_cost
tick_cost-none n t = sum_below-none (slot_cost [] t) n (λ k. refl)

pub raw_cost-none : (n t : ℕ) → raw_cost [] n t ≡ 0
unfolding raw_cost
raw_cost-none n t = sum_below-none (slot_raw [] t) n (λ k. refl)

-- a read of zeros, past the end too
pub zero_at : (n k : ℕ) → get_or (replicate {A = ℕ} n 0) k 0 ≡ zero
zero_at n k =
    elim (lt_or_le k n) [
      | inl h ↦ get_or-replicate n k 0 0 h
      | inr h ↦ get_or_past (replicate n 0) k 0 (let e = length-replicate {A = ℕ} n 0 in omega (arith, e, h))
    ]

-- a table of zeros holds nothing
pub holds-none : (n h g w : ℕ) (counts cells costs raws : List ℕ) → counts ≡ replicate g 0 → cells ≡ replicate w 0 → costs ≡ replicate h 0 → raws ≡ replicate h 0 →
    g ≡ 29280 → w ≡ h * 8 → HoldsItems [] n (length costs) counts cells costs raws 0 0 0
holds-none n h g w counts cells costs raws a b d e u v =
    let lg = ap length a ∙ length-replicate {A = ℕ} g 0 in
    let lw = ap length b ∙ length-replicate {A = ℕ} w 0 in
    let lh = ap length d ∙ length-replicate {A = ℕ} h 0 in
    let lr = ap length e ∙ length-replicate {A = ℕ} h 0 in
    record {
      size = (lg ∙ u, omega (arith, lw, v, lh), refl, lr ∙ sym lh);
      counted = λ p f s x y z. ap (λ l. get_or l (group_at p f s) 0) a ∙ zero_at g (group_at p f s);
      carried = λ t s x y. ap (λ l. get_or l (t * 8 + s) 0) b ∙ zero_at w (t * 8 + s) ∙ sym (payload-nil t s);
      cost = λ t x. ap (λ l. get_or l t 0) d ∙ zero_at h t ∙ sym (tick_cost-none n t);
      raw = λ t x. ap (λ l. get_or l t 0) e ∙ zero_at h t ∙ sym (raw_cost-none n t);
      whole = sym (ap (sum_by (λ r. r)) e ∙ sum_by-replicate (λ r. r) h 0 ∙ omega arith);
      most_payload = λ t s x y. let z = ap (λ l. get_or l (t * 8 + s) 0) b ∙ zero_at w (t * 8 + s) in omega (arith, z);
      most_cost = λ t x. let z = ap (λ l. get_or l t 0) d ∙ zero_at h t in omega (arith, z);
    }

sum_below-first : (f : ℕ → ℕ) (n : ℕ) → sum_below f (suc n) ≡ f 0 + sum_below (λ k. f (suc k)) n
sum_below-first f zero = omega arith
sum_below-first f (suc n) = let e = sum_below-first f n in omega (arith, e)

-- a list's sum is that of its elements
pub sum-is : (xs : List ℕ) (f : ℕ → ℕ) → ((t : ℕ) → t < length xs → get_or xs t 0 ≡ f t) → sum_by (λ r. r) xs ≡ sum_below f (length xs)
sum-is [] f h = refl
sum-is (x ∷ xs) f h =
    let more = sum_by-cons (λ r. r) x xs in
    let rest = sum-is xs (λ k. f (suc k)) (λ t l. h (suc t) (omega (arith, l))) in
    let first = h 0 (omega arith) in
    let split = sum_below-first f (length xs) in
    omega (arith, more, rest, first, split)

pub total-is : (xs : List Item) (n h : ℕ) (counts cells costs raws : List ℕ) (total q c : ℕ) → HoldsItems xs n h counts cells costs raws total q c → total ≡ sum_below (raw_cost xs n) h
total-is xs n h counts cells costs raws total q c k =
    let e = k.whole in
    let s = sum-is raws (raw_cost xs n) (λ t l. k.raw t (let z = k.size.3 in omega (arith, z, l))) in
    e ∙ s ∙ ap (sum_below (raw_cost xs n)) k.size.3

-- the ticks below h suffice
pub cheap-below : (xs : List Item) (n h v : ℕ) → 0 < h → DivideAll h xs → ((i : ℕ) → i < h → tick_cost xs n i < v) → (t : ℕ) → tick_cost xs n t < v
cheap-below xs n h v pos d low t = subst (λ w. w < v) (tick_cost-mod xs n h t d) (low (t % h) (mod_below t h pos))

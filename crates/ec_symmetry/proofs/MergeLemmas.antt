-- A plan with no tick above 1578 bytes, put into slot 0 alone: one frame carries no more than the frames of a tick together, and costs no more than they.
-- `payload-merged` bounds what it carries. `Tally` says of a tick which of three cases it is: idle, one frame, or more; two frames take 80 bytes beside
-- their payloads, so that these are at most 1498 together.
use Rattle.std.proofs.Common.{◌≡◌, ℕ, zero, suc, ◌+◌, ◌<◌, ◌≤◌, ◌⊎◌, ◌==◌, ◌&&◌, max, Bool, true, false, cond, List, [], ◌∷◌, map, All, refl, sym, ap, ◌∙◌, subst, arith, inl, inr}
use Rattle.std.proofs.lemmas.Bool.{cases_eq, eq-eqb, ne_eqb, and_parts, or_cases, or_left, or_right, true≢false, false≢true}
use Rattle.std.proofs.lemmas.List.{length-map}
use Rattle.std.proofs.lemmas.List.Elements.{All-head, All-tail, All-map, All-weaker}
use Rattle.ec_hyper.specs.Travel.{travels}
use Rattle.ec_units.specs.declared.slave.Place.{Place}
use Rattle.ec_units.specs.declared.unit.Load.{Load}
use Rattle.ec_loads.specs.declared.item.Item.{Item}
use Rattle.ec_loads.specs.Cost.{item, plan_items, is_sent, group, same_group, has_group, payload, added, slot_cost, sum_below, tick_cost}
use Rattle.ec_loads.specs.Table.{cell_cost}
use Rattle.ec_loads.proofs.CellLemmas.{cell_cost-zero, cell_cost-some, cell_cost-more}
use Rattle.ec_loads.proofs.CostLemmas.{sum_below-agree}
use Rattle.ec_loads.proofs.MoreLemmas.{added-idle}
use Rattle.ec_loads.proofs.PayloadLemmas.{payload-nil, payload-cons}
use Rattle.ec_loads.proofs.TrafficLemmas.{slot_cost-cell}
use Rattle.ec_symmetry.specs.StrongReach.{merged, SlotsMerge}
use Rattle.ec_symmetry.proofs.SwapLemmas.{sum_below-change}

abbrev merged_item : Item → Item
merged_item x = record { bytes = x.bytes; period = x.period; phase = x.phase; slot = 0 }

merged-items : (loads : List Load) (plan : List Place) → plan_items loads (merged plan) ≡ map merged_item (plan_items loads plan)
merged-items [] plan = refl
merged-items (l ∷ ls) [] = refl
merged-items (l ∷ ls) (p ∷ ps) = let q : Place = record { phase = p.phase; slot = 0 } in ap (λ w. item l q ∷ w) (merged-items ls ps)

and-false : (b : Bool) → (b && false) ≡ false
and-false true = refl
and-false false = refl

-- what travels in some slot travels in slot 0
sent-merged : (t s : ℕ) (x : Item) → is_sent t s x ≡ true → is_sent t 0 (merged_item x) ≡ true
sent-merged t s x e = let both = and_parts (travels x.period x.phase t) (x.slot == s) e in ap (λ w. w && true) both.0

sent-alike : (t : ℕ) (x : Item) → is_sent t 0 (merged_item x) ≡ is_sent t x.slot x
sent-alike t x = sym (ap (λ w. travels x.period x.phase t && w) (eq-eqb x.slot x.slot refl))

has_group-merged : (g : ℕ × ℕ) (t s : ℕ) (xs : List Item) → has_group g t s xs ≡ true → has_group g t 0 (map merged_item xs) ≡ true
has_group-merged g t s [] e = absurd (false≢true e)
has_group-merged g t s (x ∷ xs) e =
    let rest = has_group g t 0 (map merged_item xs) in
    elim (or_cases (is_sent t s x && same_group g (group x)) (has_group g t s xs) e) [
      | inl here ↦
          let both = and_parts (is_sent t s x) (same_group g (group x)) here in
          let sent = sent-merged t s x both.0 in
          or_left (is_sent t 0 (merged_item x) && same_group g (group x)) rest (λ i. sent i && both.1 i)
      | inr later ↦ or_right (is_sent t 0 (merged_item x) && same_group g (group x)) rest (has_group-merged g t s xs later)
    ]

added-less : (a b g h : Bool) (n : ℕ) → a ≡ b → (h ≡ true → g ≡ true) → cond a (cond g 0 12 + n) 0 ≤ cond b (cond h 0 12 + n) 0
added-less false false g h n e f = omega arith
added-less true false g h n e f = absurd (true≢false e)
added-less false true g h n e f = omega arith
added-less true true true true n e f = omega arith
added-less true true true false n e f = omega arith
added-less true true false true n e f = absurd (false≢true (f refl))
added-less true true false false n e f = omega arith

added-merged : (t : ℕ) (x : Item) (xs : List Item) → added t 0 (merged_item x) (map merged_item xs) ≤ added t x.slot x xs
added-merged t x xs =
    added-less (is_sent t 0 (merged_item x)) (is_sent t x.slot x) (has_group (group x) t 0 (map merged_item xs)) (has_group (group x) t x.slot xs) x.bytes
    (sent-alike t x) (has_group-merged (group x) t x.slot xs)

-- an item adds to its own slot alone
sum-cons : (t n : ℕ) (x : Item) (xs : List Item) → x.slot < n → sum_below (payload (x ∷ xs) t) n ≡ added t x.slot x xs + sum_below (payload xs t) n
sum-cons t n x xs low =
    let other : (k : ℕ) → (k ≡ x.slot → ⊥) → payload (x ∷ xs) t k ≡ payload xs t k = λ k apart.
    let idle : is_sent t k x ≡ false = ap (λ w. travels x.period x.phase t && w) (ne_eqb x.slot k (λ e. apart (sym e))) ∙ and-false (travels x.period x.phase t) in
    payload-cons x xs t k ∙ ap (λ w. w + payload xs t k) (added-idle t k x xs idle) ∙ omega arith in
    let change = sum_below-change (payload (x ∷ xs) t) (payload xs t) n x.slot low other in
    let at = payload-cons x xs t x.slot in
    omega (arith, change, at)

-- slot 0 carries no more than all slots together
payload-merged : (t n : ℕ) (xs : List Item) → All (λ x. x.slot < n) xs → payload (map merged_item xs) t 0 ≤ sum_below (payload xs t) n
payload-merged t n [] all = let none = payload-nil t 0 in omega (arith, none)
payload-merged t n (x ∷ xs) all =
    let first = payload-cons (merged_item x) (map merged_item xs) t 0 in
    let more = added-merged t x xs in
    let rest = payload-merged t n xs (All-tail (λ z. z.slot < n) x xs all) in
    let whole = sum-cons t n x xs (All-head (λ z. z.slot < n) x xs all) in
    omega (arith, first, more, rest, whole)

-- and the other slots nothing
payload-above : (t s : ℕ) (xs : List Item) → 0 < s → payload (map merged_item xs) t s ≡ 0
payload-above t s [] some = payload-nil t s
payload-above t s (x ∷ xs) some =
    let idle : is_sent t s (merged_item x) ≡ false = ap (λ w. travels x.period x.phase t && w) (ne_eqb 0 s (λ e. omega arith)) ∙ and-false (travels x.period x.phase t) in
    let first = payload-cons (merged_item x) (map merged_item xs) t s in
    let none = added-idle t s (merged_item x) (map merged_item xs) idle in
    let rest = payload-above t s xs some in
    omega (arith, first, none, rest)

-- what frames that cost so much carry together: nothing, or the payload of one frame, or 80 bytes less at most
abbrev Tally : ℕ → ℕ → Type 0
Tally cost bytes = ((cost ≡ 0) × (bytes ≡ 0)) ⊎ (((cost ≡ max 84 (40 + bytes)) × (0 < bytes) × (bytes ≤ 1498)) ⊎ ((84 ≤ cost) × (80 + bytes ≤ cost)))

cell-cases : (q : ℕ) → ((q ≡ 0) × (cell_cost q ≡ 0)) ⊎ ((0 < q) × (cell_cost q ≡ max 84 (40 + q)))
cell-cases zero = inl (refl, cell_cost-zero)
cell-cases (suc q) = inr (omega arith, cell_cost-some (suc q) (omega arith))

-- one slot more
tally_step : (cost bytes c q : ℕ) → q ≤ 1498 → ((q ≡ 0) × (c ≡ 0)) ⊎ ((0 < q) × (c ≡ max 84 (40 + q))) → Tally cost bytes → Tally (cost + c) (bytes + q)
tally_step cost bytes c q fits (inl idle) (inl none) = inl (omega (arith, idle.1, none.0), omega (arith, idle.0, none.1))
tally_step cost bytes c q fits (inl idle) (inr (inl one)) = inr (inl (omega (arith, idle.0, idle.1, one.0), omega (arith, one.1), omega (arith, idle.0, one.2)))
tally_step cost bytes c q fits (inl idle) (inr (inr many)) = inr (inr (omega (arith, many.0), omega (arith, idle.0, many.1)))
tally_step cost bytes c q fits (inr busy) (inl none) = inr (inl (omega (arith, busy.1, none.0, none.1), omega (arith, busy.0), omega (arith, fits, none.1)))
tally_step cost bytes c q fits (inr busy) (inr (inl one)) = inr (inr (omega (arith, busy.1), omega (arith, busy.1, one.0)))
tally_step cost bytes c q fits (inr busy) (inr (inr many)) = inr (inr (omega (arith, many.0), omega (arith, busy.1, many.1)))

tally : (f : ℕ → ℕ) (n : ℕ) → ((k : ℕ) → k < n → f k ≤ 1498) → Tally (sum_below (λ s. cell_cost (f s)) n) (sum_below f n)
tally f zero fits = inl (refl, refl)
tally f (suc n) fits =
    tally_step (sum_below (λ s. cell_cost (f s)) n) (sum_below f n) (cell_cost (f n)) (f n) (fits n (omega arith)) (cell-cases (f n)) (tally f n (λ k low. fits k (omega arith)))

-- one frame with no more than they carry fits, and costs no more
one_frame : (cost bytes q : ℕ) → cost ≤ 1578 → q ≤ bytes → Tally cost bytes → (q ≤ 1498) × (cell_cost q ≤ cost)
one_frame cost bytes q low less (inl none) =
    let c = cell_cost-more q 0 (omega (arith, less, none.1)) in
    let z = cell_cost-zero in
    (omega (arith, less, none.1), omega (arith, c, z))
one_frame cost bytes q low less (inr (inl one)) =
    let c = cell_cost-more q bytes less in
    let is = cell_cost-some bytes one.1 in
    (omega (arith, less, one.2), omega (arith, c, is, one.0))
one_frame cost bytes q low less (inr (inr many)) = (
  omega (arith, low, less, many.1),
  elim (cell-cases q) [
    | inl none ↦ omega (arith, none.1)
    | inr some ↦ omega (arith, some.1, less, many.0, many.1)
  ],
)

cost-cells : (xs : List Item) (n t : ℕ) → tick_cost xs n t ≡ sum_below (λ s. cell_cost (payload xs t s)) n
unfolding tick_cost
cost-cells xs n t = sum_below-agree (slot_cost xs t) (λ s. cell_cost (payload xs t s)) n (λ s _. slot_cost-cell xs t s)

-- a sum with one part that isn't 0
first-alone : (f : ℕ → ℕ) (n : ℕ) → ((k : ℕ) → 0 < k → f k ≡ 0) → sum_below f n ≤ f 0
first-alone f zero none = omega arith
first-alone f (suc zero) none = omega arith
first-alone f (suc (suc n)) none =
    let rest = first-alone f (suc n) none in
    let last = none (suc n) (omega arith) in
    omega (arith, rest, last)

-- a tick in slot 0 alone
merged-tick : (xs : List Item) (n t : ℕ) → All (λ x. x.slot < n) xs → ((s : ℕ) → s < n → payload xs t s ≤ 1498) → tick_cost xs n t ≤ 1578 → (payload (map merged_item xs) t 0 ≤ 1498) × (tick_cost (map merged_item xs) n t ≤ tick_cost xs n t)
merged-tick xs n t slots fits low =
    let ys = map merged_item xs in
    let before = cost-cells xs n t in
    let after = cost-cells ys n t in
    let alone = first-alone (λ s. cell_cost (payload ys t s)) n (λ k some. ap cell_cost (payload-above t k xs some) ∙ cell_cost-zero) in
    let frame = one_frame (sum_below (λ s. cell_cost (payload xs t s)) n) (sum_below (payload xs t) n) (payload ys t 0) (omega (arith, low, before)) (payload-merged t n xs slots) (tally (payload xs t) n fits) in
    (frame.0, omega (arith, before, after, alone, frame.1))

merged-fits : (xs : List Item) (t s : ℕ) → payload (map merged_item xs) t 0 ≤ 1498 → payload (map merged_item xs) t s ≤ 1498
merged-fits xs t s first =
    elim (cases_eq s 0) [
      | inl is ↦ subst (λ w. payload (map merged_item xs) t w ≤ 1498) (sym is) first
      | inr apart ↦ let none = payload-above t s xs (omega arith) in omega (arith, none)
    ]

pub merge : SlotsMerge
merge loads n plan legal low =
    let xs = plan_items loads plan in
    let is = sym (merged-items loads plan) in
    let each : (t : ℕ) → (payload (map merged_item xs) t 0 ≤ 1498) × (tick_cost (map merged_item xs) n t ≤ tick_cost xs n t) =
    λ t. merged-tick xs n t legal.slots (legal.fits t) (low t) in (
      record {
        whole = length-map plan (λ p. let q : Place = record { phase = p.phase; slot = 0 } in q) ∙ legal.whole;
        phases = subst (λ ys. All (λ (x : Item). x.phase < x.period) ys) is (All-map (λ x. x.phase < x.period) merged_item xs legal.phases);
        slots = subst (λ ys. All (λ (x : Item). x.slot < n) ys) is
            (All-map (λ x. x.slot < n) merged_item xs (All-weaker (λ x. x.slot < n) (λ x. 0 < n) (λ x h. omega arith) xs legal.slots));
        fits = λ t s h. subst (λ ys. payload ys t s ≤ 1498) is (merged-fits xs t s (each t).0);
      },
      λ t. subst (λ ys. tick_cost ys n t ≤ tick_cost xs n t) is (each t).1,
    )

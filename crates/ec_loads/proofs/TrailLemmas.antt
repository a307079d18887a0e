-- Marks of what was before a unit got its place.
-- The two numbers that no payload and no cost is above needn't be reached: `place` takes the greater, `remove` gets
-- them back from the last mark (`kept-push`, `kept-pop`) or measures anew. Marks stay right when any unit loses its
-- place (`kept-less`).
use Rattle.std.proofs.Common.{◌≡◌, ◌⊎◌, ℕ, zero, suc, ◌+◌, ◌*◌, ◌<◌, ◌≤◌, min, List, [], ◌∷◌, length, set, get_or, Option, Some, None, inl, inr, refl, sym, subst, ap, ◌∙◌, arith}
use Rattle.std.proofs.lemmas.List.{set-get_or}
use Rattle.ec_units.specs.declared.slave.Place.{Place}
use Rattle.ec_units.specs.declared.unit.Load.{Load}
use Rattle.ec_loads.specs.declared.item.Item.{Item}
use Rattle.ec_loads.specs.declared.trail.Mark.{Mark}
use Rattle.ec_loads.specs.Cost.{item, items, payload, slot_cost, sum_below, tick_cost}
use Rattle.ec_loads.specs.Table.{HoldsItems, IsMost, IsOneMore, here, later, AreKept}
use Rattle.ec_loads.proofs.CellLemmas.{cell_cost-more}
use Rattle.ec_loads.proofs.MoreLemmas.{payload-more, set_twice}
use Rattle.ec_loads.proofs.TrafficLemmas.{slot_cost-cell}

sum_below-le : (f g : ℕ → ℕ) (n : ℕ) → ((k : ℕ) → k < n → f k ≤ g k) → sum_below f n ≤ sum_below g n
sum_below-le f g zero h = omega arith
sum_below-le f g (suc n) h =
    let rest = sum_below-le f g n (λ k l. h k (omega (arith, l))) in
    let last = h n (omega arith) in
    omega (arith, rest, last)

-- where no payload is greater, a tick costs no more
tick_cost-le : (xs ys : List Item) (n t : ℕ) → ((s : ℕ) → s < n → payload xs t s ≤ payload ys t s) → tick_cost xs n t ≤ tick_cost ys n t
unfolding tick_cost
tick_cost-le xs ys n t h =
    sum_below-le (slot_cost xs t) (slot_cost ys t) n (λ s l.
    let a = slot_cost-cell xs t s in
    let b = slot_cost-cell ys t s in
    let m = cell_cost-more (payload xs t s) (payload ys t s) (h s l) in
    omega (arith, a, b, m))

less-most : (x : Item) {xs ys : List Item} (n h q c : ℕ) → IsOneMore x xs ys → IsMost ys n h q c → IsMost xs n h q c
less-most x {xs = xs} {ys = ys} n h q c m k =
    record {
      payloads = λ t s a b. let e = payload-more t s x m in let l = k.payloads t s a b in omega (arith, e, l);
      costs = λ t a. let l = k.costs t a in let e = tick_cost-le xs ys n t (λ s b. let p = payload-more t s x m in omega (arith, p)) in omega (arith, l, e);
    }

-- a unit loses its place, if it had one
lost : (ls : List Load) (ps : List (Option Place)) (u : ℕ) → (items ls (set ps u None) ≡ items ls ps) ⊎ ((x : Item) × IsOneMore x (items ls (set ps u None)) (items ls ps))
lost [] ps u = inl refl
lost (l ∷ ls) [] u = inl refl
lost (l ∷ ls) (None ∷ ps) zero = inl refl
lost (l ∷ ls) (Some p ∷ ps) zero = inr (item l p, here)
lost (l ∷ ls) (None ∷ ps) (suc u) = lost ls ps u
lost (l ∷ ls) (Some p ∷ ps) (suc u) = elim (lost ls ps u) [ inl e ↦ inl (ap (λ w. item l p ∷ w) e) | inr w ↦ inr (w.0, later w.1) ]

most-less : (ls : List Load) (ps : List (Option Place)) (u n h q c : ℕ) → IsMost (items ls ps) n h q c → IsMost (items ls (set ps u None)) n h q c
most-less ls ps u n h q c k =
    elim (lost ls ps u) [
      | inl e ↦ subst (λ w. IsMost w n h q c) (sym e) k
      | inr w ↦ less-most w.0 n h q c w.1 k
    ]

swap : (ps : List (Option Place)) (u v : ℕ) → set (set ps u None) v None ≡ set (set ps v None) u None
swap [] u v = refl
swap (x ∷ ps) zero zero = refl
swap (x ∷ ps) zero (suc v) = refl
swap (x ∷ ps) (suc u) zero = refl
swap (x ∷ ps) (suc u) (suc v) = ap (λ w. x ∷ w) (swap ps u v)

-- the marks stay right where any unit loses its place
pub kept-less : (ls : List Load) (n h : ℕ) (ps : List (Option Place)) (u : ℕ) (ms : List Mark) → AreKept ls n h ps ms → AreKept ls n h (set ps u None) ms
kept-less ls n h ps u [] k = tt
kept-less ls n h ps u (m ∷ ms) k = (
  subst (λ w. IsMost (items ls w) n h m.payload m.cost) (swap ps m.unit u) (most-less ls (set ps m.unit None) u n h m.payload m.cost k.0),
  subst (λ w. AreKept ls n h w ms) (swap ps m.unit u) (kept-less ls n h (set ps m.unit None) u ms k.1),
)

none_lost : (ps : List (Option Place)) (u : ℕ) → get_or ps u None ≡ None → set ps u None ≡ ps
none_lost ps u free = ap (set ps u) (sym free) ∙ set-get_or ps u None

-- a unit without a place gets one, and loses it
back : (ps : List (Option Place)) (u : ℕ) (p : Place) → get_or ps u None ≡ None → set (set ps u (Some p)) u None ≡ ps
back ps u p free = set_twice ps u (Some p) None ∙ none_lost ps u free

-- a unit gets its place, and a mark
pub kept-push : (ls : List Load) (n h : ℕ) (ps : List (Option Place)) (p : Place) (m : Mark) (ms new : List Mark) → get_or ps m.unit None ≡ None →
    IsMost (items ls ps) n h m.payload m.cost → AreKept ls n h ps ms → (new ≡ m ∷ ms) ⊎ (new ≡ []) → AreKept ls n h (set ps m.unit (Some p)) new
kept-push ls n h ps p m ms new free most kept pushed =
    elim pushed [
      | inl e ↦ subst (λ w. AreKept ls n h (set ps m.unit (Some p)) w) (sym e)
          (subst (λ w. IsMost (items ls w) n h m.payload m.cost) (sym (back ps m.unit p free)) most, subst (λ w. AreKept ls n h w ms) (sym (back ps m.unit p free)) kept)
      | inr e ↦ subst (λ w. AreKept ls n h (set ps m.unit (Some p)) w) (sym e) tt
    ]

-- the mark of a unit without a place is taken off
pub kept-pop : (ls : List Load) (n h : ℕ) (ps : List (Option Place)) (m : Mark) (ms : List Mark) → get_or ps m.unit None ≡ None → AreKept ls n h ps (m ∷ ms) →
    IsMost (items ls ps) n h m.payload m.cost × AreKept ls n h ps ms
kept-pop ls n h ps m ms free kept =
    subst (λ w. IsMost (items ls w) n h m.payload m.cost × AreKept ls n h w ms) (none_lost ps m.unit free) kept

-- no marks
pub kept-none : (ls : List Load) (n h : ℕ) (ps : List (Option Place)) (ms : List Mark) → ms ≡ [] → AreKept ls n h ps ms
kept-none ls n h ps ms e = subst (λ w. AreKept ls n h ps w) (sym e) tt

-- the table's own numbers
pub most-held : (xs : List Item) (n h : ℕ) (counts cells costs raws : List ℕ) (total q c : ℕ) → HoldsItems xs n h counts cells costs raws total q c → IsMost xs n h q c
most-held xs n h counts cells costs raws total q c k =
    record {
      payloads = λ t s a b. subst (λ w. w ≤ q) (k.carried t s a b) (k.most_payload t s a b);
      costs = λ t a. subst (λ w. w ≤ c) (k.cost t a) (k.most_cost t a);
    }

-- numbers that no cell and no cost of the table is above
pub most-cells : (xs : List Item) (n h : ℕ) (counts cells costs raws : List ℕ) (total q c qq cc : ℕ) → HoldsItems xs n h counts cells costs raws total q c → n ≤ 8 →
    ((k : ℕ) → k < length cells → get_or cells k 0 ≤ qq) → ((k : ℕ) → k < length costs → get_or costs k 0 ≤ cc) → IsMost xs n h qq cc
most-cells xs n h counts cells costs raws total q c qq cc k few low cheap =
    let wide = k.size.1 in
    let long = k.size.2 in
    record {
      payloads = λ t s a b. subst (λ w. w ≤ qq) (k.carried t s a b) (low (t * 8 + s) (omega (arith, wide, a, b, few)));
      costs = λ t a. subst (λ w. w ≤ cc) (k.cost t a) (cheap t (omega (arith, long, a)));
    }

-- the table with its numbers lowered
pub lowered : (xs : List Item) (n h : ℕ) (counts cells costs raws : List ℕ) (total q c qq cc r s : ℕ) → HoldsItems xs n h counts cells costs raws total q c → IsMost xs n h qq cc → r ≡ min q qq → s ≡ min c cc →
    HoldsItems xs n h counts cells costs raws total r s
lowered xs n h counts cells costs raws total q c qq cc r s k m lower cheaper =
    record {
      size = k.size;
      counted = k.counted;
      carried = k.carried;
      cost = k.cost;
      raw = k.raw;
      whole = k.whole;
      most_payload = λ t z a b. let l = k.most_payload t z a b in let e = k.carried t z a b in let w = m.payloads t z a b in omega (arith, l, e, w, lower);
      most_cost = λ t a. let l = k.most_cost t a in let e = k.cost t a in let w = m.costs t a in omega (arith, l, e, w, cheaper);
    }

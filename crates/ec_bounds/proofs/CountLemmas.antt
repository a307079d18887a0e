-- More units than the classes of their period have room for bound every plan that extends the prefix.
-- Sums over the items of a period are those over its classes (`classes-sum`); the items beyond a prefix are the loads without a place (`beyond-sum`).
use Rattle.std.proofs.Common.{◌≡◌, ℕ, zero, suc, ◌+◌, ◌-◌, ◌*◌, ◌/◌, ◌<◌, ◌≤◌, ◌==◌, ◌&&◌, nat_le, true, false, cond, List, [], ◌∷◌, map, sum_by, count_by, All, Option, Some, None, refl, sym, ap, ◌∙◌, arith, inl, inr, le_trans, add-mul, div-mul-le_self, leb-true}
use Rattle.std.proofs.lemmas.Bool.{and_from, and_left, and_right, cases_eq, cond-true, cond-false, cond_both, eq-eqb, ne_eqb}
use Rattle.std.proofs.lemmas.List.Sums.{sum_by-cons, sum_by-le-sum_by}
use Rattle.std.proofs.lemmas.List.Elements.{All-head, All-tail}
use Rattle.std.proofs.lemmas.Nat.{le-div}
use Rattle.ec_hyper.specs.Lcm.{lcm_of}
use Rattle.ec_units.specs.declared.slave.Place.{Place}
use Rattle.ec_units.specs.declared.unit.Load.{Load}
use Rattle.ec_units.specs.Load.{periods_of}
use Rattle.ec_loads.specs.declared.item.Item.{Item}
use Rattle.ec_loads.specs.Cost.{item, items, plan_items, sum_below, tick_cost}
use Rattle.ec_loads.specs.Held.{AreLoads}
use Rattle.ec_loads.specs.Legal.{IsLegal}
use Rattle.ec_loads.specs.Rooms.{is_of_class, room, unplaced, is_large, room_count}
use Rattle.ec_loads.specs.Search.{Prefix, Extends, free, same, HasTick}
use Rattle.ec_bounds.specs.RoomLaws.{items_beyond, class_bytes, CountsBound}
use Rattle.ec_bounds.proofs.SubLemmas.{sum_below-le}
use Rattle.ec_bounds.proofs.AverageLemmas.{sum_below-add, sum_below-agree, sum_below-none, sum_below-one, above_or_all}
use Rattle.ec_bounds.proofs.RoomLemmas.{All-beyond, room-holds}

-- a sum over the items of a class, and over those of a period
abbrev pub class_sum : (Item → ℕ) → List Item → ℕ → ℕ → ℕ
class_sum w zs p f = sum_by (λ z. cond (is_of_class p f z) (w z) 0) zs

abbrev pub period_sum : (Item → ℕ) → List Item → ℕ → ℕ
period_sum w zs p = sum_by (λ z. cond (z.period == p) (w z) 0) zs

-- an item of a period is of one of its classes
one-class : (w : Item → ℕ) (z : Item) (p : ℕ) → z.phase < z.period → sum_below (λ f. cond (is_of_class p f z) (w z) 0) p ≡ cond (z.period == p) (w z) 0
one-class w z p low =
    elim (cases_eq z.period p) [
      | inl is ↦
          sum_below-one (λ f. cond (is_of_class p f z) (w z) 0) p z.phase (omega (arith, is, low))
          (λ k apart. cond-false (is_of_class p k z) (w z) 0 (and_right (p == z.period) (k == z.phase) (ne_eqb k z.phase apart)))
          ∙ cond-true (is_of_class p z.phase z) (w z) 0 (and_from (p == z.period) (z.phase == z.phase) (eq-eqb p z.period (sym is)) (eq-eqb z.phase z.phase refl))
          ∙ sym (cond-true (z.period == p) (w z) 0 (eq-eqb z.period p is))
      | inr other ↦
          sum_below-none (λ f. cond (is_of_class p f z) (w z) 0) p
          (λ k _. cond-false (is_of_class p k z) (w z) 0 (and_left (p == z.period) (k == z.phase) (ne_eqb p z.period (λ e. other (sym e)))))
          ∙ sym (cond-false (z.period == p) (w z) 0 (ne_eqb z.period p other))
    ]

pub classes-sum : (w : Item → ℕ) (zs : List Item) (p : ℕ) → All (λ z. z.phase < z.period) zs → sum_below (class_sum w zs p) p ≡ period_sum w zs p
classes-sum w [] p all = sum_below-none (class_sum w [] p) p (λ _ _. refl)
classes-sum w (z ∷ zs) p all =
    sum_below-agree (class_sum w (z ∷ zs) p) (λ f. cond (is_of_class p f z) (w z) 0 + class_sum w zs p f) p (λ f _. sum_by-cons (λ x. cond (is_of_class p f x) (w x) 0) z zs)
    ∙ sum_below-add (λ f. cond (is_of_class p f z) (w z) 0) (class_sum w zs p) p
    ∙ (λ i. one-class w z p (All-head (λ x. x.phase < x.period) z zs all) i + classes-sum w zs p (All-tail (λ x. x.phase < x.period) z zs all) i)
    ∙ sym (sum_by-cons (λ x. cond (x.period == p) (w x) 0) z zs)

-- a sum over the items beyond a prefix, by bytes and period, is one over the loads without a place
pub beyond-sum : (g : ℕ → ℕ → ℕ) (ls : List Load) (ps : Prefix) (plan : List Place) → Extends ps (map Some plan) →
    sum_by (λ z. g z.bytes z.period) (items_beyond ls ps plan) ≡ sum_by (λ l. g l.bytes l.period) (unplaced ls ps)
beyond-sum g [] ps plan e = refl
beyond-sum g (l ∷ ls) [] [] e = refl
beyond-sum g (l ∷ ls) [] (q ∷ qs) e = elim e [ ]
beyond-sum g (l ∷ ls) (None ∷ ps) [] e = elim e [ ]
beyond-sum g (l ∷ ls) (Some x ∷ ps) [] e = elim e [ ]
beyond-sum g (l ∷ ls) (None ∷ ps) (q ∷ qs) (free e) =
    sum_by-cons (λ z. g z.bytes z.period) (item l q) (items_beyond ls ps qs)
    ∙ ap (λ r. g l.bytes l.period + r) (beyond-sum g ls ps qs e)
    ∙ sym (sum_by-cons (λ y. g y.bytes y.period) l (unplaced ls ps))
beyond-sum g (l ∷ ls) (Some x ∷ ps) (q ∷ qs) (same e) = beyond-sum g ls ps qs e

-- whether an item has at least c bytes, as a number
abbrev large : ℕ → Item → ℕ
large c z = cond (nat_le c z.bytes) 1 0

-- units of c bytes at least have so many times c bytes
large-bytes : (zs : List Item) (p f c : ℕ) → class_sum (large c) zs p f * c ≤ class_bytes zs p f
large-bytes [] p f c = omega arith
large-bytes (z ∷ zs) p f c =
    let rest = large-bytes zs p f c in
    let counted = sum_by-cons (λ x. cond (is_of_class p f x) (large c x) 0) z zs in
    let bytes = sum_by-cons (λ x. cond (is_of_class p f x) x.bytes 0) z zs in
    let one : cond (is_of_class p f z) (large c z) 0 * c ≤ cond (is_of_class p f z) z.bytes 0 =
    elim (is_of_class p f z) as (λ b. cond b (large c z) 0 * c ≤ cond b z.bytes 0) [
      | true ↦ cond_both (nat_le c z.bytes) 1 0 (λ k. k * c ≤ z.bytes) (λ yes. let low = leb-true c z.bytes yes in omega (arith, low)) (λ _. omega arith)
      | false ↦ omega arith
    ] in
    let times : class_sum (large c) (z ∷ zs) p f * c ≡ cond (is_of_class p f z) (large c z) 0 * c + class_sum (large c) zs p f * c =
    ap (λ k. k * c) counted ∙ add-mul (cond (is_of_class p f z) (large c z) 0) (class_sum (large c) zs p f) c in
    omega (arith, rest, bytes, one, times)

-- the units without a place that are counted are items beyond the prefix
large-count : (ls : List Load) (ps : Prefix) (plan : List Place) (p c : ℕ) → Extends ps (map Some plan) → count_by (is_large p c) (unplaced ls ps) ≤ period_sum (large c) (items_beyond ls ps plan) p
large-count ls ps plan p c e =
    let all = beyond-sum (λ b q. cond (q == p) (cond (nat_le c b) 1 0) 0) ls ps plan e in
    let each = sum_by-le-sum_by (λ l. cond (is_large p c l) 1 0) (λ l. cond (l.period == p) (cond (nat_le c l.bytes) 1 0) 0) (unplaced ls ps)
    (λ l. elim (l.period == p) as (λ b. cond (b && nat_le c l.bytes) 1 0 ≤ cond b (cond (nat_le c l.bytes) 1 0) 0) [ true ↦ omega arith | false ↦ omega arith ]) in
    omega (arith, all, each)

-- they find room where no tick of the hyperperiod costs more than one less than the value
count-fits : (loads : List Load) (n v : ℕ) (ps : Prefix) (p c : ℕ) (plan : List Place) → AreLoads loads → Extends ps (map Some plan) → IsLegal loads n plan → 0 < c →
    ((t : ℕ) → t < lcm_of (periods_of loads) → tick_cost (plan_items loads plan) n t ≤ v - 1) →
    count_by (is_large p c) (unplaced loads ps) ≤ room_count (items loads ps) n (lcm_of (periods_of loads)) v p c
count-fits loads n v ps p c plan within e legal some low =
    let h = lcm_of (periods_of loads) in
    let xs = items loads ps in
    let zs = items_beyond loads ps plan in
    let counted = large-count loads ps plan p c e in
    let parts = classes-sum (large c) zs p (All-beyond (λ x. x.phase < x.period) loads ps plan e legal.phases) in
    let each = sum_below-le (class_sum (large c) zs p) (λ f. room xs n h v p f / c) p
    (λ f _. le-div (class_sum (large c) zs p f) (room xs n h v p f) c some (le_trans (large-bytes zs p f c) (room-holds loads n v ps plan within e legal low p f))) in
    omega (arith, counted, parts, each)

count-at : (b : ℕ) (loads : List Load) (n : ℕ) (v : Option ℕ) (ps : Prefix) (p c : ℕ) (plan : List Place) → AreLoads loads → Extends ps (map Some plan) → IsLegal loads n plan → v ≡ Some b → 0 < c →
    room_count (items loads ps) n (lcm_of (periods_of loads)) b p c < count_by (is_large p c) (unplaced loads ps) → HasTick loads n v plan
count-at zero loads n v ps p c plan within e legal is some above = (0, is, 0, omega arith)
count-at (suc b) loads n v ps p c plan within e legal is some above =
    elim (above_or_all (tick_cost (plan_items loads plan) n) (lcm_of (periods_of loads)) b) [
      | inl reached ↦ (suc b, is, reached.0, omega (arith, reached.1))
      | inr all ↦
          let fits = count-fits loads n (suc b) ps p c plan within e legal some (λ t low. let l = all t low in omega (arith, l)) in
          absurd (omega (arith, fits, above))
    ]

pub counts-bound : CountsBound
counts-bound loads n v ps p c plan within e legal h = count-at h.0 loads n v ps p c plan within e legal h.1 h.2 h.3

-- quotients of greater numbers are no less
pub div-mono : (a b c : ℕ) → 0 < c → a ≤ b → a / c ≤ b / c
div-mono a b c some low = le-div (a / c) b c some (le_trans (div-mul-le_self a c) low)

less-left : (a b d : ℕ) → a ≤ b → (a - 1) - d ≤ (b - 1) - d
less-left a b d low = omega arith

-- at a smaller value there is no more room
pub room-falls : (xs : List Item) (n h a b p f : ℕ) → a ≤ b → room xs n h a p f ≤ room xs n h b p f
room-falls xs n h a b p f low = less-left a b _ low

pub room_count-falls : (xs : List Item) (n h a b p c : ℕ) → 0 < c → a ≤ b → room_count xs n h a p c ≤ room_count xs n h b p c
room_count-falls xs n h a b p c some low = sum_below-le (λ f. room xs n h a p f / c) (λ f. room xs n h b p f / c) p (λ f _. div-mono (room xs n h a p f) (room xs n h b p f) c some (room-falls xs n h a b p f low))

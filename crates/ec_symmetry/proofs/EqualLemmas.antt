-- What a plan costs where two equal units have exchanged their places: the same in every tick and slot.
-- Neighbours first (`Alike-turn`); then `Alike` goes through each item before them.
use Rattle.std.proofs.Common.{◌≡◌, ◌≢◌, ℕ, zero, suc, ◌+◌, ◌<◌, ◌==◌, ◌&&◌, ◌||◌, Bool, true, false, cond, List, [], ◌∷◌, length, set, get_or, All, refl, sym, ap, ◌∙◌, subst, arith, inl, inr}
use Rattle.std.specs.List.{list_any}
use Rattle.std.proofs.lemmas.Bool.{cases_eq, eq-eqb, ne_eqb, eqb-true, true≢false, false≢true}
use Rattle.std.proofs.lemmas.List.{get_or-set_same, get_or-set_other, length-set}
use Rattle.std.proofs.lemmas.List.Elements.{All-head, All-tail, All-cons, All-nil, All-set, All-get_or}
use Rattle.ec_units.specs.declared.slave.Place.{Place}
use Rattle.ec_units.specs.declared.unit.Load.{Load}
use Rattle.ec_loads.specs.declared.item.Item.{Item}
use Rattle.ec_loads.specs.Cost.{item, plan_items, is_sent, group, same_group, has_group, payload, slot_cost, tick_cost, added}
use Rattle.ec_loads.specs.Rooms.{IsInFirstSlot}
use Rattle.ec_loads.specs.Search.{nobody, nowhere}
use Rattle.ec_loads.proofs.CostLemmas.{sum_below-agree}
use Rattle.ec_loads.proofs.PayloadLemmas.{payload-cons}
use Rattle.ec_symmetry.proofs.UsedLemmas.{or_swap}

-- the plan where units i and j have exchanged their places
abbrev pub exchange : ℕ → ℕ → List Place → List Place
exchange i j [] = []
exchange zero zero (p ∷ ps) = p ∷ ps
exchange zero (suc j) (p ∷ ps) = get_or ps j nowhere ∷ set ps j p
exchange (suc i) zero (p ∷ ps) = get_or ps i nowhere ∷ set ps i p
exchange (suc i) (suc j) (p ∷ ps) = p ∷ exchange i j ps

pub exchange-length : (i j : ℕ) (plan : List Place) → length (exchange i j plan) ≡ length plan
exchange-length i j [] = refl
exchange-length zero zero (p ∷ ps) = refl
exchange-length zero (suc j) (p ∷ ps) = ap suc (length-set ps j p)
exchange-length (suc i) zero (p ∷ ps) = ap suc (length-set ps i p)
exchange-length (suc i) (suc j) (p ∷ ps) = ap suc (exchange-length i j ps)

-- the first of them has the place of the second
pub exchange-first : (i j : ℕ) (plan : List Place) → i < length plan → j < length plan → get_or (exchange i j plan) i nowhere ≡ get_or plan j nowhere
exchange-first i j [] h k = absurd (omega arith)
exchange-first zero zero (p ∷ ps) h k = refl
exchange-first zero (suc j) (p ∷ ps) h k = refl
exchange-first (suc i) zero (p ∷ ps) h k = get_or-set_same ps i p nowhere (omega arith)
exchange-first (suc i) (suc j) (p ∷ ps) h k = exchange-first i j ps (omega arith) (omega arith)

-- the others keep theirs
pub exchange-other : (i j w : ℕ) (plan : List Place) → w ≢ i → w ≢ j → get_or (exchange i j plan) w nowhere ≡ get_or plan w nowhere
exchange-other i j w [] h k = refl
exchange-other zero zero w (p ∷ ps) h k = refl
exchange-other zero (suc j) zero (p ∷ ps) h k = absurd (h refl)
exchange-other zero (suc j) (suc w) (p ∷ ps) h k = get_or-set_other ps j w p nowhere (λ e. k (ap suc e))
exchange-other (suc i) zero zero (p ∷ ps) h k = absurd (k refl)
exchange-other (suc i) zero (suc w) (p ∷ ps) h k = get_or-set_other ps i w p nowhere (λ e. h (ap suc e))
exchange-other (suc i) (suc j) zero (p ∷ ps) h k = refl
exchange-other (suc i) (suc j) (suc w) (p ∷ ps) h k = exchange-other i j w ps (λ e. h (ap suc e)) (λ e. k (ap suc e))

abbrev first_slot : Place → Type 0
first_slot p = p.slot ≡ 0

moved-slot : (i : ℕ) (p : Place) (ps : List Place) → i < length ps → IsInFirstSlot (p ∷ ps) → IsInFirstSlot (get_or ps i nowhere ∷ set ps i p)
moved-slot i p ps h all =
    let rest = All-tail first_slot p ps all in
    All-cons first_slot (get_or ps i nowhere) (set ps i p) (All-get_or first_slot ps i nowhere h rest) (All-set first_slot ps i p (All-head first_slot p ps all) rest)

-- where all are in slot 0, they still are
pub exchange-slot : (i j : ℕ) (plan : List Place) → i < length plan → j < length plan → IsInFirstSlot plan → IsInFirstSlot (exchange i j plan)
exchange-slot i j [] h k all = All-nil _
exchange-slot zero zero (p ∷ ps) h k all = all
exchange-slot zero (suc j) (p ∷ ps) h k all = moved-slot j p ps (omega arith) all
exchange-slot (suc i) zero (p ∷ ps) h k all = moved-slot i p ps (omega arith) all
exchange-slot (suc i) (suc j) (p ∷ ps) h k all =
    All-cons first_slot p (exchange i j ps) (All-head first_slot p ps all) (exchange-slot i j ps (omega arith) (omega arith) (All-tail first_slot p ps all))

-- two lists of items that no slot and no tick tells apart
pub record Alike (xs ys : List Item) : Type 0 where
  pub groups : (g : ℕ × ℕ) (t s : ℕ) → has_group g t s xs ≡ has_group g t s ys
  pub busy : (t s : ℕ) → list_any (is_sent t s) xs ≡ list_any (is_sent t s) ys
  pub payloads : (t s : ℕ) → payload xs t s ≡ payload ys t s
  pub phases : All (λ x. x.phase < x.period) xs → All (λ x. x.phase < x.period) ys
  pub slots : (n : ℕ) → All (λ x. x.slot < n) xs → All (λ x. x.slot < n) ys

Alike-self : (xs : List Item) → Alike xs xs
Alike-self xs = record { groups = λ g t s. refl; busy = λ t s. refl; payloads = λ t s. refl; phases = λ h. h; slots = λ n h. h }

Alike-then : (xs ys zs : List Item) → Alike xs ys → Alike ys zs → Alike xs zs
Alike-then xs ys zs a b =
    record {
      groups = λ g t s. a.groups g t s ∙ b.groups g t s;
      busy = λ t s. a.busy t s ∙ b.busy t s;
      payloads = λ t s. a.payloads t s ∙ b.payloads t s;
      phases = λ h. b.phases (a.phases h);
      slots = λ n h. b.slots n (a.slots n h);
    }

Alike-cons : (x : Item) (xs ys : List Item) → Alike xs ys → Alike (x ∷ xs) (x ∷ ys)
Alike-cons x xs ys a =
    record {
      groups = λ g t s. ap (λ w. (is_sent t s x && same_group g (group x)) || w) (a.groups g t s);
      busy = λ t s. ap (λ w. is_sent t s x || w) (a.busy t s);
      payloads = λ t s.
          payload-cons x xs t s
          ∙ (λ i. cond (is_sent t s x) (cond (a.groups (group x) t s i) 0 12 + x.bytes) 0 + a.payloads t s i)
          ∙ sym (payload-cons x ys t s);
      phases = λ h. All-cons (λ z. z.phase < z.period) x ys (All-head (λ z. z.phase < z.period) x xs h) (a.phases (All-tail (λ z. z.phase < z.period) x xs h));
      slots = λ n h. All-cons (λ z. z.slot < n) x ys (All-head (λ z. z.slot < n) x xs h) (a.slots n (All-tail (λ z. z.slot < n) x xs h));
    }

-- the payload of two items does not hang on their order
two : (a b s g h : Bool) (m n p : ℕ) → (s ≡ true → g ≡ h) →
    cond a (cond ((b && s) || g) 0 12 + m) 0 + (cond b (cond h 0 12 + n) 0 + p) ≡ cond b (cond ((a && s) || h) 0 12 + n) 0 + (cond a (cond g 0 12 + m) 0 + p)
two false false s g h m n p e = refl
two true false s g h m n p e = omega arith
two false true s g h m n p e = omega arith
two true true false g h m n p e = omega arith
two true true true true true m n p e = omega arith
two true true true false false m n p e = omega arith
two true true true true false m n p e = absurd (true≢false (e refl))
two true true true false true m n p e = absurd (false≢true (e refl))

eqb-turn : (a b : ℕ) → (a == b) ≡ (b == a)
eqb-turn a b =
    elim (cases_eq a b) [
      | inl is ↦ eq-eqb a b is ∙ sym (eq-eqb b a (sym is))
      | inr apart ↦ ne_eqb a b apart ∙ sym (ne_eqb b a (λ e. apart (sym e)))
    ]

same_group-turn : (g h : ℕ × ℕ) → same_group g h ≡ same_group h g
same_group-turn g h = λ i. eqb-turn g.0 h.0 i && eqb-turn g.1 h.1 i

and_both : (a b : Bool) → (a && b) ≡ true → (a ≡ true) × (b ≡ true)
and_both true b e = (refl, e)
and_both false b e = absurd (false≢true e)

has_group-same : (x y : Item) (t s : ℕ) (zs : List Item) → same_group (group x) (group y) ≡ true → has_group (group x) t s zs ≡ has_group (group y) t s zs
has_group-same x y t s zs e =
    let both = and_both (x.period == y.period) (x.phase == y.phase) e in
    let period = eqb-true x.period y.period both.0 in
    let phase = eqb-true x.phase y.phase both.1 in
    λ i. has_group (period i, phase i) t s zs

-- two neighbours
pub Alike-turn : (x y : Item) (zs : List Item) → Alike (x ∷ y ∷ zs) (y ∷ x ∷ zs)
Alike-turn x y zs =
    record {
      groups = λ g t s. or_swap (is_sent t s x && same_group g (group x)) (is_sent t s y && same_group g (group y)) (has_group g t s zs);
      busy = λ t s. or_swap (is_sent t s x) (is_sent t s y) (list_any (is_sent t s) zs);
      payloads = λ t s.
          payload-cons x (y ∷ zs) t s ∙ ap (λ w. added t s x (y ∷ zs) + w) (payload-cons y zs t s)
          ∙ two (is_sent t s x) (is_sent t s y) (same_group (group x) (group y)) (has_group (group x) t s zs) (has_group (group y) t s zs) x.bytes y.bytes (payload zs t s) (has_group-same x y t s zs)
          ∙ ap (λ w. cond (is_sent t s y) (cond ((is_sent t s x && w) || has_group (group y) t s zs) 0 12 + y.bytes) 0 + (added t s x zs + payload zs t s)) (same_group-turn (group x) (group y))
          ∙ sym (payload-cons y (x ∷ zs) t s ∙ ap (λ w. added t s y (x ∷ zs) + w) (payload-cons x zs t s));
      phases = λ h.
          let P : Item → Type 0 = λ z. z.phase < z.period in
          let t = All-tail P x (y ∷ zs) h in
          All-cons P y (x ∷ zs) (All-head P y zs t) (All-cons P x zs (All-head P x (y ∷ zs) h) (All-tail P y zs t));
      slots = λ n h.
          let P : Item → Type 0 = λ z. z.slot < n in
          let t = All-tail P x (y ∷ zs) h in
          All-cons P y (x ∷ zs) (All-head P y zs t) (All-cons P x zs (All-head P x (y ∷ zs) h) (All-tail P y zs t));
    }

-- the first unit, and an equal one later
first-alike : (l : Load) (p : Place) (ls : List Load) (ps : List Place) (j : ℕ) → j < length ls → j < length ps → get_or ls j nobody ≡ l → Alike (item l p ∷ plan_items ls ps) (item l (get_or ps j nowhere) ∷ plan_items ls (set ps j p))
first-alike l p [] ps j h k e = absurd (omega arith)
first-alike l p (m ∷ ls) [] j h k e = absurd (omega arith)
first-alike l p (m ∷ ls) (q ∷ ps) zero h k e =
    subst (λ w. Alike (item l p ∷ item w q ∷ plan_items ls ps) (item l q ∷ item w p ∷ plan_items ls ps)) (sym e) (Alike-turn (item l p) (item l q) (plan_items ls ps))
first-alike l p (m ∷ ls) (q ∷ ps) (suc j) h k e =
    let new = item l (get_or ps j nowhere) in
    let rest = plan_items ls ps in
    let changed = plan_items ls (set ps j p) in
    let inside = Alike-cons (item m q) (item l p ∷ rest) (new ∷ changed) (first-alike l p ls ps j (omega arith) (omega arith) e) in
    Alike-then (item l p ∷ item m q ∷ rest) (item m q ∷ item l p ∷ rest) (new ∷ item m q ∷ changed) (Alike-turn (item l p) (item m q) rest)
    (Alike-then (item m q ∷ item l p ∷ rest) (item m q ∷ new ∷ changed) (new ∷ item m q ∷ changed) inside (Alike-turn (item m q) new changed))

pub exchange-alike : (loads : List Load) (plan : List Place) (i j : ℕ) → i < length loads → j < length loads → length plan ≡ length loads → get_or loads i nobody ≡ get_or loads j nobody → Alike (plan_items loads plan) (plan_items loads (exchange i j plan))
exchange-alike [] plan i j h k len e = absurd (omega arith)
exchange-alike (l ∷ ls) [] i j h k len e = absurd (omega arith)
exchange-alike (l ∷ ls) (p ∷ ps) zero zero h k len e = Alike-self _
exchange-alike (l ∷ ls) (p ∷ ps) zero (suc j) h k len e = first-alike l p ls ps j (omega arith) (omega arith) (sym e)
exchange-alike (l ∷ ls) (p ∷ ps) (suc i) zero h k len e = first-alike l p ls ps i (omega arith) (omega arith) e
exchange-alike (l ∷ ls) (p ∷ ps) (suc i) (suc j) h k len e =
    Alike-cons (item l p) (plan_items ls ps) (plan_items ls (exchange i j ps)) (exchange-alike ls ps i j (omega arith) (omega arith) (omega arith) e)

slot_cost-same : (xs ys : List Item) → Alike xs ys → (t s : ℕ) → slot_cost xs t s ≡ slot_cost ys t s
slot_cost-same xs ys a t s = rw (a.busy t s, a.payloads t s) refl

pub tick_cost-same : (xs ys : List Item) (n t : ℕ) → Alike xs ys → tick_cost xs n t ≡ tick_cost ys n t
unfolding tick_cost
tick_cost-same xs ys n t a = sum_below-agree (slot_cost xs t) (slot_cost ys t) n (λ s _. slot_cost-same xs ys a t s)

-- Steps of the loops over classes, units and periods that are left, and what their results say.
use Rattle.std.proofs.Common.{◌≡◌, ℕ, zero, suc, ◌+◌, ◌-◌, ◌*◌, ◌/◌, ◌%◌, ◌<◌, ◌≤◌, ◌==◌, ◌||◌, max, Bool, true, false, cond, is_none, List, [], ◌∷◌, ◌++◌, length, map, take, drop, set, get_or, filter, count_by, All, Option, Some, None, refl, sym, ap, ◌∙◌, subst, arith, inl, inr, add-one, drop-cons, drop_of_length-le, append_assoc, append-nil, mod-eq_of_lt, ◌≢◌, ◌&&◌}
use Rattle.std.proofs.Math.Bool.{or-false, or-true, and-false, or_assoc}
use Rattle.std.specs.Prelude.{IsTrue, nat_lt, ◌↔◌}
use Rattle.std.specs.List.{AllZip, list_any, range_with_len}
use Rattle.std.proofs.lemmas.Bool.{cases_eq, cond-true, cond-false, eq-eqb, ne_eqb}
use Rattle.std.proofs.lemmas.List.{take_more_set, get_or-set_same, get_or-set_other}
use Rattle.std.proofs.lemmas.List.Elements.{All-nil, All-cons, All-filter}
use Rattle.ec_hyper.specs.Lcm.{lcm_of}
use Rattle.ec_units.specs.declared.slave.Place.{Place}
use Rattle.ec_units.specs.declared.unit.Load.{Load}
use Rattle.ec_units.specs.Load.{periods_of}
use Rattle.ec_loads.specs.declared.item.Item.{Item}
use Rattle.ec_loads.specs.declared.pair.Pair.{Pair}
use Rattle.ec_loads.specs.Cost.{items, raw_cost, sum_below}
use Rattle.ec_loads.specs.Held.{Held}
use Rattle.ec_loads.specs.Rooms.{is_open, top, unplaced, is_above_slot_0, MergeHolds, is_large, has_period, periods_in, group_bytes, sent_bytes, room_count_by, CountHoldsBy, IsNeededBy, GroupsHoldBy}
use Rattle.ec_loads.specs.Search.{Prefix}
use Rattle.ec_loads.proofs.ExcessLemmas.{next_tick}
use Rattle.ec_bounds.specs.Left.{Left, IsRestOf, left_loads, is_placed_in}
use Rattle.ec_bounds.proofs.LeftLemmas.{some_same, below_from, below_to}
use Rattle.ec_bounds.proofs.RoomLemmas.{greatest-most, greatest-first, greatest-each}

-- no tick before the phase is one of the class
none-before : (p f i : ℕ) → f < p → i < f → i % p ≡ f → ⊥
none-before p f i less low on =
    let at : i % p ≡ i = mod-eq_of_lt (let under : i < p = omega arith in under) in
    omega (arith, at, on)

-- the loop over the ticks of a class: what no tick so far is above
pub top_first : (xs : List Item) (n h p f k : ℕ) → f < p → k ≡ f → (i : ℕ) → i < h → i < k → i % p ≡ f → raw_cost xs n i ≤ 40
top_first xs n h p f k less is i within below on = absurd (none-before p f i less (omega (arith, is, below)) on)

pub top_next : (xs : List Item) (n h p f k m r q top : ℕ) → k % p ≡ f → r ≡ raw_cost xs n k → q ≡ p → top ≡ max m r → ((i : ℕ) → i < h → i < k → i % p ≡ f → raw_cost xs n i ≤ m) →
    (i : ℕ) → i < h → i < k + q → i % p ≡ f → raw_cost xs n i ≤ top
top_next xs n h p f k m r q top turn is step most before i within below on =
    next_tick (λ j. raw_cost xs n j ≤ top) p f k h turn (λ j inside less at. let low = before j inside less at in omega (arith, low, most)) (omega (arith, is, most)) i within (omega (arith, below, step)) on

-- and that it isn't above the top
pub top_met : (xs : List Item) (n h p f : ℕ) → 40 ≤ top xs n h p f
top_met xs n h p f = greatest-first 40 (λ t. cond (t % p == f) (raw_cost xs n t) 0) h

pub top_stays : (xs : List Item) (n h p f k m r g : ℕ) → k < h → k % p ≡ f → r ≡ raw_cost xs n k → g ≡ max m r → m ≤ top xs n h p f → g ≤ top xs n h p f
top_stays xs n h p f k m r g within turn is most low =
    let term = greatest-each 40 (λ t. cond (t % p == f) (raw_cost xs n t) 0) h k within in
    let at : cond (k % p == f) (raw_cost xs n k) 0 ≡ raw_cost xs n k = cond-true (k % p == f) (raw_cost xs n k) 0 (eq-eqb (k % p) f turn) in
    omega (arith, term, at, is, most, low)

pub top_end : (xs : List Item) (n h p f k m : ℕ) → h ≤ k → 40 ≤ m → ((i : ℕ) → i < h → i < k → i % p ≡ f → raw_cost xs n i ≤ m) → m ≤ top xs n h p f → m ≡ top xs n h p f
top_end xs n h p f k m whole low each met =
    let most : top xs n h p f ≤ m = greatest-most 40 (λ t. cond (t % p == f) (raw_cost xs n t) 0) h m low (λ t within. elim (cases_eq (t % p) f) [
      | inl on ↦
          let at : cond (t % p == f) (raw_cost xs n t) 0 ≡ raw_cost xs n t = cond-true (t % p == f) (raw_cost xs n t) 0 (eq-eqb (t % p) f on) in
          let here = each t within (omega arith) on in
          omega (arith, at, here)
      | inr off ↦
          let at : cond (t % p == f) (raw_cost xs n t) 0 ≡ 0 = cond-false (t % p == f) (raw_cost xs n t) 0 (ne_eqb (t % p) f off) in
          omega (arith, at)
    ]) in
    omega (arith, most, met)

-- the loop over units: one more
open-cons : (l : Load) (o : Option Place) (ls : List Load) (ps : Prefix) (p f : ℕ) → is_open (items (l ∷ ls) (o ∷ ps)) p f ≡ (is_placed_in p f l o || is_open (items ls ps) p f)
open-cons l None ls ps p f = refl
open-cons l (Some q) ls ps p f = refl

open-at : (ls : List Load) (ps : Prefix) (p f i : ℕ) (d : Load) (e : Option Place) → i < length ls → i < length ps →
    is_open (items (drop i ls) (drop i ps)) p f ≡ (is_placed_in p f (get_or ls i d) (get_or ps i e) || is_open (items (drop (i + 1) ls) (drop (i + 1) ps)) p f)
open-at ls ps p f i d e k m = rw (add-one, drop-cons ls i d k, drop-cons ps i e m) (open-cons (get_or ls i d) (get_or ps i e) (drop (suc i) ls) (drop (suc i) ps) p f)

pub open_found : (ls : List Load) (ps : Prefix) (p f i : ℕ) (d : Load) (e : Option Place) → i < length ls → i < length ps → is_placed_in p f (get_or ls i d) (get_or ps i e) ≡ true →
    is_open (items (drop i ls) (drop i ps)) p f ≡ is_open (items ls ps) p f → true ≡ is_open (items ls ps) p f
open_found ls ps p f i d e k m here kept = sym (sym kept ∙ open-at ls ps p f i d e k m ∙ ap (λ b. b || is_open (items (drop (i + 1) ls) (drop (i + 1) ps)) p f) here)

pub open_next : (ls : List Load) (ps : Prefix) (p f i : ℕ) (d : Load) (e : Option Place) → i < length ls → i < length ps → is_placed_in p f (get_or ls i d) (get_or ps i e) ≡ false →
    is_open (items (drop i ls) (drop i ps)) p f ≡ is_open (items ls ps) p f → is_open (items (drop (i + 1) ls) (drop (i + 1) ps)) p f ≡ is_open (items ls ps) p f
open_next ls ps p f i d e k m here kept = sym (sym kept ∙ open-at ls ps p f i d e k m ∙ ap (λ b. b || is_open (items (drop (i + 1) ls) (drop (i + 1) ps)) p f) here)

pub open_none : (ls : List Load) (ps : Prefix) (p f i : ℕ) → length ls ≤ i → is_open (items (drop i ls) (drop i ps)) p f ≡ is_open (items ls ps) p f → false ≡ is_open (items ls ps) p f
open_none ls ps p f i past kept = sym (ap (λ w. is_open (items w (drop i ps)) p f) (drop_of_length-le ls past)) ∙ kept

-- the table of open classes: a unit without a place, of another period, with a phase that the table doesn't have, and one that is noted
pub placed_none : (b : Bool) → b ≡ (b || false)
placed_none b = sym (or-false b)

pub placed_other : (b c : Bool) (p q : ℕ) → p ≢ q → b ≡ (b || ((p == q) && c))
placed_other b c p q other = placed_none b ∙ ap (λ w. b || (w && c)) (sym (ne_eqb p q other))

pub placed_far : (b c : Bool) (f k : ℕ) → f ≢ k → b ≡ (b || (c && (f == k)))
placed_far b c f k far = placed_none b ∙ ap (λ w. b || w) (sym (and-false c)) ∙ ap (λ w. b || (c && w)) (sym (ne_eqb f k far))

pub placed_here : (bs : List Bool) (p q f k : ℕ) → p ≡ q → k < length bs → get_or (set bs k true) f false ≡ (get_or bs f false || ((p == q) && (f == k)))
placed_here bs p q f k same room =
    let c = p == q in
    let is : c ≡ true = eq-eqb p q same in
    elim (cases_eq f k) [
      | inl on ↦
          ap (λ j. get_or (set bs k true) j false) on ∙ get_or-set_same bs k true false room ∙ sym (or-true (get_or bs f false))
          ∙ ap (λ w. get_or bs f false || w) (sym (ap (λ w. w && (f == k)) is ∙ eq-eqb f k on))
      | inr off ↦ get_or-set_other bs k f true false off ∙ placed_far (get_or bs f false) c f k off
    ]

-- the loop over units: one more, and the end
pub open_more : (ls : List Load) (ps : Prefix) (p f i : ℕ) (d : Load) (e : Option Place) (a b : Bool) → i < length ls → i < length ps → b ≡ (a || is_placed_in p f (get_or ls i d) (get_or ps i e)) →
    (a || is_open (items (drop i ls) (drop i ps)) p f) ≡ is_open (items ls ps) p f → (b || is_open (items (drop (i + 1) ls) (drop (i + 1) ps)) p f) ≡ is_open (items ls ps) p f
open_more ls ps p f i d e a b k m noted kept =
    let rest = is_open (items (drop (i + 1) ls) (drop (i + 1) ps)) p f in
    ap (λ w. w || rest) noted ∙ or_assoc a (is_placed_in p f (get_or ls i d) (get_or ps i e)) rest
    ∙ ap (λ w. a || w) (sym (open-at ls ps p f i d e k m)) ∙ kept

pub open_all : (ls : List Load) (ps : Prefix) (p f i : ℕ) (a : Bool) → length ls ≤ i → (a || is_open (items (drop i ls) (drop i ps)) p f) ≡ is_open (items ls ps) p f → a ≡ is_open (items ls ps) p f
open_all ls ps p f i a past kept = placed_none a ∙ ap (λ w. a || is_open (items w (drop i ps)) p f) (sym (drop_of_length-le ls past)) ∙ kept

-- the room of an open and of a closed class
pub room_open : (u t k : ℕ) (b : Bool) → b ≡ true → k ≡ t → u - k ≡ u - (t + cond b 0 12)
room_open u t k b opened is = let none : ◌≡◌ {A = ℕ} (cond b 0 12) 0 = cond-true b 0 12 opened in omega (arith, none, is)

pub room_closed : (u t k : ℕ) (b : Bool) → b ≡ false → k ≡ t + 12 → u - k ≡ u - (t + cond b 0 12)
room_closed u t k b closed is = let twelve : ◌≡◌ {A = ℕ} (cond b 0 12) 12 = cond-false b 0 12 closed in omega (arith, twelve, is)

-- the loop that copies the units without a place
left-at : (ls : List Load) (bs : List Bool) (i : ℕ) (d : Load) (e : Bool) → i < length ls → i < length bs →
    left_loads (drop i ls) (drop i bs) ≡ cond (get_or bs i e) (get_or ls i d ∷ left_loads (drop (i + 1) ls) (drop (i + 1) bs)) (left_loads (drop (i + 1) ls) (drop (i + 1) bs))
left-at ls bs i d e k m = rw (add-one, drop-cons ls i d k, drop-cons bs i e m) refl

pub left_some : (ls : List Load) (bs : List Bool) (xs : List Load) (i n : ℕ) (d : Load) (e : Bool) → i < length ls → i < length bs → n < length xs → get_or bs i e ≡ true →
    take n xs ++ left_loads (drop i ls) (drop i bs) ≡ left_loads ls bs → take (n + 1) (set xs n (get_or ls i d)) ++ left_loads (drop (i + 1) ls) (drop (i + 1) bs) ≡ left_loads ls bs
left_some ls bs xs i n d e k m room on so_far =
    let rest = left_loads (drop (i + 1) ls) (drop (i + 1) bs) in
    ap (λ w. w ++ rest) (take_more_set xs n (get_or ls i d) room) ∙ append_assoc (take n xs) (get_or ls i d ∷ []) rest
    ∙ ap (λ w. take n xs ++ w) (sym (left-at ls bs i d e k m ∙ cond-true (get_or bs i e) (get_or ls i d ∷ rest) rest on)) ∙ so_far

pub left_none : (ls : List Load) (bs : List Bool) (xs : List Load) (i n : ℕ) (d : Load) (e : Bool) → i < length ls → i < length bs → get_or bs i e ≡ false →
    take n xs ++ left_loads (drop i ls) (drop i bs) ≡ left_loads ls bs → take n xs ++ left_loads (drop (i + 1) ls) (drop (i + 1) bs) ≡ left_loads ls bs
left_none ls bs xs i n d e k m off so_far =
    let rest = left_loads (drop (i + 1) ls) (drop (i + 1) bs) in
    ap (λ w. take n xs ++ w) (sym (left-at ls bs i d e k m ∙ cond-false (get_or bs i e) (get_or ls i d ∷ rest) rest off)) ∙ so_far

pub left_done : (ls : List Load) (bs : List Bool) (xs : List Load) (i n : ℕ) → length ls ≤ i → take n xs ++ left_loads (drop i ls) (drop i bs) ≡ left_loads ls bs → take n xs ≡ left_loads ls bs
left_done ls bs xs i n past so_far = sym (append-nil (take n xs)) ∙ ap (λ w. take n xs ++ left_loads w (drop i bs)) (sym (drop_of_length-le ls past)) ∙ so_far

-- they are those of the prefix
left-flags : (ls : List Load) (ps : Prefix) → left_loads ls (map (λ p. is_none p) ps) ≡ unplaced ls ps
left-flags [] ps = refl
left-flags (l ∷ ls) [] = refl
left-flags (l ∷ ls) (None ∷ ps) = ap (λ w. l ∷ w) (left-flags ls ps)
left-flags (l ∷ ls) (Some p ∷ ps) = left-flags ls ps

pub left_of : (left : Left) (held : Held) → IsRestOf left held → left_loads left.loads left.unplaced ≡ unplaced held.loads held.places
left_of left held rest = (λ i. left_loads (rest.loads i) (rest.unplaced i)) ∙ left-flags held.loads held.places

-- the test of the count
pub count-iff : (loads : List Load) (tops : ℕ → ℕ → ℕ) (val : Option ℕ) (ps : Prefix) (p c b count over : ℕ) → val ≡ Some b → 0 < c → count ≡ count_by (is_large p c) (unplaced loads ps) →
    over ≡ count - room_count_by (items loads ps) tops b p c → (IsTrue (nat_lt 0 over) ↔ CountHoldsBy loads tops val ps p c)
count-iff loads tops val ps p c b count over is some all left = (
  λ yes. let low = below_from 0 over yes in (b, is, some, omega (arith, low, all, left)),
  λ (holds : CountHoldsBy loads tops val ps p c).
      let same : holds.0 ≡ b = some_same (sym holds.1 ∙ is) in
      let above = subst (λ a. room_count_by (items loads ps) tops a p c < count_by (is_large p c) (unplaced loads ps)) same holds.3 in
      below_to 0 over (omega (arith, above, all, left)),
)

-- the table of periods: one that it has, and one that it doesn't
pub noted_here : (bs : List Bool) (q p : ℕ) → q < length bs → get_or (set bs q true) p false ≡ (get_or bs p false || (q == p))
noted_here bs q p room = elim (cases_eq p q) [
  | inl on ↦
      ap (λ j. get_or (set bs q true) j false) on ∙ get_or-set_same bs q true false room ∙ sym (or-true (get_or bs p false))
      ∙ ap (λ w. get_or bs p false || w) (sym (eq-eqb q p (sym on)))
  | inr off ↦
      get_or-set_other bs q p true false off ∙ placed_none (get_or bs p false) ∙ ap (λ w. get_or bs p false || w) (sym (ne_eqb q p (λ same. off (sym same))))
]

pub noted_far : (b : Bool) (q p : ℕ) → p < 61 → 61 ≤ q → b ≡ (b || (q == p))
noted_far b q p low far = placed_none b ∙ ap (λ w. b || w) (sym (ne_eqb q p (λ same. absurd (omega (arith, same)))))

-- the loop over units whose periods are noted: one more, and the end
pub seen_more : (ls : List Load) (p i : ℕ) (d : Load) (a b : Bool) → i < length ls → b ≡ (a || has_period p (get_or ls i d)) → (a || list_any (has_period p) (drop i ls)) ≡ list_any (has_period p) ls →
    (b || list_any (has_period p) (drop (i + 1) ls)) ≡ list_any (has_period p) ls
seen_more ls p i d a b k noted kept =
    let rest = list_any (has_period p) (drop (i + 1) ls) in
    let at : list_any (has_period p) (drop i ls) ≡ (has_period p (get_or ls i d) || rest) = rw (add-one, drop-cons ls i d k) refl in
    ap (λ w. w || rest) noted ∙ or_assoc a (has_period p (get_or ls i d)) rest ∙ ap (λ w. a || w) (sym at) ∙ kept

pub seen_all : (ls : List Load) (p i : ℕ) (a : Bool) → length ls ≤ i → (a || list_any (has_period p) (drop i ls)) ≡ list_any (has_period p) ls → a ≡ list_any (has_period p) ls
seen_all ls p i a past kept = placed_none a ∙ ap (λ w. a || list_any (has_period p) w) (sym (drop_of_length-le ls past)) ∙ kept

-- the loop that collects periods: one more number
range-more : (test : ℕ → Bool) (k m : ℕ) → 61 - k ≡ suc m → filter test (range_with_len k (61 - k)) ≡ cond (test k) (k ∷ filter test (range_with_len (k + 1) (61 - (k + 1)))) (filter test (range_with_len (k + 1) (61 - (k + 1))))
range-more test k m is =
    let next : m ≡ 61 - (k + 1) = omega (arith, is) in
    ap (λ n. filter test (range_with_len k n)) is ∙ ap (λ n. cond (test k) (k ∷ filter test (range_with_len (k + 1) n)) (filter test (range_with_len (k + 1) n))) next

pub periods_start : (ls : List Load) (xs : List ℕ) → take 0 xs ++ filter (λ p. list_any (has_period p) ls) (range_with_len 1 (61 - 1)) ≡ periods_in ls
unfolding periods_in
periods_start ls xs = refl

pub periods_some : (ls : List Load) (xs : List ℕ) (k n : ℕ) → k < 61 → n < length xs → list_any (has_period k) ls ≡ true →
    take n xs ++ filter (λ p. list_any (has_period p) ls) (range_with_len k (61 - k)) ≡ periods_in ls → take (n + 1) (set xs n k) ++ filter (λ p. list_any (has_period p) ls) (range_with_len (k + 1) (61 - (k + 1))) ≡ periods_in ls
periods_some ls xs k n low room on so_far =
    let test : ℕ → Bool = λ p. list_any (has_period p) ls in
    let rest = filter test (range_with_len (k + 1) (61 - (k + 1))) in
    let size : 61 - k ≡ suc (60 - k) = omega arith in
    ap (λ w. w ++ rest) (take_more_set xs n k room) ∙ append_assoc (take n xs) (k ∷ []) rest
    ∙ ap (λ w. take n xs ++ w) (sym (range-more test k (60 - k) size ∙ cond-true (test k) (k ∷ rest) rest on)) ∙ so_far

pub periods_none : (ls : List Load) (xs : List ℕ) (k n : ℕ) → k < 61 → list_any (has_period k) ls ≡ false →
    take n xs ++ filter (λ p. list_any (has_period p) ls) (range_with_len k (61 - k)) ≡ periods_in ls → take n xs ++ filter (λ p. list_any (has_period p) ls) (range_with_len (k + 1) (61 - (k + 1))) ≡ periods_in ls
periods_none ls xs k n low off so_far =
    let test : ℕ → Bool = λ p. list_any (has_period p) ls in
    let rest = filter test (range_with_len (k + 1) (61 - (k + 1))) in
    let size : 61 - k ≡ suc (60 - k) = omega arith in
    ap (λ w. take n xs ++ w) (sym (range-more test k (60 - k) size ∙ cond-false (test k) (k ∷ rest) rest off)) ∙ so_far

pub periods_end : (ls : List Load) (xs : List ℕ) (k n : ℕ) → 61 ≤ k → take n xs ++ filter (λ p. list_any (has_period p) ls) (range_with_len k (61 - k)) ≡ periods_in ls → take n xs ≡ periods_in ls
periods_end ls xs k n past so_far =
    let none : 0 ≡ 61 - k = omega arith in
    sym (append-nil (take n xs)) ∙ ap (λ m. take n xs ++ filter (λ p. list_any (has_period p) ls) (range_with_len k m)) none ∙ so_far

range-from : (a b n : ℕ) → a ≤ b → All (λ p. a ≤ p) (range_with_len b n)
range-from a b zero low = All-nil (λ p. a ≤ p)
range-from a b (suc n) low = All-cons (λ p. a ≤ p) b (range_with_len (b + 1) n) low (range-from a (b + 1) n (omega arith))

pub periods_positive : (ls : List Load) → All (λ p. 1 ≤ p) (periods_in ls)
unfolding periods_in
periods_positive ls = All-filter (λ p. list_any (has_period p) ls) (λ p. 1 ≤ p) (range_with_len 1 60) (range-from 1 1 60 (omega arith))

-- two lists side by side: the first ones, and those behind
pub zip_first : {A B : Type 0} (R : A → B → Type 0) (xs : List A) (ys : List B) (i : ℕ) (d : A) (e : B) → i < length xs → i < length ys → AllZip R (drop i xs) (drop i ys) →
    R (get_or xs i d) (get_or ys i e) × AllZip R (drop (i + 1) xs) (drop (i + 1) ys)
zip_first R xs ys i d e k m all = rw add-one (subst (λ w. w) (λ j. AllZip R (drop-cons xs i d k j) (drop-cons ys i e m j)) all)

pub zip_join : {A B : Type 0} (R : A → B → Type 0) (xs : List A) (ys : List B) (i : ℕ) (d : A) (e : B) → i < length xs → i < length ys →
    R (get_or xs i d) (get_or ys i e) → AllZip R (drop (i + 1) xs) (drop (i + 1) ys) → AllZip R (drop i xs) (drop i ys)
zip_join R xs ys i d e k m here rest = subst (λ w. w) (sym (λ j. AllZip R (drop-cons xs i d k j) (drop-cons ys i e m j))) (here, rw add-one at rest)

pub zip_done : {A B : Type 0} (R : A → B → Type 0) (xs : List A) (ys : List B) (i : ℕ) → length xs ≤ i → length xs ≡ length ys → AllZip R (drop i xs) (drop i ys)
zip_done R xs ys i past same = subst (λ w. w) (sym (λ j. AllZip R (drop_of_length-le xs past j) (drop_of_length-le ys (let low : length ys ≤ i = omega (arith, past, same) in low) j))) tt

-- the loop over the groups' bytes
group-at : (h : ℕ) (ps : List ℕ) (xs : List Pair) (i d : ℕ) (e : Pair) → i < length ps → i < length xs →
    group_bytes h (drop i ps) (drop i xs) ≡ 12 * (h / get_or ps i d) * (get_or xs i e).count + group_bytes h (drop (i + 1) ps) (drop (i + 1) xs)
group-at h ps xs i d e k m = rw (add-one, drop-cons ps i d k, drop-cons xs i e m) refl

pub group_next : (h : ℕ) (ps : List ℕ) (xs : List Pair) (i d t r : ℕ) (e : Pair) → i < length ps → i < length xs → r ≡ 12 * (h / get_or ps i d) * (get_or xs i e).count →
    t + group_bytes h (drop i ps) (drop i xs) ≡ group_bytes h ps xs → t + r + group_bytes h (drop (i + 1) ps) (drop (i + 1) xs) ≡ group_bytes h ps xs
group_next h ps xs i d t r e k m is so_far = let step = group-at h ps xs i d e k m in omega (arith, step, is, so_far)

pub group_end : (h : ℕ) (ps : List ℕ) (xs : List Pair) (i t : ℕ) → length ps ≤ i → t + group_bytes h (drop i ps) (drop i xs) ≡ group_bytes h ps xs → t ≡ group_bytes h ps xs
group_end h ps xs i t past so_far =
    let none : group_bytes h (drop i ps) (drop i xs) ≡ 0 = ap (λ w. group_bytes h w (drop i xs)) (drop_of_length-le ps past) in
    omega (arith, none, so_far)

-- the test of the groups
pub groups-iff : (loads : List Load) (n : ℕ) (tops : ℕ → ℕ → ℕ) (val : Option ℕ) (ps : Prefix) (pairs : List Pair) (left : List Load) (b h x y z : ℕ) → val ≡ Some b → h ≡ lcm_of (periods_of loads) → left ≡ unplaced loads ps → 0 < length left →
    AllZip (IsNeededBy (items loads ps) tops b left) (periods_in left) pairs → x ≡ b - 1 → y ≡ h →
    z ≡ sum_below (raw_cost (items loads ps) n) h + sent_bytes h left + group_bytes h (periods_in left) pairs → (IsTrue (nat_lt (x * y) z) ↔ GroupsHoldBy loads n tops val ps pairs)
groups-iff loads n tops val ps pairs left b h x y z is hyper units some needed one ticks whole =
    let product : x * y ≡ (b - 1) * h = λ i. one i * ticks i in
    let all : List Load → ℕ → Type 0 = λ ls k. (0 < length ls) × AllZip (IsNeededBy (items loads ps) tops b ls) (periods_in ls) pairs × ((b - 1) * k < sum_below (raw_cost (items loads ps) n) k + sent_bytes k ls + group_bytes k (periods_in ls) pairs) in (
      λ yes.
          let low = below_from (x * y) z yes in
          let below : (b - 1) * h < sum_below (raw_cost (items loads ps) n) h + sent_bytes h left + group_bytes h (periods_in left) pairs = omega (arith, low, product, whole) in
          let here : all left h = (some, needed, below) in
          let there : all (unplaced loads ps) (lcm_of (periods_of loads)) = subst (λ w. w) (λ i. all (units i) (hyper i)) here in
          (b, is, record { some = there.0; needed = there.1; above = there.2 }),
      λ (holds : GroupsHoldBy loads n tops val ps pairs).
          let same : holds.0 ≡ b = some_same (sym holds.1 ∙ is) in
          let above = holds.2.above in
          let at : (b - 1) * lcm_of (periods_of loads) < sum_below (raw_cost (items loads ps) n) (lcm_of (periods_of loads)) + sent_bytes (lcm_of (periods_of loads)) (unplaced loads ps) + group_bytes (lcm_of (periods_of loads)) (periods_in (unplaced loads ps)) pairs =
          subst (λ a. (a - 1) * lcm_of (periods_of loads) < sum_below (raw_cost (items loads ps) n) (lcm_of (periods_of loads)) + sent_bytes (lcm_of (periods_of loads)) (unplaced loads ps) + group_bytes (lcm_of (periods_of loads)) (periods_in (unplaced loads ps)) pairs) same above in
          let here : (b - 1) * h < sum_below (raw_cost (items loads ps) n) h + sent_bytes h left + group_bytes h (periods_in left) pairs =
          subst (λ w. w) (sym (λ i. (b - 1) * hyper i < sum_below (raw_cost (items loads ps) n) (hyper i) + sent_bytes (hyper i) (units i) + group_bytes (hyper i) (periods_in (units i)) pairs)) at in
          below_to (x * y) z (omega (arith, here, product, whole)),
    )

-- what the groups need at a value that holds
pub groups-need : (loads : List Load) (n : ℕ) (tops : ℕ → ℕ → ℕ) (val : Option ℕ) (ps : Prefix) (pairs : List Pair) (left : List Load) (b : ℕ) → val ≡ Some b → left ≡ unplaced loads ps → GroupsHoldBy loads n tops val ps pairs →
    (0 < length left) × AllZip (IsNeededBy (items loads ps) tops b left) (periods_in left) pairs
groups-need loads n tops val ps pairs left b is units holds =
    let same : holds.0 ≡ b = some_same (sym holds.1 ∙ is) in
    subst (λ w. w) (λ i. (0 < length (sym units i)) × AllZip (IsNeededBy (items loads ps) tops (same i) (sym units i)) (periods_in (sym units i)) pairs) (holds.2.some, holds.2.needed)

-- the test of the merge
pub merge-iff : (val : Option ℕ) (ps : Prefix) (v : ℕ) (r : Bool) → val ≡ Some v → v ≤ 1579 → r ≡ list_any is_above_slot_0 ps → (IsTrue r ↔ MergeHolds val ps)
merge-iff val ps v r is low all = (λ holds. (v, is, low, sym all ∙ holds), λ holds. all ∙ holds.3)

-- lists side by side are as long
pub zip_length : {A B : Type 0} (R : A → B → Type 0) (xs : List A) (ys : List B) → AllZip R xs ys → length xs ≡ length ys
zip_length R [] [] all = refl
zip_length R [] (y ∷ ys) all = absurd all
zip_length R (x ∷ xs) [] all = absurd all
zip_length R (x ∷ xs) (y ∷ ys) all = ap suc (zip_length R xs ys all.1)

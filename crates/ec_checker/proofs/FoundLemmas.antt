-- What is found in a tree: it is one, or it isn't and the fault is a node's.
use Rattle.std.proofs.Common.{◌≡◌, ◌↔◌, IsTrue, ℕ, suc, ◌+◌, ◌-◌, ◌*◌, count_by, ◌<◌, ◌≤◌, ◌%◌, ◌==◌, ◌&&◌, ◌||◌, nat_le, nat_lt, if◌then◌else◌, Bool, true, false, List, [], ◌∷◌, length, set, get_or, Option, Some, None, Result, Ok, Err, MatchResult, refl, ap, sym, subst, ◌∙◌, inl, inr, arith}
use Rattle.std.proofs.Math.Bool.{or-true}
use Rattle.std.proofs.lemmas.Bool.{eqb-true, eq-eqb, leb-true, le-leb, ltb-true, lt-ltb, or_cases, or_left, or_right, cases_lt, false≢true}
use Rattle.std.specs.List.{AllZip, list_any, range_with_len}
use Rattle.std.proofs.lemmas.List.Folds.{list_any_at}
use Rattle.std.proofs.lemmas.List.FromFn.{length-range_with_len, get_or-range_with_len}
use Rattle.std.proofs.lemmas.Nat.{mod_below}
use Rattle.ec_hyper.specs.Lcm.{lcm_of}
use Rattle.ec_hyper.proofs.LcmLemmas.{lcm_of-pos}
use Rattle.ec_units.specs.declared.slave.Place.{Place}
use Rattle.ec_units.specs.declared.unit.Load.{Load}
use Rattle.ec_units.specs.Load.{periods_of}
use Rattle.ec_loads.specs.Cost.{items, payload, raw_cost, tick_cost, sum_below}
use Rattle.ec_loads.specs.Held.{AreLoads}
use Rattle.ec_loads.specs.declared.item.Item.{Item}
use Rattle.ec_loads.specs.declared.pair.Pair.{Pair}
use Rattle.ec_loads.specs.Line.{Rules, slots_alone, turned_time, strong, IsStrong, Line}
use Rattle.ec_loads.specs.Rooms.{MergeHolds, CountHolds, GroupsHold, AreGroups, IsNeeded, unplaced, is_above_slot_0, is_large, room_count, periods_in, bytes_at, room_below, group_bytes, sent_bytes}
use Rattle.ec_loads.specs.Shape.{Leaf, tick, full, average, weighted, merging, counted, grouped, Shape, Shapes, split, leaf, open_leaf, no_shapes, more, shape_count}
use Rattle.ec_loads.specs.Search.{Prefix, children, least_raw, TickHolds, FullHolds, AverageHolds, LevelHolds, LeafHolds, TreeWith, TreesWith}
use Rattle.ec_loads.specs.Weights.{total_weight, weighted_raw, weighted_demand, WeightsHold}
use Rattle.ec_loads.proofs.CostLemmas.{tick_cost-mod}
use Rattle.ec_loads.proofs.ItemLemmas.{positive_loads, DivideAll-loads}
use Rattle.ec_checker.specs.declared.fault.CheckFault.{CheckFault}
use Rattle.ec_checker.specs.declared.fault.CheckFault.TheVariants as fault
use Rattle.ec_checker.specs.Certified.{IsNodeFault}
use Rattle.ec_checker.specs.Judged.{next, tick_holds, full_holds, average_holds, weights_hold, is_strong, merge_holds, count_holds, is_needed, all_needed, groups_hold, tick_reaches, level_holds, leaf_holds, leaf_judged, then_judged, tree_judged, trees_judged}

-- yes where it holds, and else the fault of a node
abbrev pub Found : Type 0 → Result ℕ CheckFault → Type 0
Found P r = MatchResult r (λ _. P) (λ e. IsNodeFault e × (¬ P))

-- what an open leaf has to be: nothing is enough where there is no level
abbrev pub open_is : Line → Option ℕ → Prefix → List ℕ → Type 0
open_is line None ps order = ⊥
open_is line (Some l) ps order = LevelHolds line (Some l) ps

found_leaf : (P : Type 0) (b : Bool) (k : ℕ) → (b ≡ true → P) → (P → b ≡ true) → Found P (leaf_judged b k)
found_leaf P true k to back = to refl
found_leaf P false k to back = (tt, λ p. false≢true (back p))

found_and : (P Q : Type 0) (r : Result ℕ CheckFault) → P → Found Q r → Found (P × Q) r
found_and P Q (Ok k) p q = (p, q)
found_and P Q (Err e) p q = (q.0, λ h. q.1 h.1)

found_then : (P Q : Type 0) (r : Result ℕ CheckFault) (f : ℕ → Result ℕ CheckFault) → Found P r → ((k : ℕ) → Found Q (f k)) → Found (P × Q) (then_judged r f)
found_then P Q (Ok k) f p q = found_and P Q (f k) p (q k)
found_then P Q (Err e) f p q = (p.0, λ h. p.1 h.0)

-- the leaves
found_tick : (loads : List Load) (n : ℕ) (v : Option ℕ) (ps : Prefix) (t k : ℕ) → Found (TickHolds loads n v ps t) (leaf_judged (tick_holds loads n v ps t) k)
found_tick loads n None ps t k = (tt, λ h. let e = h.1 in absurd cc)
found_tick loads n (Some b) ps t k =
    found_leaf (TickHolds loads n (Some b) ps t) (nat_le b (tick_cost (items loads ps) n t)) k
    (λ e. (b, refl, leb-true b (tick_cost (items loads ps) n t) e))
    (λ h. let e : b ≡ h.0 = cc in le-leb b (tick_cost (items loads ps) n t) (subst (λ w. w ≤ tick_cost (items loads ps) n t) (sym e) h.2))

and_parts : (a b : Bool) → (a && b) ≡ true → (a ≡ true) × (b ≡ true)
and_parts true b h = (refl, h)
and_parts false b h = absurd (false≢true h)

found_full : (loads : List Load) (n : ℕ) (ps : Prefix) (t s k : ℕ) → Found (FullHolds loads n ps t s) (leaf_judged (full_holds loads n ps t s) k)
found_full loads n ps t s k =
    found_leaf (FullHolds loads n ps t s) (full_holds loads n ps t s) k
    (λ e. let parts = and_parts (nat_lt s n) (nat_lt 1498 (payload (items loads ps) t s)) e in (ltb-true s n parts.0, ltb-true 1498 (payload (items loads ps) t s) parts.1))
    (λ h. λ j. lt-ltb s n h.0 j && lt-ltb 1498 (payload (items loads ps) t s) h.1 j)

found_average : (loads : List Load) (n : ℕ) (v : Option ℕ) (ps : Prefix) (k : ℕ) → Found (AverageHolds loads n v ps) (leaf_judged (average_holds loads n v ps) k)
found_average loads n None ps k = (tt, λ h. let e = h.1 in absurd cc)
found_average loads n (Some b) ps k =
    let m = lcm_of (periods_of loads) in
    found_leaf (AverageHolds loads n (Some b) ps) (nat_lt (b * m) (least_raw loads n ps m + m)) k
    (λ e. (b, refl, ltb-true (b * m) (least_raw loads n ps m + m) e))
    (λ h. let e : b ≡ h.0 = cc in lt-ltb (b * m) (least_raw loads n ps m + m) (subst (λ w. w * m < least_raw loads n ps m + m) (sym e) h.2))

-- three tests of numbers in a row, and what they say
abbrev Passes : ℕ → ℕ → ℕ → ℕ → ℕ → Type 0
Passes a h w x y = (a ≡ h) × (0 < w) × (x < y)

passes_from : (a h w x y : ℕ) → ((a == h) && nat_lt 0 w && nat_lt x y) ≡ true → Passes a h w x y
passes_from a h w x y e =
    let all = and_parts (a == h && nat_lt 0 w) (nat_lt x y) e in
    let some = and_parts (a == h) (nat_lt 0 w) all.0 in
    (eqb-true a h some.0, ltb-true 0 w some.1, ltb-true x y all.1)

passes_to : (a h w x y : ℕ) → Passes a h w x y → ((a == h) && nat_lt 0 w && nat_lt x y) ≡ true
passes_to a h w x y p = λ j. eq-eqb a h p.0 j && lt-ltb 0 w p.1 j && lt-ltb x y p.2 j

-- the test of weights is whether they hold
weights_from : (loads : List Load) (n : ℕ) (v : Option ℕ) (ps : Prefix) (w : List ℕ) → weights_hold loads n v ps w ≡ true → WeightsHold loads n v ps w
weights_from loads n None ps w e = absurd (false≢true e)
weights_from loads n (Some b) ps w e =
    let m = lcm_of (periods_of loads) in
    let total = total_weight w m in
    let p = passes_from (length w) m total (b * total) (weighted_raw loads n ps w m + weighted_demand loads ps w m + total) e in
    (b, refl, p.0, p.1, p.2)

weights_to : (loads : List Load) (n : ℕ) (v : Option ℕ) (ps : Prefix) (w : List ℕ) → WeightsHold loads n v ps w → weights_hold loads n v ps w ≡ true
weights_to loads n None ps w h = let e = h.1 in absurd cc
weights_to loads n (Some b) ps w h =
    let m = lcm_of (periods_of loads) in
    let total = total_weight w m in
    let bytes = weighted_raw loads n ps w m + weighted_demand loads ps w m + total in
    let e : b ≡ h.0 = cc in
    passes_to (length w) m total (b * total) bytes (h.2, h.3, subst (λ k. k * total < bytes) (sym e) h.4)

found_weights : (loads : List Load) (n : ℕ) (v : Option ℕ) (ps : Prefix) (w : List ℕ) (k : ℕ) → Found (WeightsHold loads n v ps w) (leaf_judged (weights_hold loads n v ps w) k)
found_weights loads n v ps w k = found_leaf (WeightsHold loads n v ps w) (weights_hold loads n v ps w) k (weights_from loads n v ps w) (weights_to loads n v ps w)

-- the tests of the leaves of the strong rules say whether they hold
pub merge_from : (v : Option ℕ) (ps : Prefix) → merge_holds v ps ≡ true → MergeHolds v ps
merge_from None ps e = absurd (false≢true e)
merge_from (Some b) ps e = let p = and_parts (nat_le b 1579) (list_any is_above_slot_0 ps) e in (b, refl, leb-true b 1579 p.0, p.1)

pub merge_to : (v : Option ℕ) (ps : Prefix) → MergeHolds v ps → merge_holds v ps ≡ true
merge_to None ps h = let e = h.1 in absurd cc
merge_to (Some b) ps h =
    let e : b ≡ h.0 = cc in
    let low = le-leb b 1579 (subst (λ w. w ≤ 1579) (sym e) h.2) in
    λ j. low j && h.3 j

pub count_from : (loads : List Load) (n : ℕ) (v : Option ℕ) (ps : Prefix) (p c : ℕ) → count_holds loads n v ps p c ≡ true → CountHolds loads n v ps p c
count_from loads n None ps p c e = absurd (false≢true e)
count_from loads n (Some b) ps p c e =
    let many = count_by (is_large p c) (unplaced loads ps) in
    let rooms = room_count (items loads ps) n (lcm_of (periods_of loads)) b p c in
    let t = and_parts (nat_lt 0 c) (nat_lt rooms many) e in
    (b, refl, ltb-true 0 c t.0, ltb-true rooms many t.1)

pub count_to : (loads : List Load) (n : ℕ) (v : Option ℕ) (ps : Prefix) (p c : ℕ) → CountHolds loads n v ps p c → count_holds loads n v ps p c ≡ true
count_to loads n None ps p c h = let e = h.1 in absurd cc
count_to loads n (Some b) ps p c h =
    let many = count_by (is_large p c) (unplaced loads ps) in
    let e : b ≡ h.0 = cc in
    let above = lt-ltb (room_count (items loads ps) n (lcm_of (periods_of loads)) b p c) many (subst (λ w. room_count (items loads ps) n (lcm_of (periods_of loads)) w p c < many) (sym e) h.3) in
    let some = lt-ltb 0 c h.2 in
    λ j. some j && above j

needed_from : (xs : List Item) (n h b : ℕ) (ls : List Load) (p : ℕ) (pair : Pair) → is_needed xs n h b ls p pair ≡ true → IsNeeded xs n h b ls p pair
needed_from xs n h b ls p pair e = λ some. elim (or_cases (nat_lt pair.count 1) (nat_lt (room_below xs n h b p pair) (bytes_at p ls)) e) [
  | inl none ↦ let low = ltb-true pair.count 1 none in absurd (omega (arith, low, some))
  | inr above ↦ ltb-true (room_below xs n h b p pair) (bytes_at p ls) above
]

needed_to : (xs : List Item) (n h b : ℕ) (ls : List Load) (p : ℕ) (pair : Pair) → IsNeeded xs n h b ls p pair → is_needed xs n h b ls p pair ≡ true
needed_to xs n h b ls p pair needed = elim (cases_lt pair.count 1) [
  | inl none ↦ or_left (nat_lt pair.count 1) (nat_lt (room_below xs n h b p pair) (bytes_at p ls)) (lt-ltb pair.count 1 none)
  | inr some ↦ or_right (nat_lt pair.count 1) (nat_lt (room_below xs n h b p pair) (bytes_at p ls)) (lt-ltb (room_below xs n h b p pair) (bytes_at p ls) (needed some))
]

all_from : (xs : List Item) (n h b : ℕ) (ls : List Load) (ps : List ℕ) (pairs : List Pair) → all_needed xs n h b ls ps pairs ≡ true → AllZip (IsNeeded xs n h b ls) ps pairs
all_from xs n h b ls [] [] e = tt
all_from xs n h b ls [] (pair ∷ pairs) e = absurd (false≢true e)
all_from xs n h b ls (p ∷ ps) [] e = absurd (false≢true e)
all_from xs n h b ls (p ∷ ps) (pair ∷ pairs) e =
    let t = and_parts (is_needed xs n h b ls p pair) (all_needed xs n h b ls ps pairs) e in
    (needed_from xs n h b ls p pair t.0, all_from xs n h b ls ps pairs t.1)

all_to : (xs : List Item) (n h b : ℕ) (ls : List Load) (ps : List ℕ) (pairs : List Pair) → AllZip (IsNeeded xs n h b ls) ps pairs → all_needed xs n h b ls ps pairs ≡ true
all_to xs n h b ls [] [] a = refl
all_to xs n h b ls [] (pair ∷ pairs) a = absurd a
all_to xs n h b ls (p ∷ ps) [] a = absurd a
all_to xs n h b ls (p ∷ ps) (pair ∷ pairs) a =
    let first = needed_to xs n h b ls p pair a.0 in
    let rest = all_to xs n h b ls ps pairs a.1 in
    λ j. first j && rest j

-- the bytes of a hyperperiod with the new groups
abbrev bytes_with : List Load → ℕ → Prefix → List Pair → ℕ
bytes_with loads n ps pairs =
    sum_below (raw_cost (items loads ps) n) (lcm_of (periods_of loads)) + sent_bytes (lcm_of (periods_of loads)) (unplaced loads ps) + group_bytes (lcm_of (periods_of loads)) (periods_in (unplaced loads ps)) pairs

groups_at : (loads : List Load) (n b : ℕ) (ps : Prefix) (pairs : List Pair) → AreGroups loads n b ps pairs → groups_hold loads n (Some b) ps pairs ≡ true
groups_at loads n b ps pairs h =
    let m = lcm_of (periods_of loads) in
    let ls = unplaced loads ps in
    let some = lt-ltb 0 (length ls) h.some in
    let all = all_to (items loads ps) n m b ls (periods_in ls) pairs h.needed in
    let above = lt-ltb ((b - 1) * m) (bytes_with loads n ps pairs) h.above in
    λ j. some j && (all j && above j)

pub groups_from : (loads : List Load) (n : ℕ) (v : Option ℕ) (ps : Prefix) (pairs : List Pair) → groups_hold loads n v ps pairs ≡ true → GroupsHold loads n v ps pairs
groups_from loads n None ps pairs e = absurd (false≢true e)
groups_from loads n (Some b) ps pairs e =
    let m = lcm_of (periods_of loads) in
    let ls = unplaced loads ps in
    let needed = all_needed (items loads ps) n m b ls (periods_in ls) pairs in
    let above = nat_lt ((b - 1) * m) (bytes_with loads n ps pairs) in
    let t = and_parts (nat_lt 0 (length ls)) (needed && above) e in
    let u = and_parts needed above t.1 in
    (b, refl, record { some = ltb-true 0 (length ls) t.0; needed = all_from (items loads ps) n m b ls (periods_in ls) pairs u.0; above = ltb-true ((b - 1) * m) (bytes_with loads n ps pairs) u.1 })

pub groups_to : (loads : List Load) (n : ℕ) (v : Option ℕ) (ps : Prefix) (pairs : List Pair) → GroupsHold loads n v ps pairs → groups_hold loads n v ps pairs ≡ true
groups_to loads n None ps pairs h = let e = h.1 in absurd cc
groups_to loads n (Some b) ps pairs h =
    let e : b ≡ h.0 = cc in
    groups_at loads n b ps pairs (subst (λ w. AreGroups loads n w ps pairs) (sym e) h.2)

-- a test that says whether something holds is any other one that does
pub same_test : (a b : Bool) (P : Type 0) → IsTrue a ↔ P → (b ≡ true → P) → (P → b ≡ true) → a ≡ b
same_test true b P is to back = sym (back (is.0 refl))
same_test false true P is to back = is.1 (to refl)
same_test false false P is to back = refl

-- such a test, which counts by the strong rules alone
found_strong : (rules : Rules) (P : Type 0) (b : Bool) (k : ℕ) → (b ≡ true → P) → (P → b ≡ true) → Found (IsStrong rules × P) (leaf_judged (is_strong rules && b) k)
found_strong slots_alone P b k to back = (tt, λ h. h.0)
found_strong turned_time P b k to back = (tt, λ h. h.0)
found_strong strong P b k to back = found_leaf (IsStrong strong × P) b k (λ e. (tt, to e)) (λ h. back h.1)

-- by what closes the leaf
found_closed : (line : Line) (v : Option ℕ) (ps : Prefix) (l : Leaf) (k : ℕ) → Found (LeafHolds line v ps l) (leaf_judged (leaf_holds line v ps l) k)
found_closed line v ps (tick t) k = found_tick line.loads line.slots v ps t k
found_closed line v ps (full t s) k = found_full line.loads line.slots ps t s k
found_closed line v ps average k = found_average line.loads line.slots v ps k
found_closed line v ps (weighted w) k = found_weights line.loads line.slots v ps w k
found_closed line v ps merging k = found_strong line.rules (MergeHolds v ps) (merge_holds v ps) k (merge_from v ps) (merge_to v ps)
found_closed line v ps (counted p c) k =
    found_strong line.rules (CountHolds line.loads line.slots v ps p c) (count_holds line.loads line.slots v ps p c) k (count_from line.loads line.slots v ps p c) (count_to line.loads line.slots v ps p c)
found_closed line v ps (grouped pairs) k =
    found_strong line.rules (GroupsHold line.loads line.slots v ps pairs) (groups_hold line.loads line.slots v ps pairs) k (groups_from line.loads line.slots v ps pairs) (groups_to line.loads line.slots v ps pairs)

-- the test of a level says whether it holds
below_is : (line : Line) (l : ℕ) (ps : Prefix) (t : ℕ) → nat_le l (tick_cost (items line.loads ps) line.slots t) ≡ true → TickHolds line.loads line.slots (Some l) ps t
below_is line l ps t e = (l, refl, leb-true l (tick_cost (items line.loads ps) line.slots t) e)

some_below : (line : Line) (l : ℕ) (ps : Prefix) (ticks : List ℕ) → list_any (λ t. nat_le l (tick_cost (items line.loads ps) line.slots t)) ticks ≡ true → (t : ℕ) × TickHolds line.loads line.slots (Some l) ps t
some_below line l ps [] e = absurd (false≢true e)
some_below line l ps (t ∷ ts) e = elim (or_cases (nat_le l (tick_cost (items line.loads ps) line.slots t)) _ e) [
  | inl here ↦ (t, below_is line l ps t here)
  | inr later ↦ some_below line l ps ts later
]

average_from : (line : Line) (l : ℕ) (ps : Prefix) → average_holds line.loads line.slots (Some l) ps ≡ true → AverageHolds line.loads line.slots (Some l) ps
average_from line l ps e =
    let m = lcm_of (periods_of line.loads) in
    (l, refl, ltb-true (l * m) (least_raw line.loads line.slots ps m + m) e)

pub reaches_from : (line : Line) (l : ℕ) (ps : Prefix) → tick_reaches line.loads line.slots l ps ≡ true → (t : ℕ) × TickHolds line.loads line.slots (Some l) ps t
reaches_from line l ps e = some_below line l ps (range_with_len 0 (lcm_of (periods_of line.loads))) e

level_from : (line : Line) (l : ℕ) (ps : Prefix) → level_holds line (Some l) ps ≡ true → LevelHolds line (Some l) ps
level_from line l ps e = elim (or_cases (tick_reaches line.loads line.slots l ps) (average_holds line.loads line.slots (Some l) ps) e) [
  | inl found ↦ inl (reaches_from line l ps found)
  | inr holds ↦ inr (average_from line l ps holds)
]

-- a tick that costs enough repeats below the hyperperiod
pub reaches_to : (line : Line) (l : ℕ) (ps : Prefix) → AreLoads line.loads → (t : ℕ) → TickHolds line.loads line.slots (Some l) ps t → tick_reaches line.loads line.slots l ps ≡ true
reaches_to line l ps within t h =
    let m = lcm_of (periods_of line.loads) in
    let pos : 0 < m = lcm_of-pos (periods_of line.loads) (positive_loads line.loads within) in
    let turned = tick_cost-mod (items line.loads ps) line.slots m t (DivideAll-loads line.loads ps m within refl) in
    let e : l ≡ h.0 = cc in
    let enough : l ≤ tick_cost (items line.loads ps) line.slots (t % m) = omega (arith, e, h.2, turned) in
    let place : get_or (range_with_len 0 m) (t % m) 0 ≡ t % m = omega (arith, get_or-range_with_len 0 m (t % m) 0 (mod_below t m pos)) in
    list_any_at (λ i. nat_le l (tick_cost (items line.loads ps) line.slots i)) (range_with_len 0 m) (t % m) 0
    (omega (arith, mod_below t m pos, length-range_with_len 0 m))
    (ap (λ i. nat_le l (tick_cost (items line.loads ps) line.slots i)) place ∙ le-leb l (tick_cost (items line.loads ps) line.slots (t % m)) enough)

average_to : (line : Line) (l : ℕ) (ps : Prefix) → AverageHolds line.loads line.slots (Some l) ps → average_holds line.loads line.slots (Some l) ps ≡ true
average_to line l ps h =
    let m = lcm_of (periods_of line.loads) in
    let e : l ≡ h.0 = cc in
    lt-ltb (l * m) (least_raw line.loads line.slots ps m + m) (subst (λ w. w * m < least_raw line.loads line.slots ps m + m) (sym e) h.2)

level_to : (line : Line) (l : ℕ) (ps : Prefix) → AreLoads line.loads → LevelHolds line (Some l) ps → level_holds line (Some l) ps ≡ true
level_to line l ps within (inl (t, h)) = λ j. reaches_to line l ps within t h j || average_holds line.loads line.slots (Some l) ps
level_to line l ps within (inr h) = ap (λ w. tick_reaches line.loads line.slots l ps || w) (average_to line l ps h) ∙ or-true (tick_reaches line.loads line.slots l ps)

found_open : (line : Line) (level : Option ℕ) (ps : Prefix) (order : List ℕ) (k : ℕ) → AreLoads line.loads → Found (open_is line level ps order) (leaf_judged (level_holds line level ps) k)
found_open line None ps order k within = (tt, λ h. h)
found_open line (Some l) ps order k within = found_leaf (LevelHolds line (Some l) ps) (level_holds line (Some l) ps) k (level_from line l ps) (level_to line l ps within)

-- as many trees as children
trees_count : (line : Line) (v level : Option ℕ) (ts : Shapes) (ps : Prefix) (u : ℕ) (order : List ℕ) (places : List Place) → TreesWith (open_is line level) line v ts ps u order places → shape_count ts ≡ length places
trees_count line v level no_shapes ps u order [] h = refl
trees_count line v level no_shapes ps u order (p ∷ rest) h = absurd h
trees_count line v level (more t ts) ps u order [] h = absurd h
trees_count line v level (more t ts) ps u order (p ∷ rest) h = ap suc (trees_count line v level ts ps u order rest h.1)

found_split : (P : Type 0) (b : Bool) (r : Result ℕ CheckFault) (k want got : ℕ) → (b ≡ true → Found P r) → (P → b ≡ true) → Found P (if b then r else Err (fault.Children k want got))
found_split P true r k want got to back = to refl
found_split P false r k want got to back = (tt, λ p. false≢true (back p))

mutual
  pub found_tree : (line : Line) (v level : Option ℕ) (t : Shape) (ps : Prefix) (order : List ℕ) (k : ℕ) → AreLoads line.loads → Found (TreeWith (open_is line level) line v t ps order) (tree_judged line v level t ps order k)
  found_tree line v level (split ts) ps [] k within = (tt, λ h. h)
  found_tree line v level (split ts) ps (u ∷ order) k within =
      let kids = children line ps u in
      found_split (TreesWith (open_is line level) line v ts ps u order kids) (shape_count ts == length kids) (trees_judged line v level ts ps u order kids (next k)) k (length kids) (shape_count ts)
      (λ e. found_trees line v level ts ps u order kids (next k) within (eqb-true (shape_count ts) (length kids) e))
      (λ h. eq-eqb (shape_count ts) (length kids) (trees_count line v level ts ps u order kids h))
  found_tree line v level (leaf l) ps order k within = found_closed line v ps l k
  found_tree line v level open_leaf ps order k within = found_open line level ps order k within

  found_trees : (line : Line) (v level : Option ℕ) (ts : Shapes) (ps : Prefix) (u : ℕ) (order : List ℕ) (places : List Place) (k : ℕ) → AreLoads line.loads → shape_count ts ≡ length places → Found (TreesWith (open_is line level) line v ts ps u order places) (trees_judged line v level ts ps u order places k)
  found_trees line v level no_shapes ps u order [] k within e = tt
  found_trees line v level no_shapes ps u order (p ∷ rest) k within e = absurd (omega (arith, e))
  found_trees line v level (more t ts) ps u order [] k within e = absurd (omega (arith, e))
  found_trees line v level (more t ts) ps u order (p ∷ rest) k within e =
      found_then (TreeWith (open_is line level) line v t (set ps u (Some p)) order) (TreesWith (open_is line level) line v ts ps u order rest) (tree_judged line v level t (set ps u (Some p)) order k) (λ j. trees_judged line v level ts ps u order rest j)
      (found_tree line v level t (set ps u (Some p)) order k within)
      (λ j. found_trees line v level ts ps u order rest j within (omega (arith, e)))

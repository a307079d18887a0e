-- Leaves of the strong rules: two slots that can be one, units that don't find room, new groups that cost too much.
-- A prefix with one place more shows a merge by that place, or by a place that it had (`merged_new`, `merged_before`).
use Rattle.std.proofs.Common.{◌≡◌, ℕ, zero, suc, ◌<◌, ◌≤◌, inl, inr, nat_lt, true, All, List, [], ◌∷◌, length, set, slice_get, Option, Some, None, sym, subst}
use Rattle.std.specs.List.{list_any}
use Rattle.std.proofs.lemmas.Bool.{false≢true, lt-ltb, or_cases, or_left, or_right}
use Rattle.ec_units.specs.declared.slave.Place.{Place}
use Rattle.ec_loads.specs.declared.pair.Pair.{Pair}
use Rattle.ec_loads.specs.Held.{Held}
use Rattle.ec_loads.specs.Line.{strong, line_of}
use Rattle.ec_loads.specs.Rooms.{is_above_slot_0, MergeHolds, CountHolds, GroupsHold}
use Rattle.ec_loads.specs.Search.{Prefix, IsShortPair}
use Rattle.ec_loads.specs.Shape.{merging, counted, grouped}
use Rattle.ec_cert.specs.Shapes.{shape_of}
use Rattle.ec_cert.specs.declared.tree.Tree.{Merge, Count, Groups}
use Rattle.ec_cert.proofs.TreeLemmas.{shape_of-Merge, shape_of-Count, shape_of-Groups}
use Rattle.ec_branch.specs.Walks.{IsClosing}
use Rattle.ec_branch.proofs.LeafLemmas.{closing_leaf}

-- the new place is in a slot above 0
pub merged_new : (ps : Prefix) (u : ℕ) (p : Place) → slice_get ps u ≡ Some None → 0 < p.slot → list_any is_above_slot_0 (set ps u (Some p)) ≡ true
merged_new [] u p free above = absurd (cc)
merged_new (q ∷ ps) zero p free above = or_left (nat_lt 0 p.slot) (list_any is_above_slot_0 ps) (lt-ltb 0 p.slot above)
merged_new (q ∷ ps) (suc u) p free above = or_right (is_above_slot_0 q) (list_any is_above_slot_0 (set ps u (Some p))) (merged_new ps u p free above)

-- some place was so before
pub merged_before : (ps : Prefix) (u : ℕ) (p : Place) → slice_get ps u ≡ Some None → list_any is_above_slot_0 ps ≡ true → list_any is_above_slot_0 (set ps u (Some p)) ≡ true
merged_before [] u p free above = absurd (false≢true above)
merged_before (None ∷ ps) zero p free above = or_right (nat_lt 0 p.slot) (list_any is_above_slot_0 ps) above
merged_before (Some q ∷ ps) zero p free above = absurd (cc)
merged_before (None ∷ ps) (suc u) p free above = merged_before ps u p free above
merged_before (Some q ∷ ps) (suc u) p free above = elim (or_cases (nat_lt 0 q.slot) (list_any is_above_slot_0 ps) above) [
  | inl first ↦ or_left (nat_lt 0 q.slot) (list_any is_above_slot_0 (set ps u (Some p))) first
  | inr later ↦ or_right (nat_lt 0 q.slot) (list_any is_above_slot_0 (set ps u (Some p))) (merged_before ps u p free later)
]

-- a merge as a leaf in memory
pub merge_leaf : (h : Held) (v : Option ℕ) (ps : Prefix) → MergeHolds v ps → IsClosing (line_of strong h) v ps (shape_of Merge)
merge_leaf h v ps holds = subst (IsClosing (line_of strong h) v ps) (sym shape_of-Merge) (closing_leaf (line_of strong h) v ps merging (tt, holds) tt)

-- units that are counted
pub count_leaf : (h : Held) (v : Option ℕ) (p c : ℕ) → CountHolds h.loads h.slots v h.places p c → 1 ≤ p → p ≤ 60 → 1 ≤ c → c ≤ 1486 → IsClosing (line_of strong h) v h.places (shape_of (Count p c))
count_leaf h v p c holds period most some few =
    subst (IsClosing (line_of strong h) v h.places) (sym (shape_of-Count p c)) (closing_leaf (line_of strong h) v h.places (counted p c) (tt, holds) (period, most, some, few))

-- new groups
pub groups_leaf : (h : Held) (v : Option ℕ) (pairs : List Pair) → GroupsHold h.loads h.slots v h.places pairs → 1 ≤ length pairs → length pairs ≤ 48 → All IsShortPair pairs → IsClosing (line_of strong h) v h.places (shape_of (Groups pairs))
groups_leaf h v pairs holds some few short =
    subst (IsClosing (line_of strong h) v h.places) (sym (shape_of-Groups pairs)) (closing_leaf (line_of strong h) v h.places (grouped pairs) (tt, holds) (some, few, short))

-- What is found in a tree, node by node, each before its children.
use Rattle.std.specs.Prelude.{◌≡◌, ℕ, ◌+◌, ◌-◌, ◌*◌, ◌==◌, ◌&&◌, ◌||◌, nat_lt, nat_le, min, Bool, true, false, if◌then◌else◌, List, [], ◌∷◌, length, set, slice_get, count_by, Option, Some, None, Result, Ok, Err}
use Rattle.std.specs.List.{list_any, range_with_len}
use Rattle.ec_hyper.specs.Lcm.{lcm_of}
use Rattle.ec_units.specs.declared.slave.Place.{Place}
use Rattle.ec_units.specs.declared.unit.Load.{Load}
use Rattle.ec_units.specs.Load.{periods_of}
use Rattle.ec_loads.specs.declared.item.Item.{Item}
use Rattle.ec_loads.specs.declared.pair.Pair.{Pair}
use Rattle.ec_loads.specs.Cost.{items, payload, raw_cost, tick_cost, sum_below}
use Rattle.ec_loads.specs.Line.{Rules, slots_alone, turned_time, strong, Line}
use Rattle.ec_loads.specs.Rooms.{unplaced, is_above_slot_0, is_large, room_count, periods_in, bytes_at, room_below, group_bytes, sent_bytes}
use Rattle.ec_loads.specs.Shape.{Leaf, tick, full, average, weighted, merging, counted, grouped, Shape, Shapes, split, leaf, open_leaf, no_shapes, more, shape_count}
use Rattle.ec_loads.specs.Search.{Prefix, children, least_raw}
use Rattle.ec_loads.specs.Weights.{total_weight, weighted_raw, weighted_demand}
use Rattle.ec_checker.specs.declared.fault.CheckFault.{CheckFault}
use Rattle.ec_checker.specs.declared.fault.CheckFault.TheVariants as fault

-- no unit of the order has a place when its turn comes
abbrev pub IsReady : Prefix → List ℕ → Type 0
IsReady ps [] = Unit {0}
IsReady ps (u ∷ order) = (slice_get ps u ≡ Some None) × ((p : Place) → IsReady (set ps u (Some p)) order)

-- the number of the next node, or the greatest one
abbrev pub next : ℕ → ℕ
next k = min (k + 1) 18446744073709551615

-- the tests of the leaves
abbrev pub tick_holds : List Load → ℕ → Option ℕ → Prefix → ℕ → Bool
tick_holds loads n None ps t = false
tick_holds loads n (Some b) ps t = nat_le b (tick_cost (items loads ps) n t)

abbrev pub full_holds : List Load → ℕ → Prefix → ℕ → ℕ → Bool
full_holds loads n ps t s = nat_lt s n && nat_lt 1498 (payload (items loads ps) t s)

abbrev pub average_holds : List Load → ℕ → Option ℕ → Prefix → Bool
average_holds loads n None ps = false
average_holds loads n (Some b) ps = nat_lt (b * lcm_of (periods_of loads)) (least_raw loads n ps (lcm_of (periods_of loads)) + lcm_of (periods_of loads))

abbrev pub weights_hold : List Load → ℕ → Option ℕ → Prefix → List ℕ → Bool
weights_hold loads n None ps w = false
weights_hold loads n (Some b) ps w =
    (length w == lcm_of (periods_of loads))
    && nat_lt 0 (total_weight w (lcm_of (periods_of loads)))
    && nat_lt (b * total_weight w (lcm_of (periods_of loads))) (weighted_raw loads n ps w (lcm_of (periods_of loads)) + weighted_demand loads ps w (lcm_of (periods_of loads)) + total_weight w (lcm_of (periods_of loads)))

-- the tests of the leaves that hold by the strong rules alone
abbrev pub is_strong : Rules → Bool
is_strong slots_alone = false
is_strong turned_time = false
is_strong strong = true

abbrev pub merge_holds : Option ℕ → Prefix → Bool
merge_holds None ps = false
merge_holds (Some b) ps = nat_le b 1579 && list_any is_above_slot_0 ps

abbrev pub count_holds : List Load → ℕ → Option ℕ → Prefix → ℕ → ℕ → Bool
count_holds loads n None ps p c = false
count_holds loads n (Some b) ps p c =
    nat_lt 0 c && nat_lt (room_count (items loads ps) n (lcm_of (periods_of loads)) b p c) (count_by (is_large p c) (unplaced loads ps))

-- a period needs as many new groups as its pair says; so does each, and there is a pair for each
abbrev pub is_needed : List Item → ℕ → ℕ → ℕ → List Load → ℕ → Pair → Bool
is_needed xs n h b ls p pair = nat_lt pair.count 1 || nat_lt (room_below xs n h b p pair) (bytes_at p ls)

abbrev pub all_needed : List Item → ℕ → ℕ → ℕ → List Load → List ℕ → List Pair → Bool
all_needed xs n h b ls [] [] = true
all_needed xs n h b ls [] (pair ∷ pairs) = false
all_needed xs n h b ls (p ∷ ps) [] = false
all_needed xs n h b ls (p ∷ ps) (pair ∷ pairs) = is_needed xs n h b ls p pair && all_needed xs n h b ls ps pairs

abbrev pub groups_hold : List Load → ℕ → Option ℕ → Prefix → List Pair → Bool
groups_hold loads n None ps pairs = false
groups_hold loads n (Some b) ps pairs =
    nat_lt 0 (length (unplaced loads ps))
    && (all_needed (items loads ps) n (lcm_of (periods_of loads)) b (unplaced loads ps) (periods_in (unplaced loads ps)) pairs
    && nat_lt ((b - 1) * lcm_of (periods_of loads)) (sum_below (raw_cost (items loads ps) n) (lcm_of (periods_of loads)) + sent_bytes (lcm_of (periods_of loads)) (unplaced loads ps) + group_bytes (lcm_of (periods_of loads)) (periods_in (unplaced loads ps)) pairs))

-- the test of a leaf, by what closes it
abbrev pub leaf_holds : Line → Option ℕ → Prefix → Leaf → Bool
leaf_holds line v ps (tick t) = tick_holds line.loads line.slots v ps t
leaf_holds line v ps (full t s) = full_holds line.loads line.slots ps t s
leaf_holds line v ps average = average_holds line.loads line.slots v ps
leaf_holds line v ps (weighted w) = weights_hold line.loads line.slots v ps w
leaf_holds line v ps merging = is_strong line.rules && merge_holds v ps
leaf_holds line v ps (counted p c) = is_strong line.rules && count_holds line.loads line.slots v ps p c
leaf_holds line v ps (grouped pairs) = is_strong line.rules && groups_hold line.loads line.slots v ps pairs

-- some tick below the hyperperiod costs at least the level
abbrev pub tick_reaches : List Load → ℕ → ℕ → Prefix → Bool
tick_reaches loads n l ps = list_any (λ t. nat_le l (tick_cost (items loads ps) n t)) (range_with_len 0 (lcm_of (periods_of loads)))

-- the test of an open leaf: some tick costs at least the level, or the average holds at it; with no level this is never so
abbrev pub level_holds : Line → Option ℕ → Prefix → Bool
level_holds line None ps = false
level_holds line (Some l) ps = tick_reaches line.loads line.slots l ps || average_holds line.loads line.slots (Some l) ps

abbrev pub leaf_judged : Bool → ℕ → Result ℕ CheckFault
leaf_judged holds k = if holds then Ok (next k) else Err (fault.Leaf k)

-- what comes after a tree in which no fault was found
abbrev pub then_judged : Result ℕ CheckFault → (ℕ → Result ℕ CheckFault) → Result ℕ CheckFault
then_judged (Ok k) rest = rest k
then_judged (Err e) rest = Err e

-- the number of the node after a tree that holds at a prefix, or the first fault of one that doesn't: closed leaves at the value, open ones at the level; k is the number of its root
abbrev mutual
  pub tree_judged : Line → Option ℕ → Option ℕ → Shape → Prefix → List ℕ → ℕ → Result ℕ CheckFault
  tree_judged line v level (split ts) ps [] k = Err (fault.Depth k)
  tree_judged line v level (split ts) ps (u ∷ order) k =
      if shape_count ts == length (children line ps u)
      then trees_judged line v level ts ps u order (children line ps u) (next k)
      else Err (fault.Children k (length (children line ps u)) (shape_count ts))
  tree_judged line v level (leaf l) ps order k = leaf_judged (leaf_holds line v ps l) k
  tree_judged line v level open_leaf ps order k = leaf_judged (level_holds line level ps) k

  pub trees_judged : Line → Option ℕ → Option ℕ → Shapes → Prefix → ℕ → List ℕ → List Place → ℕ → Result ℕ CheckFault
  trees_judged line v level no_shapes ps u order places k = Ok k
  trees_judged line v level (more t ts) ps u order [] k = Ok k
  trees_judged line v level (more t ts) ps u order (p ∷ rest) k =
      then_judged (tree_judged line v level t (set ps u (Some p)) order k) (λ j. trees_judged line v level ts ps u order rest j)

-- What room the classes of ticks have below a value, and what it shows of a prefix. The class of a period and a phase is the ticks in which what has them travels.
use Rattle.std.specs.Prelude.{◌≡◌, ℕ, zero, suc, ◌+◌, ◌-◌, ◌*◌, ◌/◌, ◌<◌, ◌≤◌, ◌==◌, ◌&&◌, nat_lt, nat_le, max, if◌then◌else◌, Bool, true, false, List, [], ◌∷◌, length, filter, sum_by, count_by, Option, Some, None}
use Rattle.std.specs.List.{All, AllZip, list_any, range_with_len}
use Rattle.ec_hyper.specs.Lcm.{lcm_of}
use Rattle.ec_hyper.specs.Travel.{travels}
use Rattle.ec_units.specs.declared.slave.Place.{Place}
use Rattle.ec_units.specs.declared.unit.Load.{Load}
use Rattle.ec_units.specs.Load.{periods_of}
use Rattle.ec_loads.specs.declared.item.Item.{Item}
use Rattle.ec_loads.specs.declared.pair.Pair.{Pair}
use Rattle.ec_loads.specs.Cost.{items, group, same_group, raw_cost, sum_below}

-- an item of this period and phase, in whatever slot
abbrev pub is_of_class : ℕ → ℕ → Item → Bool
is_of_class p f x = same_group (p, f) (group x)

-- a class is open where an item is of it, else closed
abbrev pub is_open : List Item → ℕ → ℕ → Bool
is_open xs p f = list_any (is_of_class p f) xs

-- the greatest of b and of what f is below n
abbrev pub greatest_below : ℕ → (ℕ → ℕ) → ℕ → ℕ
greatest_below b f zero = b
greatest_below b f (suc n) = max (greatest_below b f n) (f n)

-- the greatest of 40 and of what the ticks of a class cost without padding, of the ticks below h and over n slots
abbrev pub top : List Item → ℕ → ℕ → ℕ → ℕ → ℕ
top xs n h p f = greatest_below 40 (λ t. if travels p f t then raw_cost xs n t else 0) h

-- the room of a class at a value, where the tops of the classes are these: how far its top is below one less than the value; of a closed class 12 less, for its group
abbrev pub room_by : List Item → (ℕ → ℕ → ℕ) → ℕ → ℕ → ℕ → ℕ
room_by xs tops v p f = (v - 1) - (tops p f + (if is_open xs p f then 0 else 12))

-- the room of a class at a value
abbrev pub room : List Item → ℕ → ℕ → ℕ → ℕ → ℕ → ℕ
room xs n h = room_by xs (top xs n h)

-- the loads that have no place, in file order
abbrev pub unplaced : List Load → List (Option Place) → List Load
unplaced [] places = []
unplaced (l ∷ ls) [] = []
unplaced (l ∷ ls) (None ∷ places) = l ∷ unplaced ls places
unplaced (l ∷ ls) (Some p ∷ places) = unplaced ls places

-- a place in a slot above 0
abbrev pub is_above_slot_0 : Option Place → Bool
is_above_slot_0 None = false
is_above_slot_0 (Some p) = nat_lt 0 p.slot

-- a plan has all its units in slot 0
abbrev pub IsInFirstSlot : List Place → Type 0
IsInFirstSlot plan = All (λ p. p.slot ≡ 0) plan

-- some unit has a place in a slot above 0, at a value of at most 1579: up to there a plan below the value can have all its units in slot 0
abbrev pub MergeHolds : Option ℕ → List (Option Place) → Type 0
MergeHolds v places = (b : ℕ) × (v ≡ Some b) × (b ≤ 1579) × (list_any is_above_slot_0 places ≡ true)

-- a load of this period with at least c bytes
abbrev pub is_large : ℕ → ℕ → Load → Bool
is_large p c l = (l.period == p) && nat_le c l.bytes

-- how many units of c bytes the classes of a period have room for, where the tops are these
abbrev pub room_count_by : List Item → (ℕ → ℕ → ℕ) → ℕ → ℕ → ℕ → ℕ
room_count_by xs tops v p c = sum_below (λ f. room_by xs tops v p f / c) p

-- how many they have room for
abbrev pub room_count : List Item → ℕ → ℕ → ℕ → ℕ → ℕ → ℕ
room_count xs n h = room_count_by xs (top xs n h)

-- the units without a place of this period and with at least c bytes are more than its classes have room for, where the tops are these
abbrev pub CountHoldsBy : List Load → (ℕ → ℕ → ℕ) → Option ℕ → List (Option Place) → ℕ → ℕ → Type 0
CountHoldsBy loads tops v places p c =
    (b : ℕ) × (v ≡ Some b) × (0 < c) × (room_count_by (items loads places) tops b p c < count_by (is_large p c) (unplaced loads places))

-- they are more than its classes have room for
abbrev pub CountHolds : List Load → ℕ → Option ℕ → List (Option Place) → ℕ → ℕ → Type 0
CountHolds loads n v places = CountHoldsBy loads (top (items loads places) n (lcm_of (periods_of loads))) v places

-- whether a load has this period
abbrev pub has_period : ℕ → Load → Bool
has_period p l = l.period == p

-- the different periods of loads, from 1 to 60, in ascending order
unfoldable pub periods_in : List Load → List ℕ
periods_in ls = filter (λ p. list_any (has_period p) ls) (range_with_len 1 60)

-- the bytes of the loads of a period
abbrev pub bytes_at : ℕ → List Load → ℕ
bytes_at p ls = sum_by (λ l. if has_period p l then l.bytes else 0) ls

-- what a class has room for beside a group of x bytes: all of its room where it is open, else what its room is above x
abbrev pub room_beside_by : List Item → (ℕ → ℕ → ℕ) → ℕ → ℕ → ℕ → ℕ → ℕ
room_beside_by xs tops v p x f = if is_open xs p f then room_by xs tops v p f else room_by xs tops v p f - x

abbrev pub room_beside : List Item → ℕ → ℕ → ℕ → ℕ → ℕ → ℕ → ℕ
room_beside xs n h = room_beside_by xs (top xs n h)

-- the bytes that the classes of a period have room for at most where fewer than k closed ones are used: x for each of these, and what all have room for beside x
abbrev pub room_below_by : List Item → (ℕ → ℕ → ℕ) → ℕ → ℕ → Pair → ℕ
room_below_by xs tops v p pair = (pair.count - 1) * pair.room + sum_below (room_beside_by xs tops v p pair.room) p

abbrev pub room_below : List Item → ℕ → ℕ → ℕ → ℕ → Pair → ℕ
room_below xs n h = room_below_by xs (top xs n h)

-- the loads of a period need at least so many of its closed classes; none is always right
abbrev pub IsNeededBy : List Item → (ℕ → ℕ → ℕ) → ℕ → List Load → ℕ → Pair → Type 0
IsNeededBy xs tops v ls p pair = 1 ≤ pair.count → room_below_by xs tops v p pair < bytes_at p ls

abbrev pub IsNeeded : List Item → ℕ → ℕ → ℕ → List Load → ℕ → Pair → Type 0
IsNeeded xs n h = IsNeededBy xs (top xs n h)

-- the bytes of new groups in h ticks: 12 in each tick of a class, for as many classes of each period as its pair says
abbrev pub group_bytes : ℕ → List ℕ → List Pair → ℕ
group_bytes h [] pairs = 0
group_bytes h (p ∷ ps) [] = 0
group_bytes h (p ∷ ps) (pair ∷ pairs) = 12 * (h / p) * pair.count + group_bytes h ps pairs

-- the bytes that loads send in h ticks
abbrev pub sent_bytes : ℕ → List Load → ℕ
sent_bytes h ls = sum_by (λ l. l.bytes * (h / l.period)) ls

-- some unit has no place; each period of such units has a pair and needs as many new groups as it says, where the tops are these; and the bytes of a hyperperiod with
-- these groups are above one less than the value in each tick
pub record AreGroupsBy (loads : List Load) (n b : ℕ) (tops : ℕ → ℕ → ℕ) (places : List (Option Place)) (pairs : List Pair) : Type 0 where
  pub some : 0 < length (unplaced loads places)
  pub needed : AllZip (IsNeededBy (items loads places) tops b (unplaced loads places)) (periods_in (unplaced loads places)) pairs
  pub above : (b - 1) * lcm_of (periods_of loads) < sum_below (raw_cost (items loads places) n) (lcm_of (periods_of loads)) + sent_bytes (lcm_of (periods_of loads)) (unplaced loads places) + group_bytes (lcm_of (periods_of loads)) (periods_in (unplaced loads places)) pairs

abbrev pub AreGroups : List Load → ℕ → ℕ → List (Option Place) → List Pair → Type 0
AreGroups loads n b places = AreGroupsBy loads n b (top (items loads places) n (lcm_of (periods_of loads))) places

abbrev pub GroupsHoldBy : List Load → ℕ → (ℕ → ℕ → ℕ) → Option ℕ → List (Option Place) → List Pair → Type 0
GroupsHoldBy loads n tops v places pairs = (b : ℕ) × (v ≡ Some b) × AreGroupsBy loads n b tops places pairs

-- so many new groups are needed, and cost too much
abbrev pub GroupsHold : List Load → ℕ → Option ℕ → List (Option Place) → List Pair → Type 0
GroupsHold loads n v places = GroupsHoldBy loads n (top (items loads places) n (lcm_of (periods_of loads))) v places

-- The table of what each tick carries: its cells, the counts of its groups, and the marks of what was before a unit got its place.
use Rattle.std.specs.Prelude.{◌≡◌, ℕ, ◌+◌, ◌*◌, ◌<◌, ◌≤◌, ◌==◌, ◌&&◌, Bool, if◌then◌else◌, List, [], ◌∷◌, length, set, get_or, sum_by, Option, None}
use Rattle.std.specs.List.{count_by}
use Rattle.ec_wire.specs.Wire.{wire_of, raw_of}
use Rattle.ec_units.specs.declared.slave.Place.{Place}
use Rattle.ec_units.specs.declared.unit.Load.{Load}
use Rattle.ec_loads.specs.declared.item.Item.{Item}
use Rattle.ec_loads.specs.declared.trail.Mark.{Mark}
use Rattle.ec_loads.specs.Cost.{items, group, same_group, payload, tick_cost, raw_cost}

-- what a slot with this payload costs; 0 where nothing travels
unfoldable pub cell_cost : ℕ → ℕ
cell_cost q = if q == 0 then 0 else wire_of (2 + q)

-- the same without padding
unfoldable pub cell_raw : ℕ → ℕ
cell_raw q = if q == 0 then 0 else raw_of (2 + q)

-- an item of this period and phase, in this slot
abbrev pub is_in : ℕ → ℕ → ℕ → Item → Bool
is_in p f s x = (x.slot == s) && same_group (p, f) (group x)

-- where the group of a period, a phase and a slot is counted
abbrev pub group_at : ℕ → ℕ → ℕ → ℕ
group_at p f s = (p * 60 + f) * 8 + s

-- the second list is the first with x put in somewhere
pub data IsOneMore (x : Item) : List Item → List Item → Type 0 where
  here : {xs : List Item} → IsOneMore x xs (x ∷ xs)
  later : {y : Item} {xs ys : List Item} → IsOneMore x xs ys → IsOneMore x (y ∷ xs) (y ∷ ys)

-- a table of the items, for n slots and h ticks, and numbers that no payload and no cost is above
pub record HoldsItems (xs : List Item) (n h : ℕ) (counts cells costs raws : List ℕ) (total payload_top cost_top : ℕ) : Type 0 where
  pub size : (length counts ≡ 29280) × (length cells ≡ h * 8) × (length costs ≡ h) × (length raws ≡ h)
  pub counted : (p f s : ℕ) → p ≤ 60 → f < p → s < n → get_or counts (group_at p f s) 0 ≡ count_by (is_in p f s) xs
  pub carried : (t s : ℕ) → t < h → s < n → get_or cells (t * 8 + s) 0 ≡ payload xs t s
  pub cost : (t : ℕ) → t < h → get_or costs t 0 ≡ tick_cost xs n t
  pub raw : (t : ℕ) → t < h → get_or raws t 0 ≡ raw_cost xs n t
  pub whole : total ≡ sum_by (λ r. r) raws
  pub most_payload : (t s : ℕ) → t < h → s < n → get_or cells (t * 8 + s) 0 ≤ payload_top
  pub most_cost : (t : ℕ) → t < h → get_or costs t 0 ≤ cost_top

-- numbers that no payload and no cost of the items is above
pub record IsMost (xs : List Item) (n h payload_top cost_top : ℕ) : Type 0 where
  pub payloads : (t s : ℕ) → t < h → s < n → payload xs t s ≤ payload_top
  pub costs : (t : ℕ) → t < h → tick_cost xs n t ≤ cost_top

-- marks, the last one first: each has numbers for the places without its unit and those marked after it
abbrev pub AreKept : List Load → ℕ → ℕ → List (Option Place) → List Mark → Type 0
AreKept loads n h places [] = Unit {0}
AreKept loads n h places (m ∷ ms) = IsMost (items loads (set places m.unit None)) n h m.payload m.cost × AreKept loads n h (set places m.unit None) ms

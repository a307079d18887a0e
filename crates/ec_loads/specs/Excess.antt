-- What would be too much if a unit got a place.
use Rattle.std.specs.Prelude.{◌≡◌, ℕ, ◌+◌, ◌*◌, ◌%◌, ◌<◌, ◌≤◌, List, get_or, Option, Some, None, MatchOption}
use Rattle.ec_loads.specs.declared.item.Item.{Item}
use Rattle.ec_loads.specs.declared.excess.Excess.{Excess}
use Rattle.ec_loads.specs.declared.excess.Excess.TheVariants.{Payload, Cost}
use Rattle.ec_loads.specs.Cost.{payload, tick_cost}
use Rattle.ec_loads.specs.Table.{cell_cost}

-- t is the least of the ticks below h of this period and phase in which slot s has too great a payload
pub record IsFirstOverfull (xs : List Item) (h p f s t : ℕ) : Type 0 where
  pub below : t < h
  pub travels : t % p ≡ f
  pub above : 1498 < payload xs t s
  pub first : (i : ℕ) → i < t → i % p ≡ f → payload xs i s ≤ 1498

-- t is the least of these ticks that costs at least v, over n slots, where slot s has no too great payload in any of them
pub record IsFirstReached (xs : List Item) (n h p f s v t : ℕ) : Type 0 where
  pub below : t < h
  pub travels : t % p ≡ f
  pub reached : v ≤ tick_cost xs n t
  pub first : (i : ℕ) → i < t → i % p ≡ f → tick_cost xs n i < v
  pub fits : (i : ℕ) → i < h → i % p ≡ f → payload xs i s ≤ 1498

-- what is too much in the ticks below h of this period and phase: a payload of slot s, else a cost over n slots of at least v
abbrev pub IsExcess : List Item → ℕ → ℕ → ℕ → ℕ → ℕ → ℕ → Option Excess → Type 0
IsExcess xs n h p f s v None = (i : ℕ) → i < h → i % p ≡ f → (payload xs i s ≤ 1498) × (tick_cost xs n i < v)
IsExcess xs n h p f s v (Some (Payload t)) = IsFirstOverfull xs h p f s t
IsExcess xs n h p f s v (Some (Cost t)) = IsFirstReached xs n h p f s v t

-- by a table of cells and costs: what a cell has with b bytes more, and whether its tick then costs at least v
abbrev pub cell_at : List ℕ → ℕ → ℕ → ℕ
cell_at cells s t = get_or cells (t * 8 + s) 0

abbrev pub Reaches : List ℕ → List ℕ → ℕ → ℕ → ℕ → ℕ → Type 0
Reaches cells costs s b v t = v + cell_cost (cell_at cells s t) ≤ get_or costs t 0 + cell_cost (cell_at cells s t + b)

abbrev pub StaysBelow : List ℕ → List ℕ → ℕ → ℕ → ℕ → ℕ → Type 0
StaysBelow cells costs s b v t = get_or costs t 0 + cell_cost (cell_at cells s t + b) < v + cell_cost (cell_at cells s t)

-- of the ticks below h of this period and phase, the first that reaches the value, if one does
abbrev pub IsFirstRaised : List ℕ → List ℕ → ℕ → ℕ → ℕ → ℕ → ℕ → ℕ → Option ℕ → Type 0
IsFirstRaised cells costs h p f s b v o =
    MatchOption o ((i : ℕ) → i < h → i % p ≡ f → StaysBelow cells costs s b v i)
    (λ t. (t < h) × (t % p ≡ f) × Reaches cells costs s b v t × ((i : ℕ) → i < t → i % p ≡ f → StaysBelow cells costs s b v i))

-- the same as `IsExcess` by a table
abbrev pub IsTableExcess : List ℕ → List ℕ → ℕ → ℕ → ℕ → ℕ → ℕ → ℕ → Option Excess → Type 0
IsTableExcess cells costs h p f s b v None = (i : ℕ) → i < h → i % p ≡ f → (cell_at cells s i + b ≤ 1498) × StaysBelow cells costs s b v i
IsTableExcess cells costs h p f s b v (Some (Payload t)) = (t < h) × (t % p ≡ f) × (1498 < cell_at cells s t + b) × ((i : ℕ) → i < t → i % p ≡ f → cell_at cells s i + b ≤ 1498)
IsTableExcess cells costs h p f s b v (Some (Cost t)) =
    (t < h) × (t % p ≡ f) × Reaches cells costs s b v t × ((i : ℕ) → i < t → i % p ≡ f → StaysBelow cells costs s b v i) × ((i : ℕ) → i < h → i % p ≡ f → cell_at cells s i + b ≤ 1498)

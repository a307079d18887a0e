-- What units have to keep together.
use Rattle.std.specs.Prelude.{ℕ, ◌<◌, ◌==◌, Bool, false, ◌||◌, List, [], ◌∷◌, map, All}
use Rattle.std.specs.List.{list_any, flat_map}
use Rattle.std.specs.Str.{bytes_eq}
use Rattle.std.specs.Option.{ForSome}
use Rattle.ec_units.specs.declared.unit.Unit.{Unit as SyncUnit}

-- each place that is given names a slot below the slot count
abbrev pub SlotsBelow : ℕ → List SyncUnit → Type 0
SlotsBelow slots units = All (λ u. ForSome u.place (λ p. p.slot < slots)) units

abbrev pub names_of : List SyncUnit → List (List ℕ)
names_of units = map (λ u. u.name) units

abbrev pub stations_of : List SyncUnit → List ℕ
stations_of units = flat_map (λ u. map (λ s. s.station) u.slaves) units

-- two of these are one, by a test
abbrev pub has_same : {X : Type 0} → (X → X → Bool) → List X → Bool
has_same eq [] = false
has_same eq (x ∷ xs) = list_any (eq x) xs || has_same eq xs

-- two of these names are one
abbrev pub has_same_name : List (List ℕ) → Bool
has_same_name names = has_same bytes_eq names

-- two of these stations are one
abbrev pub has_same_station : List ℕ → Bool
has_same_station stations = has_same (λ n m. n == m) stations

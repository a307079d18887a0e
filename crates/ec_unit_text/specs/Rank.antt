-- The order of the faults of a unit text: by number, then by table, then by key.
use Rattle.std.specs.Prelude.{◌≡◌, ◌⊎◌, ℕ, ◌+◌, ◌<◌, true, false, List, [], ◌∷◌, Option, Some, None}
use Rattle.std.specs.List.{AllByRecursion}
use Rattle.ec_unit_text.specs.declared.fault.Key.{Key}
use Rattle.ec_unit_text.specs.declared.fault.Key.TheVariants as key
use Rattle.ec_unit_text.specs.declared.fault.Spot.{Spot}
use Rattle.ec_unit_text.specs.declared.fault.UnitFault.{UnitFault}
use Rattle.ec_unit_text.specs.declared.fault.UnitFault.TheVariants as fault

-- where a fault stands: its number, its unit and slave, each 0 for none and else from 1 on, and its key, 0 for none
pub record Rank : Type 0 where
  pub number : ℕ
  pub unit : ℕ
  pub slave : ℕ
  pub key : ℕ

abbrev pub place_number : Option ℕ → ℕ
place_number None = 0
place_number (Some n) = 1 + n

-- where a key stands in its table, from 1 on
abbrev pub key_number : Key → ℕ
key_number key.TickNs = 1
key_number key.Slots = 2
key_number key.Unit = 3
key_number key.Name = 1
key_number key.Period = 2
key_number key.Slave = 3
key_number key.Phase = 4
key_number key.Slot = 5
key_number key.Station = 1
key_number key.OutBytes = 2
key_number key.InBytes = 3
key_number (key.Area false) = 4
key_number (key.Area true) = 5

abbrev pub at_key : ℕ → Spot → ℕ → Rank
at_key number s k = record { number = number; unit = place_number s.unit; slave = place_number s.slave; key = k }

-- of a table, and of no table
abbrev pub at_table : ℕ → Spot → Rank
at_table number s = at_key number s 0

abbrev pub at_none : ℕ → Rank
at_none number = record { number = number; unit = 0; slave = 0; key = 0 }

abbrev pub rank : UnitFault → Rank
rank fault.OutOfMemory = at_none 1
rank fault.NotToml = at_none 2
rank (fault.Missing s k) = at_key 3 s (key_number k)
rank (fault.WrongType s k) = at_key 4 s (key_number k)
rank (fault.UnknownKey s) = at_table 5 s
rank fault.NoUnits = at_none 6
rank fault.TooManyUnits = at_none 7
rank (fault.BadName s) = at_table 8 s
rank (fault.DuplicateName s) = at_table 9 s
rank (fault.PeriodRange s) = at_table 10 s
rank (fault.SlaveCount s) = at_table 11 s
rank (fault.SlaveBytes s) = at_table 12 s
rank (fault.UnitTooBig s) = at_table 13 s
rank (fault.StationRange s) = at_table 14 s
rank (fault.DuplicateStation s) = at_table 15 s
rank (fault.AreaRange s) = at_table 16 s
rank fault.HyperTooLong = at_none 17
rank fault.SlotsRange = at_none 18
rank fault.TickRange = at_none 19
rank (fault.PlaceRange s) = at_table 20 s
rank (fault.PlaceHalf s) = at_table 21 s

-- the lesser number first; of one number the top table, then each unit before its slaves; in a table the earlier key
abbrev pub Precedes : Rank → Rank → Type 0
Precedes a b =
    (a.number < b.number) ⊎ ((a.number ≡ b.number) × ((a.unit < b.unit) ⊎ ((a.unit ≡ b.unit) × ((a.slave < b.slave) ⊎ ((a.slave ≡ b.slave) × (a.key < b.key))))))

abbrev pub IsBefore : UnitFault → UnitFault → Type 0
IsBefore f g = Precedes (rank f) (rank g)

-- each stands before all that follow it
abbrev pub AreInOrder : List UnitFault → Type 0
AreInOrder [] = Unit {0}
AreInOrder (f ∷ fs) = AllByRecursion (IsBefore f) fs × AreInOrder fs

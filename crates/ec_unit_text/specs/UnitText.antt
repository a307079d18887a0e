-- What is wrong with a unit text: the rules, in the order of the faults' numbers, and what each finds.
use Rattle.std.specs.Prelude.{ℕ, suc, ◌+◌, ℤ, pos, ◌+ℤ◌, Bool, true, false, not, ◌&&◌, ◌||◌, ◌==◌, nat_lt, int_le, int_lt, if◌then◌else◌, List, [], ◌∷◌, ◌++◌, map, slice_get, Option, Some, None, unsigned_abs}
use Rattle.std.specs.List.{flat_map}
use Rattle.std.specs.Ordering.{int_eq}
use Rattle.std.specs.Str.{bytes_eq}
use Rattle.toml.specs.Data.{Items, no_items, item, Members, as_table, push_item}
use Rattle.ec_hyper.specs.Lcm.{lcm_of}
use Rattle.ec_unit_text.specs.declared.fault.Key.{Key}
use Rattle.ec_unit_text.specs.declared.fault.Key.TheVariants as key
use Rattle.ec_unit_text.specs.declared.fault.Spot.{Spot}
use Rattle.ec_unit_text.specs.declared.fault.UnitFault.{UnitFault}
use Rattle.ec_unit_text.specs.declared.fault.UnitFault.TheVariants as fault
use Rattle.ec_unit_text.specs.declared.rule.Rule.{Rule}
use Rattle.ec_unit_text.specs.declared.rule.Rule.TheVariants as rule
use Rattle.ec_unit_text.specs.FaultText.{is_needed}
use Rattle.ec_unit_text.specs.AtKey.{integer_given, integer_or, integer_at, text_at, items_at, is_missing, tables_in, item_count, has_wrong, has_other_key, is_between}
use Rattle.ec_units.specs.Names.{is_name}

-- the entry that comes first
abbrev pub first : List UnitFault → Option UnitFault
first faults = slice_get faults 0

-- a fault, where a test holds
abbrev pub fault_if : Bool → UnitFault → List UnitFault
fault_if b f = if b then f ∷ [] else []

abbrev pub at_top : Spot
at_top = record { unit = None; slave = None }

abbrev pub at_unit : ℕ → Spot
at_unit n = record { unit = Some n; slave = None }

abbrev pub at_slave : ℕ → ℕ → Spot
at_slave n m = record { unit = Some n; slave = Some m }

-- the keys of each table, in their order
abbrev pub top_keys : List Key
top_keys = key.TickNs ∷ key.Slots ∷ key.Unit ∷ []

abbrev pub unit_keys : List Key
unit_keys = key.Name ∷ key.Period ∷ key.Slave ∷ key.Phase ∷ key.Slot ∷ []

abbrev pub slave_keys : List Key
slave_keys = key.Station ∷ key.OutBytes ∷ key.InBytes ∷ key.Area false ∷ key.Area true ∷ []

-- what is wrong with the keys and the types of a table
abbrev pub missing_at : Spot → Members → Key → List UnitFault
missing_at s ms k = fault_if (is_needed k && is_missing k ms) (fault.Missing s k)

abbrev pub wrong_at : Spot → Members → Key → List UnitFault
wrong_at s ms k = fault_if (has_wrong k ms) (fault.WrongType s k)

abbrev pub key_faults : Rule → List Key → Spot → Members → List UnitFault
key_faults rule.Missing keys s ms = flat_map (missing_at s ms) keys
key_faults rule.WrongType keys s ms = flat_map (wrong_at s ms) keys
key_faults rule.UnknownKey keys s ms = fault_if (has_other_key keys ms) (fault.UnknownKey s)
key_faults _ keys s ms = []

-- the periods of units, in file order; a negative number counts by its size
abbrev pub period_at : Members → ℕ
period_at ms = unsigned_abs (integer_at key.Period ms)

abbrev pub periods_in : Items → List ℕ
periods_in ds = map period_at (tables_in ds)

-- what a rule finds in the top table
abbrev pub top_faults : Rule → Members → List UnitFault
top_faults rule.NoUnits ms = fault_if (item_count (items_at key.Unit ms) == 0) fault.NoUnits
top_faults rule.TooManyUnits ms = fault_if (nat_lt 48 (item_count (items_at key.Unit ms))) fault.TooManyUnits
top_faults rule.SlotsRange ms = fault_if (not (is_between (pos 1) (pos 8) (integer_at key.Slots ms))) fault.SlotsRange
top_faults rule.TickRange ms = fault_if (not (is_between (pos 80) (pos 1000000000) (integer_at key.TickNs ms))) fault.TickRange
top_faults r ms = key_faults r top_keys at_top ms

-- one of these units has this name
abbrev pub is_named : List ℕ → Option Members → Bool
is_named name None = false
is_named name (Some ms) = bytes_eq name (text_at key.Name ms)

abbrev pub has_name : List ℕ → Items → Bool
has_name name no_items = false
has_name name (item d ds) = is_named name (as_table d) || has_name name ds

-- the bytes of slaves, both directions; a negative number counts by its size
abbrev pub bytes_at : Option Members → ℕ
bytes_at None = 0
bytes_at (Some ms) = unsigned_abs (integer_at key.OutBytes ms) + unsigned_abs (integer_at key.InBytes ms)

abbrev pub bytes_in : Items → ℕ
bytes_in no_items = 0
bytes_in (item d ds) = bytes_at (as_table d) + bytes_in ds

-- a number that is given is negative or not below the limit
abbrev pub is_outside : ℤ → Option ℤ → Bool
is_outside limit None = false
is_outside limit (Some z) = int_lt z (pos 0) || int_le limit z

-- a phase that is given is not below the period, or a slot not below the slot count
abbrev pub is_place_outside : Members → Members → Bool
is_place_outside top ms = is_outside (integer_at key.Period ms) (integer_given key.Phase ms) || is_outside (integer_at key.Slots top) (integer_given key.Slot ms)

-- what a rule finds in the n-th unit of a document, after the units before it
abbrev pub faults_of_unit : Rule → Members → Items → ℕ → Members → List UnitFault
faults_of_unit rule.BadName top before n ms = fault_if (not (is_name (text_at key.Name ms))) (fault.BadName (at_unit n))
faults_of_unit rule.DuplicateName top before n ms = fault_if (has_name (text_at key.Name ms) before) (fault.DuplicateName (at_unit n))
faults_of_unit rule.PeriodRange top before n ms = fault_if (not (is_between (pos 1) (pos 60) (integer_at key.Period ms))) (fault.PeriodRange (at_unit n))
faults_of_unit rule.SlaveCount top before n ms =
    fault_if (item_count (items_at key.Slave ms) == 0 || nat_lt 8 (item_count (items_at key.Slave ms))) (fault.SlaveCount (at_unit n))
faults_of_unit rule.UnitTooBig top before n ms = fault_if (nat_lt 1486 (bytes_in (items_at key.Slave ms))) (fault.UnitTooBig (at_unit n))
faults_of_unit rule.PlaceRange top before n ms =
    fault_if (is_place_outside top ms) (fault.PlaceRange (at_unit n))
faults_of_unit rule.PlaceHalf top before n ms =
    fault_if ((is_missing key.Phase ms && not (is_missing key.Slot ms)) || (not (is_missing key.Phase ms) && is_missing key.Slot ms)) (fault.PlaceHalf (at_unit n))
faults_of_unit r top before n ms = key_faults r unit_keys (at_unit n) ms

-- one of these slaves has this station, and one of the slaves of these units
abbrev pub is_stationed : ℤ → Option Members → Bool
is_stationed z None = false
is_stationed z (Some ms) = int_eq z (integer_at key.Station ms)

abbrev pub has_station : ℤ → Items → Bool
has_station z no_items = false
has_station z (item d ds) = is_stationed z (as_table d) || has_station z ds

abbrev pub is_stationed_in : ℤ → Option Members → Bool
is_stationed_in z None = false
is_stationed_in z (Some ms) = has_station z (items_at key.Slave ms)

abbrev pub has_station_in : ℤ → Items → Bool
has_station_in z no_items = false
has_station_in z (item d ds) = is_stationed_in z (as_table d) || has_station_in z ds

-- the counts of a slave are bytes: neither is negative, and not both are 0
abbrev pub are_byte_counts : ℤ → ℤ → Bool
are_byte_counts out_bytes in_bytes = not ((int_lt out_bytes (pos 0) || int_lt in_bytes (pos 0)) || (int_eq out_bytes (pos 0) && int_eq in_bytes (pos 0)))

-- the two areas, each an address and a number of bytes, are in range, and neither has bytes in the other
abbrev pub is_area : ℤ → ℤ → Bool
is_area at bytes = is_between (pos 4096) (pos 65535) at && int_le (at +ℤ bytes) (pos 65536)

abbrev pub overlap : ℤ → ℤ → ℤ → ℤ → Bool
overlap out_at out_bytes in_at in_bytes =
    (int_lt (pos 0) out_bytes && int_lt (pos 0) in_bytes) && (int_lt out_at (in_at +ℤ in_bytes) && int_lt in_at (out_at +ℤ out_bytes))

abbrev pub are_areas : ℤ → ℤ → ℤ → ℤ → Bool
are_areas out_at out_bytes in_at in_bytes =
    (is_area out_at out_bytes && is_area in_at in_bytes) && not (overlap out_at out_bytes in_at in_bytes)

-- where an area of a slave begins, that of the inputs for true; 4096 and 8192 where it isn't given
abbrev pub area_at : Bool → Members → ℤ
area_at false ms = integer_or (pos 4096) (key.Area false) ms
area_at true ms = integer_or (pos 8192) (key.Area true) ms

abbrev pub are_areas_of : Members → Bool
are_areas_of ms = are_areas (area_at false ms) (integer_at key.OutBytes ms) (area_at true ms) (integer_at key.InBytes ms)

-- what a rule finds in the m-th slave of the n-th unit, after the units and the slaves before it
abbrev pub faults_of_slave : Rule → Items → Items → ℕ → ℕ → Members → List UnitFault
faults_of_slave rule.SlaveBytes units slaves n m ms = fault_if (not (are_byte_counts (integer_at key.OutBytes ms) (integer_at key.InBytes ms))) (fault.SlaveBytes (at_slave n m))
faults_of_slave rule.StationRange units slaves n m ms = fault_if (not (is_between (pos 1) (pos 65535) (integer_at key.Station ms))) (fault.StationRange (at_slave n m))
faults_of_slave rule.DuplicateStation units slaves n m ms =
    fault_if (has_station_in (integer_at key.Station ms) units || has_station (integer_at key.Station ms) slaves) (fault.DuplicateStation (at_slave n m))
faults_of_slave rule.AreaRange units slaves n m ms = fault_if (not (are_areas_of ms)) (fault.AreaRange (at_slave n m))
faults_of_slave r units slaves n m ms = key_faults r slave_keys (at_slave n m) ms

-- what a rule finds in the slaves of the n-th unit from the m-th on
abbrev pub faults_of_slave_item : Rule → Items → Items → ℕ → ℕ → Option Members → List UnitFault
faults_of_slave_item r units slaves n m None = []
faults_of_slave_item r units slaves n m (Some ms) = faults_of_slave r units slaves n m ms

abbrev pub slave_faults_from : Rule → Items → Items → ℕ → ℕ → Items → List UnitFault
slave_faults_from r units before n m no_items = []
slave_faults_from r units before n m (item d ds) =
    faults_of_slave_item r units before n m (as_table d) ++ slave_faults_from r units (push_item before d) n (suc m) ds

-- what a rule finds in the units from the n-th on, each followed by its slaves
abbrev pub faults_of_unit_item : Rule → Members → Items → ℕ → Option Members → List UnitFault
faults_of_unit_item r top before n None = []
faults_of_unit_item r top before n (Some ms) =
    faults_of_unit r top before n ms ++ slave_faults_from r before no_items n 0 (items_at key.Slave ms)

abbrev pub unit_faults_from : Rule → Members → Items → ℕ → Items → List UnitFault
unit_faults_from r top before n no_items = []
unit_faults_from r top before n (item d ds) =
    faults_of_unit_item r top before n (as_table d) ++ unit_faults_from r top (push_item before d) (suc n) ds

abbrev pub faults_by : Members → Rule → List UnitFault
faults_by ms r = top_faults r ms ++ unit_faults_from r ms no_items 0 (items_at key.Unit ms)

-- the hyperperiod, which no table has for itself
abbrev pub hyper_faults : Members → List UnitFault
hyper_faults ms = fault_if (nat_lt 1024 (lcm_of (periods_in (items_at key.Unit ms)))) fault.HyperTooLong

-- the rules before the hyperperiod, and those after it
abbrev pub early_rules : List Rule
early_rules =
    rule.Missing ∷ rule.WrongType ∷ rule.UnknownKey ∷ rule.NoUnits ∷ rule.TooManyUnits ∷ rule.BadName ∷ rule.DuplicateName
    ∷ rule.PeriodRange ∷ rule.SlaveCount ∷ rule.SlaveBytes ∷ rule.UnitTooBig ∷ rule.StationRange ∷ rule.DuplicateStation ∷ rule.AreaRange ∷ []

abbrev pub late_rules : List Rule
late_rules = rule.SlotsRange ∷ rule.TickRange ∷ rule.PlaceRange ∷ rule.PlaceHalf ∷ []

-- all that is wrong with a document: by the number of the fault, then by place, the least first
unfoldable pub unit_faults : Members → List UnitFault
unit_faults ms = flat_map (faults_by ms) early_rules ++ (hyper_faults ms ++ flat_map (faults_by ms) late_rules)

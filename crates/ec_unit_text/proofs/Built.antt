-- What units that a document without a fault says keep together.
use Rattle.std.proofs.Common.{◌≡◌, ◌≤◌, ◌<◌, ℕ, ℤ, pos, arith, length, false, List, ◌++◌, All, map, unwrap_or, Option, Some, None, ap, sym, ◌∙◌}
use Rattle.std.specs.Option.{ForSome}
use Rattle.std.proofs.lemmas.Bool.{or_parts, eqb-false, ltb-false}
use Rattle.std.proofs.lemmas.List.{length-map, get_or-map}
use Rattle.std.proofs.lemmas.List.Elements.{All-nil, All-cons}
use Rattle.std.specs.Prelude.{unsigned_abs}
use Rattle.toml.specs.Data.{Items, no_items, item, Members, as_table}
use Rattle.ec_hyper.specs.Lcm.{lcm_of}
use Rattle.ec_unit_text.specs.declared.fault.Key.TheVariants as key
use Rattle.ec_units.specs.declared.slave.Place.{Place}
use Rattle.ec_units.specs.declared.unit.Unit.{Unit as SyncUnit}
use Rattle.ec_unit_text.specs.AtKey.{integer_given, integer_at, items_at, table_list, tables_in, item_count}
use Rattle.ec_unit_text.specs.Fits.{IsWithin, UnitItemFits, UnitsFit}
use Rattle.ec_units.specs.Load.{loads_of, periods_of}
use Rattle.ec_units.specs.Together.{SlotsBelow}
use Rattle.ec_unit_text.specs.UnitText.{first, is_outside, unit_faults}
use Rattle.ec_units.specs.Views.{UnitView, unit_view}
use Rattle.ec_unit_text.specs.Said.{number_at, place_from, unit_of}
use Rattle.ec_unit_text.proofs.Faultless.{hyper_none, units_fit, some_units, few_units, slots_in, tick_in}
use Rattle.ec_unit_text.proofs.Fitting.{within, number_inside}
use Rattle.ec_unit_text.proofs.Tabled.{unit_count, periods_of_tables}

pub tick_within : (ms : Members) → first (unit_faults ms) ≡ None → IsWithin 80 1000000000 (integer_at key.TickNs ms)
tick_within ms h = within 80 1000000000 (integer_at key.TickNs ms) (tick_in ms h)

pub slots_within : (ms : Members) → first (unit_faults ms) ≡ None → IsWithin 1 8 (integer_at key.Slots ms)
slots_within ms h = within 1 8 (integer_at key.Slots ms) (slots_in ms h)

pub count_of_units : (us : List SyncUnit) (ms : Members) → first (unit_faults ms) ≡ None → map unit_view us ≡ map unit_of (tables_in (items_at key.Unit ms)) → (1 ≤ length us) × (length us ≤ 48)
count_of_units us ms h e =
    let counted : length us ≡ item_count (items_at key.Unit ms) = unit_count ms us (items_at key.Unit ms) (units_fit ms h) e in
    let some : item_count (items_at key.Unit ms) ≡ 0 → ⊥ = eqb-false (item_count (items_at key.Unit ms)) 0 (some_units ms h) in
    let few : item_count (items_at key.Unit ms) ≤ 48 = ltb-false 48 (item_count (items_at key.Unit ms)) (few_units ms h) in
    rw counted (omega arith, few)

pub short : (us : List SyncUnit) (ms : Members) → first (unit_faults ms) ≡ None → map unit_view us ≡ map unit_of (tables_in (items_at key.Unit ms)) → lcm_of (periods_of (loads_of us)) ≤ 1024
short us ms h e = rw (periods_of_tables us (items_at key.Unit ms) e) (hyper_none ms h)

-- a slot that is given is below the slot count
place_below : (phase slot : Option ℤ) (n : ℕ) (p : Place) → is_outside (pos n) slot ≡ false → place_from phase slot ≡ Some p → p.slot < n
place_below None slot n p h e = cc
place_below (Some a) None n p h e = cc
place_below (Some a) (Some b) n p h e =
    let same : unsigned_abs b ≡ p.slot = ap (λ o. (unwrap_or o p).slot) e in
    let below : unsigned_abs b < n = (number_inside n b h).1 in
    omega arith

abbrev BelowSlots : ℕ → UnitView → Type 0
BelowSlots n v = ForSome v.place (λ p. p.slot < n)

item_below : (top : Members) (n : ℕ) (t : Option Members) (rest : List Members) → integer_at key.Slots top ≡ pos n → UnitItemFits top t → All (BelowSlots n) (map unit_of rest) → All (BelowSlots n) (map unit_of (table_list t ++ rest))
item_below top n None rest e h k = absurd h
item_below top n (Some ms) rest e h k =
    let inside = (or_parts (is_outside (integer_at key.Period ms) (integer_given key.Phase ms)) (is_outside (integer_at key.Slots top) (integer_given key.Slot ms)) h.place).1 in
    All-cons (BelowSlots n) (unit_of ms) (map unit_of rest)
    (λ p placed. place_below (integer_given key.Phase ms) (integer_given key.Slot ms) n p (ap (λ z. is_outside z (integer_given key.Slot ms)) (sym e) ∙ inside) placed) k

all_below : (top : Members) (n : ℕ) (ds : Items) → integer_at key.Slots top ≡ pos n → UnitsFit top ds → All (BelowSlots n) (map unit_of (tables_in ds))
all_below top n no_items e h = All-nil _
all_below top n (item d ds) e h = item_below top n (as_table d) (tables_in ds) e h.0 (all_below top n ds e h.1)

views_below : (n : ℕ) (us : List SyncUnit) → All (BelowSlots n) (map unit_view us) → SlotsBelow n us
views_below n us h = λ k d l p placed.
    h k (unit_view d) (rw (length-map us unit_view) l) p (ap (λ v. v.place) (get_or-map unit_view us k d (unit_view d) l) ∙ placed)

pub slots_below : (us : List SyncUnit) (ms : Members) → first (unit_faults ms) ≡ None → map unit_view us ≡ map unit_of (tables_in (items_at key.Unit ms)) → SlotsBelow (number_at key.Slots ms) us
slots_below us ms h e =
    views_below (number_at key.Slots ms) us (rw e (all_below ms (number_at key.Slots ms) (items_at key.Unit ms) (slots_within ms h).whole (units_fit ms h)))

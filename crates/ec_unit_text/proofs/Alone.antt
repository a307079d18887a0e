-- In a document without a fault no two units have one name, and no two slaves one station.
-- `has_same` of a list follows from "none repeats one before it" (`Apart`), of tables first and of views after that
-- (`Tabled`).
use Rattle.std.proofs.Common.{◌≡◌, ◌==◌, ℕ, suc, pos, Bool, false, ◌||◌, List, [], ◌∷◌, ◌++◌, append_assoc, map, Option, Some, None, refl, ap, sym, ◌∙◌, arith}
use Rattle.std.specs.List.{flat_map, list_any}
use Rattle.std.specs.Ordering.{int_eq}
use Rattle.std.specs.Str.{bytes_eq}
use Rattle.std.proofs.lemmas.Bool.{or_parts, or_from}
use Rattle.std.proofs.lemmas.Bool.Decides.{nat_tests}
use Rattle.std.proofs.lemmas.List.{append-nil, map-append}
use Rattle.std.proofs.lemmas.List.Folds.{list_any-append}
use Rattle.std.proofs.lemmas.Grind.{flat_map-append}
use Rattle.toml.specs.Data.{Data, Items, no_items, item, Members, as_table, push_item}
use Rattle.ec_unit_text.specs.declared.fault.Key.TheVariants as key
use Rattle.ec_unit_text.specs.declared.rule.Rule.TheVariants as rule
use Rattle.ec_units.specs.declared.unit.Unit.{Unit as SyncUnit}
use Rattle.ec_unit_text.specs.AtKey.{integer_at, text_at, items_at, table_list, tables_in}
use Rattle.ec_unit_text.specs.UnitText.{first, unit_faults, is_named, has_name, is_stationed, has_station, is_stationed_in, has_station_in, faults_of_unit, faults_of_slave_item, slave_faults_from, faults_of_unit_item, unit_faults_from}
use Rattle.ec_unit_text.specs.Fits.{SlaveItemFits, SlavesFit, UnitItemFits, UnitsFit}
use Rattle.ec_units.specs.Together.{names_of, stations_of, has_same_name, has_same_station}
use Rattle.ec_units.specs.Views.{unit_view}
use Rattle.ec_unit_text.specs.Said.{number_at, unit_of}
use Rattle.ec_unit_text.proofs.Apart.{repeats, repeats-append, has_same-from_repeats, bytes_eq-turned, nat_eq-turned}
use Rattle.ec_unit_text.proofs.Beside.{tables_in-push}
use Rattle.ec_unit_text.proofs.Faultless.{first_parts, if_none, rule_none, walk_none, units_fit}
use Rattle.ec_unit_text.proofs.Tabled.{names_in, stations_at, stations_at_unit, stations_in, names_of_tables, stations_of_tables}

-- names
named_item : (x : List ℕ) (t : Option Members) (rest : List Members) (b : Bool) → b ≡ list_any (bytes_eq x) (map (text_at key.Name) rest)
    → (is_named x t || b) ≡ list_any (bytes_eq x) (map (text_at key.Name) (table_list t ++ rest))
named_item x None rest b e = e
named_item x (Some ms) rest b e = ap (λ w. bytes_eq x (text_at key.Name ms) || w) e

has_name-any : (x : List ℕ) (ds : Items) → has_name x ds ≡ list_any (bytes_eq x) (names_in ds)
has_name-any x no_items = refl
has_name-any x (item d ds) = named_item x (as_table d) (tables_in ds) (has_name x ds) (has_name-any x ds)

names_item : (top : Members) (before : Items) (n : ℕ) (t : Option Members) (rest : List Members) (pushed : List (List ℕ)) → first (faults_of_unit_item rule.DuplicateName top before n t) ≡ None
    → pushed ≡ names_in before ++ map (text_at key.Name) (table_list t) → repeats bytes_eq pushed (map (text_at key.Name) rest) ≡ false
    → repeats bytes_eq (names_in before) (map (text_at key.Name) (table_list t ++ rest)) ≡ false
names_item top before n None rest pushed h e k = ap (λ w. repeats bytes_eq w (map (text_at key.Name) rest)) (sym (e ∙ append-nil (names_in before))) ∙ k
names_item top before n (Some ms) rest pushed h e k =
    or_from _ _ (sym (has_name-any (text_at key.Name ms) before) ∙ if_none _ _ (first_parts (faults_of_unit rule.DuplicateName top before n ms) (slave_faults_from rule.DuplicateName before no_items n 0 (items_at key.Slave ms)) h).0)
    (ap (λ w. repeats bytes_eq w (map (text_at key.Name) rest)) (sym e) ∙ k)

names_none : (top : Members) (before : Items) (n : ℕ) (ds : Items) → first (unit_faults_from rule.DuplicateName top before n ds) ≡ None → repeats bytes_eq (names_in before) (names_in ds) ≡ false
names_none top before n no_items h = refl
names_none top before n (item d ds) h =
    let (here, later) = first_parts (faults_of_unit_item rule.DuplicateName top before n (as_table d)) (unit_faults_from rule.DuplicateName top (push_item before d) (suc n) ds) h in
    names_item top before n (as_table d) (tables_in ds) (names_in (push_item before d)) here
    (ap (map (text_at key.Name)) (tables_in-push before d) ∙ map-append (text_at key.Name) (tables_in before) (table_list (as_table d)))
    (names_none top (push_item before d) (suc n) ds later)

pub names_apart : (us : List SyncUnit) (ms : Members) → first (unit_faults ms) ≡ None → map unit_view us ≡ map unit_of (tables_in (items_at key.Unit ms)) → has_same_name (names_of us) ≡ false
names_apart us ms h e =
    ap has_same_name (names_of_tables us (items_at key.Unit ms) e)
    ∙ has_same-from_repeats bytes_eq bytes_eq-turned [] (names_in (items_at key.Unit ms)) (names_none ms no_items 0 (items_at key.Unit ms) (walk_none ms rule.DuplicateName (rule_none ms h rule.DuplicateName)))

-- stations
int_eq_pos : (a b : ℕ) → int_eq (pos a) (pos b) ≡ (a == b)
int_eq_pos a b = grind (arith, nat_tests)

abbrev is_same : ℕ → ℕ → Bool
is_same n m = n == m

stationed_item : (a : ℕ) (t : Option Members) (rest : List Members) (b : Bool) → SlaveItemFits t → b ≡ list_any (is_same a) (map (number_at key.Station) rest)
    → (is_stationed (pos a) t || b) ≡ list_any (is_same a) (map (number_at key.Station) (table_list t ++ rest))
stationed_item a None rest b h e = e
stationed_item a (Some ms) rest b h e =
    ap (λ w. w || b) (ap (int_eq (pos a)) h.station_in.whole ∙ int_eq_pos a (number_at key.Station ms)) ∙ ap (λ w. is_same a (number_at key.Station ms) || w) e

has_station-any : (a : ℕ) (ds : Items) → SlavesFit ds → has_station (pos a) ds ≡ list_any (is_same a) (stations_at ds)
has_station-any a no_items h = refl
has_station-any a (item d ds) h = stationed_item a (as_table d) (tables_in ds) (has_station (pos a) ds) h.0 (has_station-any a ds h.1)

stationed_in_item : (a : ℕ) (top : Members) (t : Option Members) (rest : List Members) (b : Bool) → UnitItemFits top t → b ≡ list_any (is_same a) (flat_map stations_at_unit rest)
    → (is_stationed_in (pos a) t || b) ≡ list_any (is_same a) (flat_map stations_at_unit (table_list t ++ rest))
stationed_in_item a top None rest b h e = e
stationed_in_item a top (Some ms) rest b h e =
    ap (λ w. w || b) (has_station-any a (items_at key.Slave ms) h.slaves) ∙ ap (λ w. list_any (is_same a) (stations_at_unit ms) || w) e
    ∙ sym (list_any-append (is_same a) (stations_at_unit ms) (flat_map stations_at_unit rest))

has_station_in-any : (a : ℕ) (top : Members) (ds : Items) → UnitsFit top ds → has_station_in (pos a) ds ≡ list_any (is_same a) (stations_in ds)
has_station_in-any a top no_items h = refl
has_station_in-any a top (item d ds) h = stationed_in_item a top (as_table d) (tables_in ds) (has_station_in (pos a) ds) h.0 (has_station_in-any a top ds h.1)

slaves_fit-push : (ds : Items) (d : Data) → SlavesFit ds → SlaveItemFits (as_table d) → SlavesFit (push_item ds d)
slaves_fit-push no_items d h k = (k, tt)
slaves_fit-push (item e es) d h k = (h.0, slaves_fit-push es d h.1 k)

units_fit-push : (top : Members) (ds : Items) (d : Data) → UnitsFit top ds → UnitItemFits top (as_table d) → UnitsFit top (push_item ds d)
units_fit-push top no_items d h k = (k, tt)
units_fit-push top (item e es) d h k = (h.0, units_fit-push top es d h.1 k)

-- no slave of a unit has a station of the units before, or of a slave before it
stations_item : (top : Members) (units before : Items) (n m : ℕ) (t : Option Members) (rest : List ℕ) (pushed : List ℕ) → UnitsFit top units → SlavesFit before → SlaveItemFits t
    → first (faults_of_slave_item rule.DuplicateStation units before n m t) ≡ None → pushed ≡ stations_at before ++ map (number_at key.Station) (table_list t)
    → repeats is_same (stations_in units ++ pushed) rest ≡ false → repeats is_same (stations_in units ++ stations_at before) (map (number_at key.Station) (table_list t) ++ rest) ≡ false
stations_item top units before n m None rest pushed us ss h none e k = absurd h
stations_item top units before n m (Some ms) rest pushed us ss h none e k =
    let a : ℕ = number_at key.Station ms in
    let (apart, alone) = or_parts (has_station_in (integer_at key.Station ms) units) (has_station (integer_at key.Station ms) before) (if_none _ _ none) in
    let before_units : list_any (is_same a) (stations_in units) ≡ false =
    sym (has_station_in-any a top units us) ∙ ap (λ z. has_station_in z units) (sym h.station_in.whole) ∙ apart in
    let before_slaves : list_any (is_same a) (stations_at before) ≡ false =
    sym (has_station-any a before ss) ∙ ap (λ z. has_station z before) (sym h.station_in.whole) ∙ alone in
    or_from _ _ (list_any-append (is_same a) (stations_in units) (stations_at before) ∙ or_from _ _ before_units before_slaves)
    (ap (λ w. repeats is_same w rest) (append_assoc (stations_in units) (stations_at before) (a ∷ []) ∙ ap (λ w. stations_in units ++ w) (sym e)) ∙ k)

slave_stations_none : (top : Members) (units before : Items) (n m : ℕ) (ds : Items) → UnitsFit top units → SlavesFit before → SlavesFit ds
    → first (slave_faults_from rule.DuplicateStation units before n m ds) ≡ None → repeats is_same (stations_in units ++ stations_at before) (stations_at ds) ≡ false
slave_stations_none top units before n m no_items us ss fit h = refl
slave_stations_none top units before n m (item d ds) us ss fit h =
    let (here, later) = first_parts (faults_of_slave_item rule.DuplicateStation units before n m (as_table d)) (slave_faults_from rule.DuplicateStation units (push_item before d) n (suc m) ds) h in
    let pushed : stations_at (push_item before d) ≡ stations_at before ++ map (number_at key.Station) (table_list (as_table d)) =
    ap (map (number_at key.Station)) (tables_in-push before d) ∙ map-append (number_at key.Station) (tables_in before) (table_list (as_table d)) in
    ap (repeats is_same (stations_in units ++ stations_at before)) (map-append (number_at key.Station) (table_list (as_table d)) (tables_in ds))
    ∙ stations_item top units before n m (as_table d) (stations_at ds) (stations_at (push_item before d)) us ss fit.0 here pushed
    (slave_stations_none top units (push_item before d) n (suc m) ds us (slaves_fit-push before d ss fit.0) fit.1 later)

unit_stations_item : (top : Members) (before : Items) (n : ℕ) (t : Option Members) (rest pushed : List ℕ) → UnitsFit top before → UnitItemFits top t
    → first (faults_of_unit_item rule.DuplicateStation top before n t) ≡ None → pushed ≡ stations_in before ++ flat_map stations_at_unit (table_list t) → repeats is_same pushed rest ≡ false
    → repeats is_same (stations_in before) (flat_map stations_at_unit (table_list t) ++ rest) ≡ false
unit_stations_item top before n None rest pushed us h none e k = absurd h
unit_stations_item top before n (Some ms) rest pushed us h none e k =
    let found = first_parts (faults_of_unit rule.DuplicateStation top before n ms) (slave_faults_from rule.DuplicateStation before no_items n 0 (items_at key.Slave ms)) none in
    let own : repeats is_same (stations_in before) (stations_at_unit ms) ≡ false =
    ap (λ w. repeats is_same w (stations_at_unit ms)) (sym (append-nil (stations_in before))) ∙ slave_stations_none top before no_items n 0 (items_at key.Slave ms) us tt h.slaves found.1 in
    let unit : flat_map stations_at_unit (ms ∷ []) ≡ stations_at_unit ms = append-nil (stations_at_unit ms) in
    ap (λ w. repeats is_same (stations_in before) (w ++ rest)) unit
    ∙ repeats-append is_same (stations_in before) (stations_at_unit ms) rest own (ap (λ w. repeats is_same w rest) (sym (e ∙ ap (λ w. stations_in before ++ w) unit)) ∙ k)

unit_stations_none : (top : Members) (before : Items) (n : ℕ) (ds : Items) → UnitsFit top before → UnitsFit top ds
    → first (unit_faults_from rule.DuplicateStation top before n ds) ≡ None → repeats is_same (stations_in before) (stations_in ds) ≡ false
unit_stations_none top before n no_items us fit h = refl
unit_stations_none top before n (item d ds) us fit h =
    let (here, later) = first_parts (faults_of_unit_item rule.DuplicateStation top before n (as_table d)) (unit_faults_from rule.DuplicateStation top (push_item before d) (suc n) ds) h in
    let pushed : stations_in (push_item before d) ≡ stations_in before ++ flat_map stations_at_unit (table_list (as_table d)) =
    ap (flat_map stations_at_unit) (tables_in-push before d) ∙ flat_map-append stations_at_unit (tables_in before) (table_list (as_table d)) in
    ap (repeats is_same (stations_in before)) (flat_map-append stations_at_unit (table_list (as_table d)) (tables_in ds))
    ∙ unit_stations_item top before n (as_table d) (stations_in ds) (stations_in (push_item before d)) us fit.0 here pushed
    (unit_stations_none top (push_item before d) (suc n) ds (units_fit-push top before d us fit.0) fit.1 later)

pub stations_apart : (us : List SyncUnit) (ms : Members) → first (unit_faults ms) ≡ None → map unit_view us ≡ map unit_of (tables_in (items_at key.Unit ms)) → has_same_station (stations_of us) ≡ false
stations_apart us ms h e =
    ap has_same_station (stations_of_tables us (items_at key.Unit ms) e)
    ∙ has_same-from_repeats is_same nat_eq-turned [] (stations_in (items_at key.Unit ms)) (unit_stations_none ms no_items 0 (items_at key.Unit ms) tt (units_fit ms h) (walk_none ms rule.DuplicateStation (rule_none ms h rule.DuplicateStation)))

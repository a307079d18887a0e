-- Units beside what the tables of a document say of them.
use Rattle.std.proofs.Common.{◌≡◌, ◌<◌, ◌≤◌, ℕ, suc, ◌+◌, arith, length, List, [], ◌∷◌, ◌++◌, append_assoc, drop, get_or, map, Option, Some, None, refl, ap, sym, subst, ◌∙◌}
use Rattle.std.specs.List.{flat_map}
use Rattle.std.proofs.lemmas.List.{length-map, map-append, append-nil, drop_all}
use Rattle.std.proofs.lemmas.List.Sums.{sum_by-cons}
use Rattle.toml.specs.Data.{Items, no_items, item, Members, as_table}
use Rattle.toml.specs.View.{view, items_view}
use Rattle.toml.proofs.Views.{items_view-drop}
use Rattle.toml.specs.declared.value.Value.{Value}
use Rattle.ec_units.specs.declared.slave.Slave.{Slave}
use Rattle.ec_units.specs.declared.unit.Unit.{Unit as SyncUnit}
use Rattle.ec_units.specs.Bytes.{bytes_of_slaves}
use Rattle.ec_units.specs.Load.{loads_of, periods_of}
use Rattle.ec_units.specs.Together.{names_of, stations_of}
use Rattle.ec_units.specs.Views.{slave_view, unit_view, view_bytes}
use Rattle.ec_units.proofs.Viewed.{view_bytes_of, view_bytes-slaves, view_periods, periods_of-views, view_names, names_of-views, view_stations, all_stations, stations_of-views}
use Rattle.ec_unit_text.specs.declared.fault.Key.TheVariants as key
use Rattle.ec_unit_text.specs.AtKey.{text_at, items_at, table_list, tables_in, item_count}
use Rattle.ec_unit_text.specs.Fits.{SlaveItemFits, SlavesFit, UnitItemFits, UnitsFit}
use Rattle.ec_unit_text.specs.Said.{number_at, slave_of, unit_of}
use Rattle.ec_unit_text.specs.UnitText.{bytes_at, bytes_in, period_at, periods_in}

-- what a loop over items has read at its end
pub said_all : {A : Type 0} (f : Members → A) (xs : List A) (vs : List Value) (i : ℕ) (all : List A) → length vs ≤ i → xs ++ map f (tables_in (items_view (drop i vs))) ≡ all → xs ≡ all
said_all f xs vs i all h e = sym (append-nil xs) ∙ ap (λ w. xs ++ map f (tables_in (items_view w))) (sym (drop_all i vs h)) ∙ e

-- a loop that has read one item more
pub said_more : {A B : Type 0} (f : Members → A) (g : B → A) (us news : List B) (u : B) (vs : List Value) (i : ℕ) (d : Value) (all : List A) → news ≡ us ++ u ∷ [] → i < length vs → d ≡ get_or vs i d
    → g u ∷ [] ≡ map f (table_list (as_table (view d))) → map g us ++ map f (tables_in (items_view (drop i vs))) ≡ all → map g news ++ map f (tables_in (items_view (drop (i + 1) vs))) ≡ all
said_more f g us news u vs i d all grown h is one e =
    let after = tables_in (items_view (drop (i + 1) vs)) in
    let here : tables_in (items_view (drop i vs)) ≡ table_list (as_table (view d)) ++ after =
    ap tables_in (items_view-drop vs i d h) ∙ ap (λ v. table_list (as_table (view v)) ++ after) (sym is) in
    ap (λ l. map g l ++ map f after) grown ∙ ap (λ l. l ++ map f after) (map-append g us (u ∷ [])) ∙ append_assoc (map g us) (g u ∷ []) (map f after)
    ∙ ap (λ l. map g us ++ (l ++ map f after)) one ∙ ap (λ l. map g us ++ l) (sym (map-append f (table_list (as_table (view d))) after))
    ∙ ap (λ l. map g us ++ map f l) (sym here) ∙ e

-- the item that a loop has come to fits, and so do those after it
pub slaves_fit-parts : (vs : List Value) (i : ℕ) (d : Value) → i < length vs → d ≡ get_or vs i d → SlavesFit (items_view (drop i vs)) → SlaveItemFits (as_table (view d)) × SlavesFit (items_view (drop (i + 1) vs))
slaves_fit-parts vs i d h is fit = rw is (subst SlavesFit (items_view-drop vs i d h) fit)

pub units_fit-parts : (top : Members) (vs : List Value) (i : ℕ) (d : Value) → i < length vs → d ≡ get_or vs i d → UnitsFit top (items_view (drop i vs)) → UnitItemFits top (as_table (view d)) × UnitsFit top (items_view (drop (i + 1) vs))
units_fit-parts top vs i d h is fit = rw is (subst (UnitsFit top) (items_view-drop vs i d h) fit)

-- as many slaves as items, and their bytes
tables_of_slaves : (t : Option Members) (n : ℕ) (rest : List Members) → SlaveItemFits t → length rest ≡ n → length (table_list t ++ rest) ≡ suc n
tables_of_slaves None n rest h e = absurd h
tables_of_slaves (Some ms) n rest h e = ap suc e

pub length_slave_tables : (ds : Items) → SlavesFit ds → length (tables_in ds) ≡ item_count ds
length_slave_tables no_items h = refl
length_slave_tables (item d ds) h = tables_of_slaves (as_table d) (item_count ds) (tables_in ds) h.0 (length_slave_tables ds h.1)

pub slave_count : (ss : List Slave) (ds : Items) → SlavesFit ds → map slave_view ss ≡ map slave_of (tables_in ds) → length ss ≡ item_count ds
slave_count ss ds h e = sym (length-map ss slave_view) ∙ ap length e ∙ length-map (tables_in ds) slave_of ∙ length_slave_tables ds h

bytes_of_tables : (t : Option Members) (rest : List Members) (n : ℕ) → view_bytes (map slave_of rest) ≡ n → view_bytes (map slave_of (table_list t ++ rest)) ≡ bytes_at t + n
bytes_of_tables None rest n e = omega arith
bytes_of_tables (Some ms) rest n e = sum_by-cons view_bytes_of (slave_of ms) (map slave_of rest) ∙ ap (λ w. bytes_at (Some ms) + w) e

pub view_bytes-tables : (ds : Items) → view_bytes (map slave_of (tables_in ds)) ≡ bytes_in ds
view_bytes-tables no_items = refl
view_bytes-tables (item d ds) = bytes_of_tables (as_table d) (tables_in ds) (bytes_in ds) (view_bytes-tables ds)

pub slave_bytes : (ss : List Slave) (ds : Items) → map slave_view ss ≡ map slave_of (tables_in ds) → bytes_of_slaves ss ≡ bytes_in ds
slave_bytes ss ds e = view_bytes-slaves ss ∙ ap view_bytes e ∙ view_bytes-tables ds

-- as many units as items
tables_of_units : (top : Members) (t : Option Members) (n : ℕ) (rest : List Members) → UnitItemFits top t → length rest ≡ n → length (table_list t ++ rest) ≡ suc n
tables_of_units top None n rest h e = absurd h
tables_of_units top (Some ms) n rest h e = ap suc e

pub length_unit_tables : (top : Members) (ds : Items) → UnitsFit top ds → length (tables_in ds) ≡ item_count ds
length_unit_tables top no_items h = refl
length_unit_tables top (item d ds) h = tables_of_units top (as_table d) (item_count ds) (tables_in ds) h.0 (length_unit_tables top ds h.1)

pub unit_count : (top : Members) (us : List SyncUnit) (ds : Items) → UnitsFit top ds → map unit_view us ≡ map unit_of (tables_in ds) → length us ≡ item_count ds
unit_count top us ds h e = sym (length-map us unit_view) ∙ ap length e ∙ length-map (tables_in ds) unit_of ∙ length_unit_tables top ds h

-- the periods of units, by their tables
view_periods-tables : (ts : List Members) → view_periods (map unit_of ts) ≡ map period_at ts
view_periods-tables [] = refl
view_periods-tables (t ∷ ts) = ap (λ w. period_at t ∷ w) (view_periods-tables ts)

pub periods_of_tables : (us : List SyncUnit) (ds : Items) → map unit_view us ≡ map unit_of (tables_in ds) → periods_of (loads_of us) ≡ periods_in ds
periods_of_tables us ds e = periods_of-views us ∙ ap view_periods e ∙ view_periods-tables (tables_in ds)

-- the names of units, by their tables
abbrev pub names_in : Items → List (List ℕ)
names_in ds = map (text_at key.Name) (tables_in ds)

view_names-tables : (ts : List Members) → view_names (map unit_of ts) ≡ map (text_at key.Name) ts
view_names-tables [] = refl
view_names-tables (t ∷ ts) = ap (λ w. text_at key.Name t ∷ w) (view_names-tables ts)

pub names_of_tables : (us : List SyncUnit) (ds : Items) → map unit_view us ≡ map unit_of (tables_in ds) → names_of us ≡ names_in ds
names_of_tables us ds e = names_of-views us ∙ ap view_names e ∙ view_names-tables (tables_in ds)

-- the stations of slaves and of units, by their tables
abbrev pub stations_at : Items → List ℕ
stations_at ds = map (number_at key.Station) (tables_in ds)

abbrev pub stations_at_unit : Members → List ℕ
stations_at_unit ms = stations_at (items_at key.Slave ms)

abbrev pub stations_in : Items → List ℕ
stations_in ds = flat_map stations_at_unit (tables_in ds)

view_stations-tables : (ts : List Members) → view_stations (map slave_of ts) ≡ map (number_at key.Station) ts
view_stations-tables [] = refl
view_stations-tables (t ∷ ts) = ap (λ w. number_at key.Station t ∷ w) (view_stations-tables ts)

all_stations-tables : (ts : List Members) → all_stations (map unit_of ts) ≡ flat_map stations_at_unit ts
all_stations-tables [] = refl
all_stations-tables (t ∷ ts) = rw (view_stations-tables (tables_in (items_at key.Slave t)), all_stations-tables ts)

pub stations_of_tables : (us : List SyncUnit) (ds : Items) → map unit_view us ≡ map unit_of (tables_in ds) → stations_of us ≡ stations_in ds
stations_of_tables us ds e = stations_of-views us ∙ ap all_stations e ∙ all_stations-tables (tables_in ds)

-- Members and items beside what the code walks.
-- A loop over slaves, units or rules promises `result ≡ first (..)` of a list. `first_step` is the first of two lists;
-- `slave_passed`, `unit_passed` and `passed` are a loop's step, `slave_found`, `unit_found` and `found` a return inside
-- it. `sum_by` doesn't compute at a cons: `sum_by-cons`.
use Rattle.std.proofs.Common.{◌≡◌, ◌<◌, ◌≤◌, ℕ, suc, ◌+◌, add-one, length, drop, take, set, map, All, get_or, Bool, true, false, not, ◌||◌, nat_lt, List, [], ◌∷◌, ◌++◌, append_assoc, Option, Some, None, String, Global, string_bytes, refl, ap, sym, ◌∙◌}
use Rattle.std.specs.Map.{keys_of}
use Rattle.std.specs.List.{flat_map}
use Rattle.std.proofs.lemmas.List.{drop_more, drop_all, take_more, take_more_set, append-nil, map-append}
use Rattle.std.proofs.lemmas.List.Elements.{All-nil, All-cons, All-append}
use Rattle.toml.specs.Data.{Data, Items, no_items, item, Members, as_table, push_item}
use Rattle.toml.specs.View.{view, items_view, members_view}
use Rattle.toml.proofs.Views.{items_view-drop, items_view-push}
use Rattle.toml.specs.declared.value.Value.{Value}
use Rattle.ec_unit_text.specs.declared.fault.Key.{Key}
use Rattle.ec_unit_text.specs.declared.fault.Key.TheVariants as key
use Rattle.ec_unit_text.specs.declared.fault.UnitFault.{UnitFault}
use Rattle.ec_unit_text.specs.declared.fault.UnitFault.TheVariants as fault
use Rattle.ec_hyper.specs.Lcm.{lcm_of}
use Rattle.ec_unit_text.specs.AtKey.{items_at, is_one_of, has_other_key, table_list, tables_in, item_count}
use Rattle.ec_unit_text.specs.declared.rule.Rule.{Rule}
use Rattle.ec_unit_text.specs.Fits.{PeriodsFit}
use Rattle.ec_unit_text.specs.UnitText.{bytes_at, bytes_in, period_at, periods_in, first, fault_if, hyper_faults, faults_of_slave_item, slave_faults_from, faults_of_unit_item, unit_faults_from}

-- some key is none of these
abbrev pub any_other : (List ℕ → Bool) → List (String Global) → Bool
any_other known [] = false
any_other known (k ∷ ks) = not (known (string_bytes k)) || any_other known ks

pub has_other_key-any : (keys : List Key) (es : List (String Global × Value)) → has_other_key keys (members_view es) ≡ any_other (is_one_of keys) (keys_of es)
has_other_key-any keys [] = refl
has_other_key-any keys (e ∷ es) = ap (λ b. not (is_one_of keys (string_bytes e.0)) || b) (has_other_key-any keys es)

-- the first of two lists of faults
pub first-append_none : (xs ys : List UnitFault) → first xs ≡ None → first (xs ++ ys) ≡ first ys
first-append_none [] ys h = refl
first-append_none (x ∷ xs) ys h = cc

pub first-append_some : (xs ys : List UnitFault) (f : UnitFault) → first xs ≡ Some f → first (xs ++ ys) ≡ Some f
first-append_some [] ys f h = cc
first-append_some (x ∷ xs) ys f h = h

-- `grind` picks it up at the list
pub first_step : (xs ys : List UnitFault) → (first (xs ++ ys) ≡ first (xs ++ ys)) × ((first xs ≡ None) → first (xs ++ ys) ≡ first ys) × ((f : UnitFault) → first xs ≡ Some f → first (xs ++ ys) ≡ Some f)
first_step xs ys = (refl, first-append_none xs ys, λ f. first-append_some xs ys f)

-- an element that has no fault is passed
pub passed : {X : Type 0} (f : X → List UnitFault) (xs : List X) (i : ℕ) (d : X) → i < length xs → first (f (get_or xs i d)) ≡ None
    → first (flat_map f (drop (i + 1) xs)) ≡ first (flat_map f (drop i xs))
passed f xs i d h none = rw (drop_more xs i d h) (sym (first-append_none (f (get_or xs i d)) (flat_map f (drop (i + 1) xs)) none))

pub items_view-take : (vs : List Value) (i : ℕ) (d : Value) → i < length vs → items_view (take (i + 1) vs) ≡ items_view (take i vs ++ get_or vs i d ∷ [])
items_view-take vs i d h = ap items_view (take_more vs i d h)

pub item_count-items_view : (vs : List Value) → item_count (items_view vs) ≡ length vs
item_count-items_view [] = refl
item_count-items_view (v ∷ vs) = ap suc (item_count-items_view vs)

-- a slave or a unit that has no fault is passed
pub slave_passed : (r : Rule) (units : Items) (n : ℕ) (vs : List Value) (i : ℕ) (d : Value) → i < length vs
    → first (faults_of_slave_item r units (items_view (take i vs)) n i (as_table (view (get_or vs i d)))) ≡ None
    → first (slave_faults_from r units (items_view (take (i + 1) vs)) n (i + 1) (items_view (drop (i + 1) vs)))
    ≡ first (slave_faults_from r units (items_view (take i vs)) n i (items_view (drop i vs)))
slave_passed r units n vs i d h none =
    rw (items_view-drop vs i d h, items_view-take vs i d h, items_view-push (take i vs) (get_or vs i d), add-one) (sym (first-append_none _ _ none))

pub unit_passed : (r : Rule) (top : Members) (vs : List Value) (i : ℕ) (d : Value) → i < length vs
    → first (faults_of_unit_item r top (items_view (take i vs)) i (as_table (view (get_or vs i d)))) ≡ None
    → first (unit_faults_from r top (items_view (take (i + 1) vs)) (i + 1) (items_view (drop (i + 1) vs)))
    ≡ first (unit_faults_from r top (items_view (take i vs)) i (items_view (drop i vs)))
unit_passed r top vs i d h none =
    rw (items_view-drop vs i d h, items_view-take vs i d h, items_view-push (take i vs) (get_or vs i d), add-one) (sym (first-append_none _ _ none))

-- a slave or a unit that has a fault ends the walk
pub slave_found : (r : Rule) (units : Items) (n : ℕ) (vs : List Value) (i : ℕ) (d : Value) (f : UnitFault) → i < length vs
    → first (faults_of_slave_item r units (items_view (take i vs)) n i (as_table (view (get_or vs i d)))) ≡ Some f
    → first (slave_faults_from r units (items_view (take i vs)) n i (items_view (drop i vs))) ≡ Some f
slave_found r units n vs i d f h found = rw (items_view-drop vs i d h) (first-append_some _ _ f found)

pub unit_found : (r : Rule) (top : Members) (vs : List Value) (i : ℕ) (d : Value) (f : UnitFault) → i < length vs
    → first (faults_of_unit_item r top (items_view (take i vs)) i (as_table (view (get_or vs i d)))) ≡ Some f
    → first (unit_faults_from r top (items_view (take i vs)) i (items_view (drop i vs))) ≡ Some f
unit_found r top vs i d f h found = rw (items_view-drop vs i d h) (first-append_some _ _ f found)

-- an element that has a fault
pub found : {X : Type 0} (f : X → List UnitFault) (xs : List X) (i : ℕ) (d : X) (e : UnitFault) → i < length xs → first (f (get_or xs i d)) ≡ Some e
    → first (flat_map f (drop i xs)) ≡ Some e
found f xs i d e h here = rw (drop_more xs i d h) (first-append_some (f (get_or xs i d)) (flat_map f (drop (i + 1) xs)) e here)

-- the tables among items and one more
pub tables_in-push : (ds : Items) (d : Data) → tables_in (push_item ds d) ≡ tables_in ds ++ table_list (as_table d)
tables_in-push no_items d = append-nil (table_list (as_table d))
tables_in-push (item e es) d =
    ap (λ w. table_list (as_table e) ++ w) (tables_in-push es d) ∙ sym (append_assoc (table_list (as_table e)) (tables_in es) (table_list (as_table d)))

-- a loop that writes the periods of units into an array
pub periods_more : (vs : List Value) (xs : List ℕ) (i p : ℕ) (d : Value) → i < length xs → i < length vs → take i xs ≡ periods_in (items_view (take i vs))
    → p ∷ [] ≡ map period_at (table_list (as_table (view (get_or vs i d)))) → take (i + 1) (set xs i p) ≡ periods_in (items_view (take (i + 1) vs))
periods_more vs xs i p d room within so_far here =
    let more : periods_in (items_view (take (i + 1) vs)) ≡ periods_in (items_view (take i vs)) ++ map period_at (table_list (as_table (view (get_or vs i d)))) =
    ap periods_in (items_view-take vs i d within ∙ items_view-push (take i vs) (get_or vs i d))
    ∙ ap (map period_at) (tables_in-push (items_view (take i vs)) (view (get_or vs i d)))
    ∙ map-append period_at (tables_in (items_view (take i vs))) (table_list (as_table (view (get_or vs i d)))) in
    take_more_set xs i p room ∙ ap (λ w. w ++ p ∷ []) so_far ∙ ap (λ w. periods_in (items_view (take i vs)) ++ w) here ∙ sym more

pub ranges_more : (xs : List ℕ) (i p : ℕ) → i < length xs → All (λ p. (1 ≤ p) × (p ≤ 60)) (take i xs) → (1 ≤ p) × (p ≤ 60) → All (λ p. (1 ≤ p) × (p ≤ 60)) (take (i + 1) (set xs i p))
ranges_more xs i p room so_far here =
    rw (take_more_set xs i p room) (All-append (λ p. (1 ≤ p) × (p ≤ 60)) (take i xs) (p ∷ []) so_far (All-cons (λ p. (1 ≤ p) × (p ≤ 60)) p [] here (All-nil _)))

pub periods_fit-drop : (vs : List Value) (i : ℕ) (d : Value) → i < length vs → PeriodsFit (items_view (drop i vs)) → PeriodsFit (items_view (drop (i + 1) vs))
periods_fit-drop vs i d h fit =
    let parts = rw (items_view-drop vs i d h) at fit in
    parts.1

-- the tests of items one after the other: an item that fails is passed, one that passes is found, and after the last there is none
pub any_passed : (any : Items → Bool) (test : Option Members → Bool) (vs : List Value) (i : ℕ) (d : Value) (b : Bool) → ((e : Data) (es : Items) → any (item e es) ≡ (test (as_table e) || any es))
    → i < length vs → d ≡ get_or vs i d → b ≡ test (as_table (view d)) → b ≡ false → any (items_view (drop (i + 1) vs)) ≡ any (items_view (drop i vs))
any_passed any test vs i d b step h is tested none =
    sym (ap any (items_view-drop vs i d h) ∙ step (view (get_or vs i d)) (items_view (drop (i + 1) vs))
    ∙ ap (λ t. t || any (items_view (drop (i + 1) vs))) (ap (λ v. test (as_table (view v))) (sym is) ∙ sym tested ∙ none))

pub any_found : (any : Items → Bool) (test : Option Members → Bool) (vs : List Value) (i : ℕ) (d : Value) (b : Bool) → ((e : Data) (es : Items) → any (item e es) ≡ (test (as_table e) || any es))
    → i < length vs → d ≡ get_or vs i d → b ≡ test (as_table (view d)) → b ≡ true → true ≡ any (items_view (drop i vs))
any_found any test vs i d b step h is tested good =
    sym (ap any (items_view-drop vs i d h) ∙ step (view (get_or vs i d)) (items_view (drop (i + 1) vs))
    ∙ ap (λ t. t || any (items_view (drop (i + 1) vs))) (ap (λ v. test (as_table (view v))) (sym is) ∙ sym tested ∙ good))

pub any_none : (any : Items → Bool) (vs : List Value) (i : ℕ) → any no_items ≡ false → length vs ≤ i → false ≡ any (items_view (drop i vs))
any_none any vs i none h = sym (ap (λ l. any (items_view l)) (drop_all i vs h) ∙ none)

-- the bytes of a slave and of those after it
pub bytes_more : (vs : List Value) (i : ℕ) (d : Value) → i < length vs → d ≡ get_or vs i d → bytes_in (items_view (drop i vs)) ≡ bytes_at (as_table (view d)) + bytes_in (items_view (drop (i + 1) vs))
bytes_more vs i d h is = ap bytes_in (items_view-drop vs i d h) ∙ ap (λ v. bytes_at (as_table (view v)) + bytes_in (items_view (drop (i + 1) vs))) (sym is)

-- what a test of the hyperperiod tells
pub hyper_test : (ms : Members) (ds : Items) (long b : Bool) → ds ≡ items_at key.Unit ms → long ≡ nat_lt 1024 (lcm_of (periods_in ds)) → long ≡ b → hyper_faults ms ≡ fault_if b fault.HyperTooLong
hyper_test ms ds long b there tested told =
    ap (λ d. fault_if (nat_lt 1024 (lcm_of (periods_in d))) fault.HyperTooLong) (sym there) ∙ ap (λ t. fault_if t fault.HyperTooLong) (sym tested ∙ told)

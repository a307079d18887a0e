-- What holds of a document without a fault.
-- `first (unit_faults ms) ≡ None` says of every rule at once that it finds nothing (`rule_none`). The records
-- `UnitFits` and `SlaveNumbersFit` follow by one induction. Numbers in such a record are natural ones (`IsWithin`); one
-- small function casts each, so that the ghost fields of the struct close by themselves.
use Rattle.std.proofs.Common.{◌≡◌, ◌≤◌, ◌<◌, ◌==◌, ℕ, zero, suc, pos, arith, length, get_or, Bool, true, false, not, nat_lt, List, [], ◌∷◌, ◌++◌, option_and_then, unwrap_or, is_some, Option, Some, None, refl}
use Rattle.std.specs.List.{flat_map}
use Rattle.std.proofs.lemmas.Bool.{and_parts, not-false, ltb-false, false≢true, true≢false}
use Rattle.toml.specs.Data.{Data, Items, no_items, item, Members, get_member, as_array, as_table, push_item}
use Rattle.ec_hyper.specs.Lcm.{lcm_of}
use Rattle.ec_unit_text.specs.declared.fault.Key.TheVariants as key
use Rattle.ec_unit_text.specs.declared.fault.UnitFault.{UnitFault}
use Rattle.ec_unit_text.specs.declared.rule.Rule.{Rule}
use Rattle.ec_unit_text.specs.declared.rule.Rule.TheVariants as rule
use Rattle.ec_unit_text.specs.FaultText.{key_text}
use Rattle.ec_unit_text.specs.AtKey.{integer_at, items_at, item_count, all_tables, is_array_of_tables, is_other, has_wrong, is_between}
use Rattle.ec_unit_text.specs.UnitText.{first, fault_if, at_top, at_unit, top_keys, unit_keys, wrong_at, top_faults, hyper_faults, faults_of_unit, faults_of_slave_item, slave_faults_from, faults_of_unit_item, unit_faults_from, faults_by, early_rules, late_rules, unit_faults, bytes_in, periods_in}
use Rattle.ec_unit_text.specs.Fits.{SlaveItemFits, SlavesFit, PeriodFits, PeriodsFit, UnitItemFits, UnitsFit}
use Rattle.ec_unit_text.proofs.Fitting.{slave_numbers_fit, count_in}

pub first_parts : (xs ys : List UnitFault) → first (xs ++ ys) ≡ None → (first xs ≡ None) × (first ys ≡ None)
first_parts [] ys h = (refl, h)
first_parts (x ∷ xs) ys h = cc

pub each_none : {X : Type 0} (f : X → List UnitFault) (xs : List X) (i : ℕ) (d : X) → first (flat_map f xs) ≡ None → i < length xs → first (f (get_or xs i d)) ≡ None
each_none f [] i d h l = absurd (omega arith)
each_none f (x ∷ xs) zero d h l = (first_parts (f x) (flat_map f xs) h).0
each_none f (x ∷ xs) (suc i) d h l = each_none f xs i d (first_parts (f x) (flat_map f xs) h).1 (omega arith)

pub if_none : (b : Bool) (f : UnitFault) → first (fault_if b f) ≡ None → b ≡ false
if_none false f h = refl
if_none true f h = cc

pub unless_none : (b : Bool) (f : UnitFault) → first (fault_if (not b) f) ≡ None → b ≡ true
unless_none b f h = not-false b (if_none (not b) f h)

-- each rule finds nothing
pub rule_none : (ms : Members) → first (unit_faults ms) ≡ None → (r : Rule) → first (faults_by ms r) ≡ None
unfolding unit_faults
rule_none ms h r =
    let (early, rest) = first_parts (flat_map (faults_by ms) early_rules) (hyper_faults ms ++ flat_map (faults_by ms) late_rules) h in
    let (hyper, late) = first_parts (hyper_faults ms) (flat_map (faults_by ms) late_rules) rest in
    elim r as (λ r. first (faults_by ms r) ≡ None) [
      | rule.Missing ↦ each_none (faults_by ms) early_rules 0 r early (omega arith)
      | rule.WrongType ↦ each_none (faults_by ms) early_rules 1 r early (omega arith)
      | rule.UnknownKey ↦ each_none (faults_by ms) early_rules 2 r early (omega arith)
      | rule.NoUnits ↦ each_none (faults_by ms) early_rules 3 r early (omega arith)
      | rule.TooManyUnits ↦ each_none (faults_by ms) early_rules 4 r early (omega arith)
      | rule.BadName ↦ each_none (faults_by ms) early_rules 5 r early (omega arith)
      | rule.DuplicateName ↦ each_none (faults_by ms) early_rules 6 r early (omega arith)
      | rule.PeriodRange ↦ each_none (faults_by ms) early_rules 7 r early (omega arith)
      | rule.SlaveCount ↦ each_none (faults_by ms) early_rules 8 r early (omega arith)
      | rule.SlaveBytes ↦ each_none (faults_by ms) early_rules 9 r early (omega arith)
      | rule.UnitTooBig ↦ each_none (faults_by ms) early_rules 10 r early (omega arith)
      | rule.StationRange ↦ each_none (faults_by ms) early_rules 11 r early (omega arith)
      | rule.DuplicateStation ↦ each_none (faults_by ms) early_rules 12 r early (omega arith)
      | rule.AreaRange ↦ each_none (faults_by ms) early_rules 13 r early (omega arith)
      | rule.SlotsRange ↦ each_none (faults_by ms) late_rules 0 r late (omega arith)
      | rule.TickRange ↦ each_none (faults_by ms) late_rules 1 r late (omega arith)
      | rule.PlaceRange ↦ each_none (faults_by ms) late_rules 2 r late (omega arith)
      | rule.PlaceHalf ↦ each_none (faults_by ms) late_rules 3 r late (omega arith)
    ]

pub hyper_none : (ms : Members) → first (unit_faults ms) ≡ None → lcm_of (periods_in (items_at key.Unit ms)) ≤ 1024
unfolding unit_faults
hyper_none ms h =
    let (early, rest) = first_parts (flat_map (faults_by ms) early_rules) (hyper_faults ms ++ flat_map (faults_by ms) late_rules) h in
    let (hyper, late) = first_parts (hyper_faults ms) (flat_map (faults_by ms) late_rules) rest in
    ltb-false 1024 _ (if_none (nat_lt 1024 (lcm_of (periods_in (items_at key.Unit ms)))) _ hyper)

-- an array that is there holds tables alone
array_right : (a : Option Items) → not (is_array_of_tables a) ≡ false → all_tables (unwrap_or a no_items) ≡ true
array_right None h = absurd (true≢false h)
array_right (Some ds) h = not-false (all_tables ds) h

units_right : (o : Option Data) → is_other key.Unit o ≡ false → all_tables (unwrap_or (option_and_then as_array o) no_items) ≡ true
units_right None h = refl
units_right (Some d) h = array_right (as_array d) h

slaves_right : (o : Option Data) → is_other key.Slave o ≡ false → all_tables (unwrap_or (option_and_then as_array o) no_items) ≡ true
slaves_right None h = refl
slaves_right (Some d) h = array_right (as_array d) h

pub unit_tables : (ms : Members) → first (faults_by ms rule.WrongType) ≡ None → all_tables (items_at key.Unit ms) ≡ true
unit_tables ms h =
    let (top, rest) = first_parts (top_faults rule.WrongType ms) (unit_faults_from rule.WrongType ms no_items 0 (items_at key.Unit ms)) h in
    units_right (get_member (key_text key.Unit) ms) (if_none (has_wrong key.Unit ms) _ (each_none (wrong_at at_top ms) top_keys 2 key.Unit top (omega arith)))

slave_tables : (top : Members) (before : Items) (n : ℕ) (ms : Members) → first (faults_of_unit rule.WrongType top before n ms) ≡ None → all_tables (items_at key.Slave ms) ≡ true
slave_tables top before n ms h =
    slaves_right (get_member (key_text key.Slave) ms) (if_none (has_wrong key.Slave ms) _ (each_none (wrong_at (at_unit n) ms) unit_keys 2 key.Slave h (omega arith)))

-- slaves in which no rule finds anything
slave_item_fits : (units before : Items) (n m : ℕ) (t : Option Members) → ((r : Rule) → first (faults_of_slave_item r units before n m t) ≡ None) → is_some t ≡ true → SlaveItemFits t
slave_item_fits units before n m None h k = absurd (false≢true k)
slave_item_fits units before n m (Some ms) h k =
    slave_numbers_fit _ _ _ _ _ (unless_none _ _ (h rule.StationRange)) (unless_none _ _ (h rule.SlaveBytes)) (unless_none _ _ (h rule.AreaRange))

pub slaves_fit : (units before : Items) (n m : ℕ) (ds : Items) → ((r : Rule) → first (slave_faults_from r units before n m ds) ≡ None) → all_tables ds ≡ true → SlavesFit ds
slaves_fit units before n m no_items h k = tt
slaves_fit units before n m (item d ds) h k =
    let (here, later) = and_parts (is_some (as_table d)) (all_tables ds) k in
    let parts = λ (r : Rule). first_parts (faults_of_slave_item r units before n m (as_table d)) (slave_faults_from r units (push_item before d) n (suc m) ds) (h r) in
    (slave_item_fits units before n m (as_table d) (λ r. (parts r).0) here, slaves_fit units (push_item before d) n (suc m) ds (λ r. (parts r).1) later)

-- units in which no rule finds anything
unit_item_fits : (top : Members) (before : Items) (n : ℕ) (t : Option Members) → is_between (pos 1) (pos 8) (integer_at key.Slots top) ≡ true
    → ((r : Rule) → first (faults_of_unit_item r top before n t) ≡ None) → is_some t ≡ true → UnitItemFits top t
unit_item_fits top before n None slots h k = absurd (false≢true k)
unit_item_fits top before n (Some ms) slots h k =
    let parts = λ (r : Rule). first_parts (faults_of_unit r top before n ms) (slave_faults_from r before no_items n 0 (items_at key.Slave ms)) (h r) in
    record {
      name = unless_none _ _ (parts rule.BadName).0;
      period = unless_none _ _ (parts rule.PeriodRange).0;
      slots = slots;
      slaves = slaves_fit before no_items n 0 (items_at key.Slave ms) (λ r. (parts r).1) (slave_tables top before n ms (parts rule.WrongType).0);
      count = count_in (item_count (items_at key.Slave ms)) (if_none _ _ (parts rule.SlaveCount).0);
      size = ltb-false 1486 (bytes_in (items_at key.Slave ms)) (if_none _ _ (parts rule.UnitTooBig).0);
      place = if_none _ _ (parts rule.PlaceRange).0;
    }

units_fit_from : (top : Members) (before : Items) (n : ℕ) (ds : Items) → is_between (pos 1) (pos 8) (integer_at key.Slots top) ≡ true
    → ((r : Rule) → first (unit_faults_from r top before n ds) ≡ None) → all_tables ds ≡ true → UnitsFit top ds
units_fit_from top before n no_items slots h k = tt
units_fit_from top before n (item d ds) slots h k =
    let (here, later) = and_parts (is_some (as_table d)) (all_tables ds) k in
    let parts = λ (r : Rule). first_parts (faults_of_unit_item r top before n (as_table d)) (unit_faults_from r top (push_item before d) (suc n) ds) (h r) in
    (unit_item_fits top before n (as_table d) slots (λ r. (parts r).0) here, units_fit_from top (push_item before d) (suc n) ds slots (λ r. (parts r).1) later)

-- what a rule finds in the top table alone, and in the units
pub top_none : (ms : Members) (r : Rule) → first (faults_by ms r) ≡ None → first (top_faults r ms) ≡ None
top_none ms r h = (first_parts (top_faults r ms) (unit_faults_from r ms no_items 0 (items_at key.Unit ms)) h).0

pub walk_none : (ms : Members) (r : Rule) → first (faults_by ms r) ≡ None → first (unit_faults_from r ms no_items 0 (items_at key.Unit ms)) ≡ None
walk_none ms r h = (first_parts (top_faults r ms) (unit_faults_from r ms no_items 0 (items_at key.Unit ms)) h).1

pub slots_in : (ms : Members) → first (unit_faults ms) ≡ None → is_between (pos 1) (pos 8) (integer_at key.Slots ms) ≡ true
slots_in ms h = unless_none _ _ (top_none ms rule.SlotsRange (rule_none ms h rule.SlotsRange))

pub tick_in : (ms : Members) → first (unit_faults ms) ≡ None → is_between (pos 80) (pos 1000000000) (integer_at key.TickNs ms) ≡ true
tick_in ms h = unless_none _ _ (top_none ms rule.TickRange (rule_none ms h rule.TickRange))

pub units_fit : (ms : Members) → first (unit_faults ms) ≡ None → UnitsFit ms (items_at key.Unit ms)
units_fit ms h =
    units_fit_from ms no_items 0 (items_at key.Unit ms) (slots_in ms h) (λ r. walk_none ms r (rule_none ms h r)) (unit_tables ms (rule_none ms h rule.WrongType))

pub some_units : (ms : Members) → first (unit_faults ms) ≡ None → (item_count (items_at key.Unit ms) == 0) ≡ false
some_units ms h = if_none _ _ (top_none ms rule.NoUnits (rule_none ms h rule.NoUnits))

pub few_units : (ms : Members) → first (unit_faults ms) ≡ None → nat_lt 48 (item_count (items_at key.Unit ms)) ≡ false
few_units ms h = if_none _ _ (top_none ms rule.TooManyUnits (rule_none ms h rule.TooManyUnits))

-- the periods, by the early rules alone
period_item_fits : (top : Members) (before : Items) (n : ℕ) (t : Option Members) → first (faults_of_unit_item rule.PeriodRange top before n t) ≡ None → is_some t ≡ true → PeriodFits t
period_item_fits top before n None h k = absurd (false≢true k)
period_item_fits top before n (Some ms) h k =
    unless_none _ _ (first_parts (faults_of_unit rule.PeriodRange top before n ms) (slave_faults_from rule.PeriodRange before no_items n 0 (items_at key.Slave ms)) h).0

periods_fit_from : (top : Members) (before : Items) (n : ℕ) (ds : Items) → first (unit_faults_from rule.PeriodRange top before n ds) ≡ None → all_tables ds ≡ true → PeriodsFit ds
periods_fit_from top before n no_items h k = tt
periods_fit_from top before n (item d ds) h k =
    let (here, later) = and_parts (is_some (as_table d)) (all_tables ds) k in
    let (this, others) = first_parts (faults_of_unit_item rule.PeriodRange top before n (as_table d)) (unit_faults_from rule.PeriodRange top (push_item before d) (suc n) ds) h in
    (period_item_fits top before n (as_table d) this here, periods_fit_from top (push_item before d) (suc n) ds others later)

pub periods_fit : (ms : Members) → first (flat_map (faults_by ms) early_rules) ≡ None → PeriodsFit (items_at key.Unit ms)
periods_fit ms h =
    periods_fit_from ms no_items 0 (items_at key.Unit ms) (walk_none ms rule.PeriodRange (each_none (faults_by ms) early_rules 7 rule.Missing h (omega arith)))
    (unit_tables ms (each_none (faults_by ms) early_rules 1 rule.Missing h (omega arith)))

pub few_periods : (ms : Members) → first (flat_map (faults_by ms) early_rules) ≡ None → item_count (items_at key.Unit ms) ≤ 48
few_periods ms h = ltb-false 48 _ (if_none _ _ (top_none ms rule.TooManyUnits (each_none (faults_by ms) early_rules 4 rule.Missing h (omega arith))))

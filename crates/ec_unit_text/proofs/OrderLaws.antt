-- The faults of a document stand in their order.
use Rattle.std.proofs.Common.{◌≡◌, ◌⊎◌, ℕ, suc, ◌+◌, ◌≤◌, Bool, true, false, ◌&&◌, List, [], ◌∷◌, ◌++◌, Option, Some, None, refl, sym, subst, ◌∙◌, arith, inl, inr, append_assoc, append-nil}
use Rattle.std.specs.List.{flat_map, AllByRecursion}
use Rattle.toml.specs.Data.{Items, no_items, item, Members, as_table, push_item}
use Rattle.ec_unit_text.specs.declared.fault.Key.{Key}
use Rattle.ec_unit_text.specs.declared.fault.Key.TheVariants as key
use Rattle.ec_unit_text.specs.declared.fault.Spot.{Spot}
use Rattle.ec_unit_text.specs.declared.fault.UnitFault.{UnitFault}
use Rattle.ec_unit_text.specs.declared.fault.UnitFault.TheVariants as fault
use Rattle.ec_unit_text.specs.declared.rule.Rule.{Rule}
use Rattle.ec_unit_text.specs.declared.rule.Rule.TheVariants as rule
use Rattle.ec_unit_text.specs.FaultText.{is_needed}
use Rattle.ec_unit_text.specs.AtKey.{is_missing, has_wrong, has_other_key, items_at}
use Rattle.ec_unit_text.specs.Rank.{place_number, key_number, rank, IsBefore, AreInOrder}
use Rattle.ec_unit_text.specs.UnitText.{first, fault_if, at_top, at_unit, at_slave, top_keys, unit_keys, slave_keys, key_faults, top_faults, faults_of_unit, faults_of_slave, faults_of_slave_item, slave_faults_from, faults_of_unit_item, unit_faults_from, faults_by, hyper_faults, early_rules, late_rules, unit_faults}

-- ---- lists in order

every-append : {X : Type 0} (P : X → Type 0) (xs ys : List X) → AllByRecursion P xs → AllByRecursion P ys → AllByRecursion P (xs ++ ys)
every-append P [] ys h g = g
every-append P (x ∷ xs) ys h g = (h.0, every-append P xs ys h.1 g)

every-map : {X : Type 0} (P Q : X → Type 0) → ((x : X) → P x → Q x) → (xs : List X) → AllByRecursion P xs → AllByRecursion Q xs
every-map P Q f [] h = tt
every-map P Q f (x ∷ xs) h = (f x h.0, every-map P Q f xs h.1)

-- two lists in order, the first of which stands before the second
order-append : (P Q : UnitFault → Type 0) → ((f g : UnitFault) → P f → Q g → IsBefore f g) → (xs ys : List UnitFault) → AllByRecursion P xs → AllByRecursion Q ys → AreInOrder xs → AreInOrder ys → AreInOrder (xs ++ ys)
order-append P Q law [] ys p q h g = g
order-append P Q law (x ∷ xs) ys p q h g =
    (every-append (IsBefore x) xs ys h.0 (every-map Q (IsBefore x) (λ y. law x y p.0) ys q), order-append P Q law xs ys p.1 q h.1 g)

-- ---- where faults stand

abbrev Numbered : ℕ → UnitFault → Type 0
Numbered n f = (rank f).number ≡ n

abbrev NumberedFrom : ℕ → UnitFault → Type 0
NumberedFrom n f = n ≤ (rank f).number

abbrev InUnit : ℕ → ℕ → UnitFault → Type 0
InUnit n u f = Numbered n f × ((rank f).unit ≡ u)

abbrev FromUnit : ℕ → ℕ → UnitFault → Type 0
FromUnit n u f = Numbered n f × (u ≤ (rank f).unit)

abbrev InTable : ℕ → ℕ → ℕ → UnitFault → Type 0
InTable n u v f = InUnit n u f × ((rank f).slave ≡ v)

abbrev FromSlave : ℕ → ℕ → ℕ → UnitFault → Type 0
FromSlave n u v f = InUnit n u f × (v ≤ (rank f).slave)

abbrev AtKey : ℕ → ℕ → ℕ → ℕ → UnitFault → Type 0
AtKey n u v k f = InTable n u v f × ((rank f).key ≡ k)

abbrev FromKey : ℕ → ℕ → ℕ → ℕ → UnitFault → Type 0
FromKey n u v k f = InTable n u v f × (k ≤ (rank f).key)

-- all stand so, in order
abbrev Ordered : (UnitFault → Type 0) → List UnitFault → Type 0
Ordered P fs = AllByRecursion P fs × AreInOrder fs

by_key : (n u v k : ℕ) (f g : UnitFault) → AtKey n u v k f → FromKey n u v (suc k) g → IsBefore f g
by_key n u v k f g p q = inr (p.0.0.0 ∙ sym q.0.0.0, inr (p.0.0.1 ∙ sym q.0.0.1, inr (p.0.1 ∙ sym q.0.1, omega (arith, p.1, q.1))))

by_slave : (n u v : ℕ) (f g : UnitFault) → InTable n u v f → FromSlave n u (suc v) g → IsBefore f g
by_slave n u v f g p q = inr (p.0.0 ∙ sym q.0.0, inr (p.0.1 ∙ sym q.0.1, inl (omega (arith, p.1, q.1))))

by_unit : (n u : ℕ) (f g : UnitFault) → InUnit n u f → FromUnit n (suc u) g → IsBefore f g
by_unit n u f g p q = inr (p.0 ∙ sym q.0, inl (omega (arith, p.1, q.1)))

by_number : (n : ℕ) (f g : UnitFault) → Numbered n f → NumberedFrom (suc n) g → IsBefore f g
by_number n f g p q = inl (omega (arith, p, q))

-- ---- the faults of one table

one_ordered : (P : UnitFault → Type 0) (b : Bool) (f : UnitFault) → P f → Ordered P (fault_if b f)
one_ordered P true f h = ((h, tt), (tt, tt))
one_ordered P false f h = (tt, tt)

-- keys from this position on, each after the one before
abbrev KeysFrom : ℕ → List Key → Type 0
KeysFrom k [] = Unit {0}
KeysFrom k (x ∷ xs) = (k ≤ key_number x) × KeysFrom (suc (key_number x)) xs

keys_ordered : (n u v : ℕ) (test : Key → Bool) (made : Key → UnitFault) → ((x : Key) → AtKey n u v (key_number x) (made x)) → (k : ℕ) (xs : List Key) → KeysFrom k xs → Ordered (FromKey n u v k) (flat_map (λ x. fault_if (test x) (made x)) xs)
keys_ordered n u v test made law k [] h = (tt, tt)
keys_ordered n u v test made law k (x ∷ xs) h =
    let here : Ordered (AtKey n u v (key_number x)) (fault_if (test x) (made x)) = one_ordered (AtKey n u v (key_number x)) (test x) (made x) (law x) in
    let rest : Ordered (FromKey n u v (suc (key_number x))) (flat_map (λ y. fault_if (test y) (made y)) xs) = keys_ordered n u v test made law (suc (key_number x)) xs h.1 in
    let low : k ≤ key_number x = h.0 in
    let first_from = every-map (AtKey n u v (key_number x)) (FromKey n u v k) (λ f p. (p.0, omega (arith, p.1))) (fault_if (test x) (made x)) here.0 in
    let rest_from = every-map (FromKey n u v (suc (key_number x))) (FromKey n u v k) (λ f p. (p.0, omega (arith, p.1))) (flat_map (λ y. fault_if (test y) (made y)) xs) rest.0 in
    (every-append (FromKey n u v k) (fault_if (test x) (made x)) _ first_from rest_from, order-append (AtKey n u v (key_number x)) (FromKey n u v (suc (key_number x))) (by_key n u v (key_number x)) (fault_if (test x) (made x)) _ here.0 rest.0 here.1 rest.1)

in_table : (n u v : ℕ) (fs : List UnitFault) → Ordered (FromKey n u v 0) fs → Ordered (InTable n u v) fs
in_table n u v fs h = (every-map (FromKey n u v 0) (InTable n u v) (λ f p. p.0) fs h.0, h.1)

-- the number of the fault that a rule finds
abbrev rule_number : Rule → ℕ
rule_number rule.Missing = 3
rule_number rule.WrongType = 4
rule_number rule.UnknownKey = 5
rule_number rule.NoUnits = 6
rule_number rule.TooManyUnits = 7
rule_number rule.BadName = 8
rule_number rule.DuplicateName = 9
rule_number rule.PeriodRange = 10
rule_number rule.SlaveCount = 11
rule_number rule.SlaveBytes = 12
rule_number rule.UnitTooBig = 13
rule_number rule.StationRange = 14
rule_number rule.DuplicateStation = 15
rule_number rule.AreaRange = 16
rule_number rule.SlotsRange = 18
rule_number rule.TickRange = 19
rule_number rule.PlaceRange = 20
rule_number rule.PlaceHalf = 21

abbrev HereAt : ℕ → Spot → UnitFault → Type 0
HereAt n s f = InTable n (place_number s.unit) (place_number s.slave) f

table_keys : (r : Rule) (keys : List Key) (s : Spot) (ms : Members) → KeysFrom 0 keys → Ordered (HereAt (rule_number r) s) (key_faults r keys s ms)
table_keys rule.Missing keys s ms h = in_table 3 (place_number s.unit) (place_number s.slave) _ (keys_ordered 3 (place_number s.unit) (place_number s.slave) (λ k. is_needed k && is_missing k ms) (fault.Missing s) (λ k. (((refl, refl), refl), refl)) 0 keys h)
table_keys rule.WrongType keys s ms h = in_table 4 (place_number s.unit) (place_number s.slave) _ (keys_ordered 4 (place_number s.unit) (place_number s.slave) (λ k. has_wrong k ms) (fault.WrongType s) (λ k. (((refl, refl), refl), refl)) 0 keys h)
table_keys rule.UnknownKey keys s ms h = one_ordered (HereAt 5 s) (has_other_key keys ms) (fault.UnknownKey s) ((refl, refl), refl)
table_keys _ keys s ms h = (tt, tt)

table_top : (r : Rule) (ms : Members) → Ordered (HereAt (rule_number r) at_top) (top_faults r ms)
table_top rule.NoUnits ms = one_ordered (HereAt 6 at_top) _ fault.NoUnits ((refl, refl), refl)
table_top rule.TooManyUnits ms = one_ordered (HereAt 7 at_top) _ fault.TooManyUnits ((refl, refl), refl)
table_top rule.SlotsRange ms = one_ordered (HereAt 18 at_top) _ fault.SlotsRange ((refl, refl), refl)
table_top rule.TickRange ms = one_ordered (HereAt 19 at_top) _ fault.TickRange ((refl, refl), refl)
table_top r ms = table_keys r top_keys at_top ms (omega arith, (omega arith, (omega arith, tt)))

table_unit : (r : Rule) (top : Members) (before : Items) (n : ℕ) (ms : Members) → Ordered (HereAt (rule_number r) (at_unit n)) (faults_of_unit r top before n ms)
table_unit rule.BadName top before n ms = one_ordered (HereAt 8 (at_unit n)) _ (fault.BadName (at_unit n)) ((refl, refl), refl)
table_unit rule.DuplicateName top before n ms = one_ordered (HereAt 9 (at_unit n)) _ (fault.DuplicateName (at_unit n)) ((refl, refl), refl)
table_unit rule.PeriodRange top before n ms = one_ordered (HereAt 10 (at_unit n)) _ (fault.PeriodRange (at_unit n)) ((refl, refl), refl)
table_unit rule.SlaveCount top before n ms = one_ordered (HereAt 11 (at_unit n)) _ (fault.SlaveCount (at_unit n)) ((refl, refl), refl)
table_unit rule.UnitTooBig top before n ms = one_ordered (HereAt 13 (at_unit n)) _ (fault.UnitTooBig (at_unit n)) ((refl, refl), refl)
table_unit rule.PlaceRange top before n ms = one_ordered (HereAt 20 (at_unit n)) _ (fault.PlaceRange (at_unit n)) ((refl, refl), refl)
table_unit rule.PlaceHalf top before n ms = one_ordered (HereAt 21 (at_unit n)) _ (fault.PlaceHalf (at_unit n)) ((refl, refl), refl)
table_unit r top before n ms = table_keys r unit_keys (at_unit n) ms (omega arith, (omega arith, (omega arith, (omega arith, (omega arith, tt)))))

table_slave : (r : Rule) (units slaves : Items) (n m : ℕ) (ms : Members) → Ordered (HereAt (rule_number r) (at_slave n m)) (faults_of_slave r units slaves n m ms)
table_slave rule.SlaveBytes units slaves n m ms = one_ordered (HereAt 12 (at_slave n m)) _ (fault.SlaveBytes (at_slave n m)) ((refl, refl), refl)
table_slave rule.StationRange units slaves n m ms = one_ordered (HereAt 14 (at_slave n m)) _ (fault.StationRange (at_slave n m)) ((refl, refl), refl)
table_slave rule.DuplicateStation units slaves n m ms = one_ordered (HereAt 15 (at_slave n m)) _ (fault.DuplicateStation (at_slave n m)) ((refl, refl), refl)
table_slave rule.AreaRange units slaves n m ms = one_ordered (HereAt 16 (at_slave n m)) _ (fault.AreaRange (at_slave n m)) ((refl, refl), refl)
table_slave r units slaves n m ms = table_keys r slave_keys (at_slave n m) ms (omega arith, (omega arith, (omega arith, (omega arith, (omega arith, tt)))))

-- ---- the tables one after the other

slave_ordered : (r : Rule) (units before : Items) (n m : ℕ) (o : Option Members) → Ordered (InTable (rule_number r) (1 + n) (1 + m)) (faults_of_slave_item r units before n m o)
slave_ordered r units before n m None = (tt, tt)
slave_ordered r units before n m (Some ms) = table_slave r units before n m ms

slaves_ordered : (r : Rule) (units before : Items) (n m : ℕ) (ds : Items) → Ordered (FromSlave (rule_number r) (1 + n) (1 + m)) (slave_faults_from r units before n m ds)
slaves_ordered r units before n m no_items = (tt, tt)
slaves_ordered r units before n m (item d ds) =
    let k = rule_number r in
    let here = slave_ordered r units before n m (as_table d) in
    let rest = slaves_ordered r units (push_item before d) n (suc m) ds in
    let hs = faults_of_slave_item r units before n m (as_table d) in
    let rs = slave_faults_from r units (push_item before d) n (suc m) ds in
    let here_from = every-map (InTable k (1 + n) (1 + m)) (FromSlave k (1 + n) (1 + m)) (λ f p. (p.0, omega (arith, p.1))) hs here.0 in
    let rest_from = every-map (FromSlave k (1 + n) (1 + suc m)) (FromSlave k (1 + n) (1 + m)) (λ f p. (p.0, omega (arith, p.1))) rs rest.0 in (
      every-append (FromSlave k (1 + n) (1 + m)) hs rs here_from rest_from,
      order-append (InTable k (1 + n) (1 + m)) (FromSlave k (1 + n) (1 + suc m)) (λ f g p q. by_slave k (1 + n) (1 + m) f g p (q.0, omega (arith, q.1))) hs rs here.0 rest.0 here.1 rest.1,
    )

unit_ordered : (r : Rule) (top : Members) (before : Items) (n : ℕ) (o : Option Members) → Ordered (InUnit (rule_number r) (1 + n)) (faults_of_unit_item r top before n o)
unit_ordered r top before n None = (tt, tt)
unit_ordered r top before n (Some ms) =
    let k = rule_number r in
    let here = table_unit r top before n ms in
    let rest = slaves_ordered r before no_items n 0 (items_at key.Slave ms) in
    let hs = faults_of_unit r top before n ms in
    let rs = slave_faults_from r before no_items n 0 (items_at key.Slave ms) in (
      every-append (InUnit k (1 + n)) hs rs (every-map (InTable k (1 + n) 0) (InUnit k (1 + n)) (λ f p. p.0) hs here.0) (every-map (FromSlave k (1 + n) 1) (InUnit k (1 + n)) (λ f p. p.0) rs rest.0),
      order-append (InTable k (1 + n) 0) (FromSlave k (1 + n) 1) (by_slave k (1 + n) 0) hs rs here.0 rest.0 here.1 rest.1,
    )

units_ordered : (r : Rule) (top : Members) (before : Items) (n : ℕ) (ds : Items) → Ordered (FromUnit (rule_number r) (1 + n)) (unit_faults_from r top before n ds)
units_ordered r top before n no_items = (tt, tt)
units_ordered r top before n (item d ds) =
    let k = rule_number r in
    let here = unit_ordered r top before n (as_table d) in
    let rest = units_ordered r top (push_item before d) (suc n) ds in
    let hs = faults_of_unit_item r top before n (as_table d) in
    let rs = unit_faults_from r top (push_item before d) (suc n) ds in
    let here_from = every-map (InUnit k (1 + n)) (FromUnit k (1 + n)) (λ f p. (p.0, omega (arith, p.1))) hs here.0 in
    let rest_from = every-map (FromUnit k (1 + suc n)) (FromUnit k (1 + n)) (λ f p. (p.0, omega (arith, p.1))) rs rest.0 in
    (every-append (FromUnit k (1 + n)) hs rs here_from rest_from, order-append (InUnit k (1 + n)) (FromUnit k (1 + suc n)) (λ f g p q. by_unit k (1 + n) f g p (q.0, omega (arith, q.1))) hs rs here.0 rest.0 here.1 rest.1)

rule_ordered : (r : Rule) (ms : Members) → Ordered (Numbered (rule_number r)) (faults_by ms r)
rule_ordered r ms =
    let k = rule_number r in
    let here = table_top r ms in
    let rest = units_ordered r ms no_items 0 (items_at key.Unit ms) in
    let hs = top_faults r ms in
    let rs = unit_faults_from r ms no_items 0 (items_at key.Unit ms) in (
      every-append (Numbered k) hs rs (every-map (InTable k 0 0) (Numbered k) (λ f p. p.0.0) hs here.0) (every-map (FromUnit k 1) (Numbered k) (λ f p. p.0) rs rest.0),
      order-append (InTable k 0 0) (FromUnit k 1) (λ f g p q. by_unit k 0 f g p.0 q) hs rs here.0 rest.0 here.1 rest.1,
    )

-- ---- the rules one after the other

-- rules from this number on, each after the one before, and all below another number
abbrev RulesFrom : ℕ → List Rule → ℕ → Type 0
RulesFrom low [] high = low ≤ high
RulesFrom low (r ∷ rs) high = (low ≤ rule_number r) × RulesFrom (suc (rule_number r)) rs high

rules_ordered : (ms : Members) (low : ℕ) (rs : List Rule) (high : ℕ) (ys : List UnitFault) → RulesFrom low rs high → Ordered (NumberedFrom high) ys → Ordered (NumberedFrom low) (flat_map (faults_by ms) rs ++ ys)
rules_ordered ms low [] high ys h g = (every-map (NumberedFrom high) (NumberedFrom low) (λ f p. omega (arith, p, h)) ys g.0, g.1)
rules_ordered ms low (r ∷ rs) high ys h g =
    let k = rule_number r in
    let here = rule_ordered r ms in
    let rest = rules_ordered ms (suc k) rs high ys h.1 g in
    let hs = faults_by ms r in
    let zs = flat_map (faults_by ms) rs ++ ys in
    let least : low ≤ k = h.0 in
    rw (append_assoc (faults_by ms r) (flat_map (faults_by ms) rs) ys) (
      every-append (NumberedFrom low) hs zs (every-map (Numbered k) (NumberedFrom low) (λ f p. omega (arith, p)) hs here.0) (every-map (NumberedFrom (suc k)) (NumberedFrom low) (λ f p. omega (arith, p)) zs rest.0),
      order-append (Numbered k) (NumberedFrom (suc k)) (by_number k) hs zs here.0 rest.0 here.1 rest.1,
    )

late_ordered : (ms : Members) → Ordered (NumberedFrom 18) (flat_map (faults_by ms) late_rules)
late_ordered ms =
    let steps : RulesFrom 18 late_rules 22 = (omega arith, (omega arith, (omega arith, (omega arith, omega arith)))) in
    subst (Ordered (NumberedFrom 18)) (append-nil (flat_map (faults_by ms) late_rules)) (rules_ordered ms 18 late_rules 22 [] steps (tt, tt))

hyper_ordered : (ms : Members) → Ordered (NumberedFrom 17) (hyper_faults ms ++ flat_map (faults_by ms) late_rules)
hyper_ordered ms =
    let here : Ordered (Numbered 17) (hyper_faults ms) = one_ordered (Numbered 17) _ fault.HyperTooLong refl in
    let rest = late_ordered ms in
    let hs = hyper_faults ms in
    let zs = flat_map (faults_by ms) late_rules in (
      every-append (NumberedFrom 17) hs zs (every-map (Numbered 17) (NumberedFrom 17) (λ f p. omega (arith, p)) hs here.0) (every-map (NumberedFrom 18) (NumberedFrom 17) (λ f p. omega (arith, p)) zs rest.0),
      order-append (Numbered 17) (NumberedFrom 18) (by_number 17) hs zs here.0 rest.0 here.1 rest.1,
    )

early_steps : RulesFrom 3 early_rules 17
early_steps =
    (omega arith, (omega arith, (omega arith, (omega arith, (omega arith, (omega arith, (omega arith, (omega arith, (omega arith, (omega arith, (omega arith, (omega arith, (omega arith, (omega arith, omega arith))))))))))))))

pub faults_ordered : (ms : Members) → AreInOrder (unit_faults ms)
unfolding unit_faults
faults_ordered ms = (rules_ordered ms 3 early_rules 17 (hyper_faults ms ++ flat_map (faults_by ms) late_rules) early_steps (hyper_ordered ms)).1

least_by : (fs : List UnitFault) (f : UnitFault) → AreInOrder fs → first fs ≡ Some f → AllByRecursion (λ g. (g ≡ f) ⊎ IsBefore f g) fs
least_by [] f h e = tt
least_by (x ∷ xs) f h e =
    let same : x ≡ f = cc in
    (inl same, every-map (IsBefore x) (λ g. (g ≡ f) ⊎ IsBefore f g) (λ g p. inr (subst (λ y. IsBefore y g) same p)) xs h.0)

pub first_least : (ms : Members) (f : UnitFault) → first (unit_faults ms) ≡ Some f → AllByRecursion (λ g. (g ≡ f) ⊎ IsBefore f g) (unit_faults ms)
first_least ms f e = least_by (unit_faults ms) f (faults_ordered ms) e

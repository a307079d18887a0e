-- A level that holds at a prefix holds at each longer one.
-- One unit more: `least-more` for the average, `extends-set` for the ticks; `level-below` for the trees below a prefix.
use Rattle.std.proofs.Common.{◌≡◌, ℕ, zero, suc, ◌+◌, ◌*◌, ◌/◌, ◌<◌, ◌≤◌, All, List, [], ◌∷◌, length, set, get_or, slice_get, Option, Some, None, refl, sym, ap, ◌∙◌, subst, arith, inl, inr, le_trans, cond, ◌%◌, ◌==◌, mul-zero, mul-suc, mul_comm, mod-eq_of_lt}
use Prim.Native.Nat.{◌∣◌}
use native.Mathlib.Nat.{mul-div_cancel'}
use Rattle.std.proofs.lemmas.Bool.{cases_eq, eq-eqb, ne_eqb, cond-true, cond-false}
use Rattle.std.proofs.lemmas.Nat.{mod-mul-add}
use Rattle.std.proofs.lemmas.List.Elements.{All-nil, All-cons, All-head, All-tail}
use Rattle.ec_hyper.specs.Lcm.{lcm_of}
use Rattle.ec_hyper.proofs.LcmLemmas.{lcm_of-is}
use Rattle.ec_units.specs.declared.slave.Place.{Place}
use Rattle.ec_units.specs.declared.unit.Load.{Load}
use Rattle.ec_units.specs.Load.{periods_of}
use Rattle.ec_loads.specs.declared.item.Item.{Item}
use Rattle.ec_loads.specs.Cost.{item, items, raw_cost, sum_below}
use Rattle.ec_loads.specs.Held.{AreLoads, no_places}
use Rattle.ec_loads.specs.Line.{Line}
use Rattle.ec_loads.specs.Shape.{Shape, Shapes, split, leaf, open_leaf, no_shapes, more}
use Rattle.ec_loads.specs.Search.{Prefix, Extends, done, free, same, nobody, demand, least_raw, children, TreeWith, TreesWith, LevelHolds}
use Rattle.ec_loads.proofs.ItemLemmas.{positive_loads}
use Rattle.ec_bounds.proofs.SubLemmas.{Sub-items, sum_below-le, tick_cost-Sub}
use Rattle.ec_bounds.proofs.AverageLemmas.{sum_below-add, sum_below-agree, sum_below-none, sum_below-split, sends, moved, heads, heads-Sub, raw_cost-parts}
use Rattle.ec_symmetry.specs.Reached.{In, here, there}
use Rattle.ec_symmetry.proofs.InLemmas.{children-In}
use Rattle.ec_checker.specs.Judged.{IsReady}
use Rattle.ec_checker.specs.Levels.{AreIn}

some_none : {p : Place} → Some (Some p) ≡ Some None → ⊥
some_none e = absurd cc

none_place : {p : Option Place} → None ≡ Some p → ⊥
none_place e = absurd cc

-- ---- one unit more has a place

extends-same : (ps : Prefix) → Extends ps ps
extends-same [] = done
extends-same (None ∷ ps) = free (extends-same ps)
extends-same (Some q ∷ ps) = same (extends-same ps)

extends-set : (ps : Prefix) (u : ℕ) (p : Place) → slice_get ps u ≡ Some None → Extends ps (set ps u (Some p))
extends-set [] u p h = absurd (none_place h)
extends-set (None ∷ ps) zero p h = free (extends-same ps)
extends-set (Some q ∷ ps) zero p h = absurd (some_none h)
extends-set (None ∷ ps) (suc u) p h = free (extends-set ps u p h)
extends-set (Some q ∷ ps) (suc u) p h = same (extends-set ps u p h)

swap : (a b c d : ℕ) → b ≡ c → d ≡ a → a + b ≡ c + d
swap a b c d e f = omega (arith, e, f)

shift : (a b c d : ℕ) → b ≡ c + d → a + b ≡ a + c + d
shift a b c d e = omega (arith, e)

-- what it sends beside the others
moved-set : (ls : List Load) (ps : Prefix) (u : ℕ) (p : Place) (t : ℕ) → u < length ls → slice_get ps u ≡ Some None
    → moved (items ls (set ps u (Some p))) t ≡ moved (items ls ps) t + sends (get_or ls u nobody).bytes (get_or ls u nobody).period p.phase t
moved-set [] ps u p t lt h = absurd (omega (arith, lt))
moved-set (l ∷ ls) [] u p t lt h = absurd (none_place h)
moved-set (l ∷ ls) (None ∷ ps) zero p t lt h = swap (sends l.bytes l.period p.phase t) (moved (items ls ps) t) (moved (items ls ps) t) (sends l.bytes l.period p.phase t) refl refl
moved-set (l ∷ ls) (Some q ∷ ps) zero p t lt h = absurd (some_none h)
moved-set (l ∷ ls) (None ∷ ps) (suc u) p t lt h = moved-set ls ps u p t (omega (arith, lt)) h
moved-set (l ∷ ls) (Some q ∷ ps) (suc u) p t lt h = shift (sends l.bytes l.period q.phase t) (moved (items ls (set ps u (Some p))) t) (moved (items ls ps) t) (sends (get_or ls u nobody).bytes (get_or ls u nobody).period p.phase t) (moved-set ls ps u p t (omega (arith, lt)) h)

-- it isn't among those that are left
demand-set : (ls : List Load) (ps : Prefix) (u : ℕ) (p : Place) (h : ℕ) → u < length ls → slice_get ps u ≡ Some None
    → demand ls ps h ≡ demand ls (set ps u (Some p)) h + (get_or ls u nobody).bytes * (h / (get_or ls u nobody).period)
demand-set [] ps u p h lt free_at = absurd (omega (arith, lt))
demand-set (l ∷ ls) [] u p h lt free_at = absurd (none_place free_at)
demand-set (l ∷ ls) (None ∷ ps) zero p h lt free_at = swap (l.bytes * (h / l.period)) (demand ls ps h) (demand ls ps h) (l.bytes * (h / l.period)) refl refl
demand-set (l ∷ ls) (Some q ∷ ps) zero p h lt free_at = absurd (some_none free_at)
demand-set (l ∷ ls) (None ∷ ps) (suc u) p h lt free_at = shift (l.bytes * (h / l.period)) (demand ls ps h) (demand ls (set ps u (Some p)) h) ((get_or ls u nobody).bytes * (h / (get_or ls u nobody).period)) (demand-set ls ps u p h (omega (arith, lt)) free_at)
demand-set (l ∷ ls) (Some q ∷ ps) (suc u) p h lt free_at = demand-set ls ps u p h (omega (arith, lt)) free_at

pub slots-set : (n : ℕ) (ls : List Load) (ps : Prefix) (u : ℕ) (p : Place) → slice_get ps u ≡ Some None → p.slot < n → AreIn n ls ps → AreIn n ls (set ps u (Some p))
slots-set n [] ps u p h low all = All-nil (λ (x : Item). x.slot < n)
slots-set n (l ∷ ls) [] u p h low all = absurd (none_place h)
slots-set n (l ∷ ls) (None ∷ ps) zero p h low all = All-cons (λ (x : Item). x.slot < n) (item l p) (items ls ps) low all
slots-set n (l ∷ ls) (Some q ∷ ps) zero p h low all = absurd (some_none h)
slots-set n (l ∷ ls) (None ∷ ps) (suc u) p h low all = slots-set n ls ps u p h low all
slots-set n (l ∷ ls) (Some q ∷ ps) (suc u) p h low all =
    All-cons (λ (x : Item). x.slot < n) (item l q) (items ls (set ps u (Some p))) (All-head (λ (x : Item). x.slot < n) (item l q) (items ls ps) all)
    (slots-set n ls ps u p h low (All-tail (λ (x : Item). x.slot < n) (item l q) (items ls ps) all))

pub slots-none : (n : ℕ) (ls : List Load) → AreIn n ls (no_places ls)
slots-none n [] = All-nil (λ (x : Item). x.slot < n)
slots-none n (l ∷ ls) = slots-none n ls

divides-at : (ls : List Load) (u h : ℕ) → All (λ q. q ∣ h) (periods_of ls) → u < length ls → (get_or ls u nobody).period ∣ h
divides-at [] u h all lt = absurd (omega (arith, lt))
divides-at (l ∷ ls) zero h all lt = All-head (λ q. q ∣ h) l.period (periods_of ls) all
divides-at (l ∷ ls) (suc u) h all lt = divides-at ls u h (All-tail (λ q. q ∣ h) l.period (periods_of ls) all) (omega (arith, lt))

-- what a unit sends in whole periods
sum-one : (f : ℕ → ℕ) (n a : ℕ) → a < n → ((k : ℕ) → (k ≡ a → ⊥) → f k ≡ 0) → sum_below f n ≡ f a
sum-one f zero a h e = absurd (omega arith)
sum-one f (suc n) a h e =
    elim (cases_eq n a) [
      | inl is ↦
          let rest = sum_below-none f n (λ k l. e k (λ m. omega arith)) in
          let last : f n ≡ f a = ap f is in
          omega arith
      | inr apart ↦
          let rest = sum-one f n a (omega arith) e in
          let last = e n apart in
          omega arith
    ]

sent-period : (b p f : ℕ) → f < p → sum_below (sends b p f) p ≡ b
sent-period b p f h =
    sum_below-agree (sends b p f) (λ t. cond (t == f) b 0) p (λ k l. ap (λ w. cond (w == f) b 0) (mod-eq_of_lt l))
    ∙ sum-one (λ t. cond (t == f) b 0) p f h (λ k ne. cond-false (k == f) b 0 (ne_eqb k f ne))
    ∙ cond-true (f == f) b 0 (eq-eqb f f refl)

sent-periods : (b p f k : ℕ) → f < p → sum_below (sends b p f) (p * k) ≡ b * k
sent-periods b p f zero h = rw mul-zero (sym (mul-zero b))
sent-periods b p f (suc k) h =
    let one : sum_below (λ j. sends b p f (p * k + j)) p ≡ b =
    sum_below-agree (λ j. sends b p f (p * k + j)) (sends b p f) p (λ j l. ap (λ w. cond (w == f) b 0) (ap (λ w. (w + j) % p) (mul_comm p k) ∙ mod-mul-add k p j l ∙ sym (mod-eq_of_lt l)))
    ∙ sent-period b p f h in
    let rest = sent-periods b p f k h in
    let parts = sum_below-split (sends b p f) (p * k) p in
    ap (sum_below (sends b p f)) (mul-suc p k) ∙ omega (arith, mul-suc b k)

above : (raw head own more_raw more_head more_own sent : ℕ) → raw ≡ head + own → more_raw ≡ more_head + more_own → head ≤ more_head → more_own ≡ own + sent → raw + sent ≤ more_raw
above raw head own more_raw more_head more_own sent a b c d = omega (arith, a, b, c, d)

in_all : (a s b d more_d : ℕ) → a + s ≤ b → d ≡ more_d + s → a + d ≤ b + more_d
in_all a s b d more_d x y = omega (arith, x, y)

module _ (ls : List Load) (n : ℕ) (ps : Prefix) (u : ℕ) (p : Place) (within : AreLoads ls) (lt : u < length ls) (at : slice_get ps u ≡ Some None) (early : p.phase < (get_or ls u nobody).period) (low : p.slot < n) (all : AreIn n ls ps) where
  abbrev next : Prefix
  next = set ps u (Some p)

  abbrev hyper : ℕ
  hyper = lcm_of (periods_of ls)

  abbrev own : ℕ → ℕ
  own t = sends (get_or ls u nobody).bytes (get_or ls u nobody).period p.phase t

  raw-more : (t : ℕ) → raw_cost (items ls ps) n t + own t ≤ raw_cost (items ls next) n t
  raw-more t =
      above (raw_cost (items ls ps) n t) (heads (items ls ps) n t) (moved (items ls ps) t) (raw_cost (items ls next) n t) (heads (items ls next) n t) (moved (items ls next) t) (own t)
      (raw_cost-parts (items ls ps) n t all) (raw_cost-parts (items ls next) n t (slots-set n ls ps u p at low all)) (heads-Sub (items ls ps) (items ls next) n t (Sub-items ls (extends-set ps u p at))) (moved-set ls ps u p t lt at)

  own-all : sum_below own hyper ≡ (get_or ls u nobody).bytes * (hyper / (get_or ls u nobody).period)
  own-all =
      let part = divides-at ls u hyper (lcm_of-is (periods_of ls) (positive_loads ls within)).multiple lt in
      ap (sum_below own) (sym (mul-div_cancel' (get_or ls u nobody).period part)) ∙ sent-periods (get_or ls u nobody).bytes (get_or ls u nobody).period p.phase (hyper / (get_or ls u nobody).period) early

  least-more : least_raw ls n ps hyper ≤ least_raw ls n next hyper
  least-more =
      let sums = sum_below-le (λ t. raw_cost (items ls ps) n t + own t) (raw_cost (items ls next) n) hyper (λ t _. raw-more t) in
      let apart = sum_below-add (raw_cost (items ls ps) n) own hyper in
      let each : sum_below (raw_cost (items ls ps) n) hyper + (get_or ls u nobody).bytes * (hyper / (get_or ls u nobody).period) ≤ sum_below (raw_cost (items ls next) n) hyper =
      subst (λ w. sum_below (raw_cost (items ls ps) n) hyper + w ≤ sum_below (raw_cost (items ls next) n) hyper) own-all (subst (λ w. w ≤ sum_below (raw_cost (items ls next) n) hyper) apart sums) in
      in_all (sum_below (raw_cost (items ls ps) n) hyper) ((get_or ls u nobody).bytes * (hyper / (get_or ls u nobody).period)) (sum_below (raw_cost (items ls next) n) hyper) (demand ls ps hyper) (demand ls next hyper) each (demand-set ls ps u p hyper lt at)

still : (a raw more_raw h : ℕ) → a < raw + h → raw ≤ more_raw → a < more_raw + h
still a raw more_raw h x y = omega (arith, x, y)

pub level-next : (line : Line) (level : Option ℕ) (ps : Prefix) (u : ℕ) (p : Place) → AreLoads line.loads → u < length line.loads → slice_get ps u ≡ Some None → p.phase < (get_or line.loads u nobody).period → p.slot < line.slots → AreIn line.slots line.loads ps
    → LevelHolds line level ps → LevelHolds line level (set ps u (Some p))
level-next line level ps u p within lt at early low all (inl (t, (b, is, less))) =
    inl (t, (b, is, le_trans less (tick_cost-Sub (items line.loads ps) (items line.loads (set ps u (Some p))) line.slots t (Sub-items line.loads (extends-set ps u p at)))))
level-next line level ps u p within lt at early low all (inr (b, is, less)) =
    inr (b, is, still (b * lcm_of (periods_of line.loads)) (least_raw line.loads line.slots ps (lcm_of (periods_of line.loads))) (least_raw line.loads line.slots (set ps u (Some p)) (lcm_of (periods_of line.loads))) (lcm_of (periods_of line.loads)) less (least-more line.loads line.slots ps u p within lt at early low all))

-- ---- trees

abbrev pub AnyLeaf : Prefix → List ℕ → Type 0
AnyLeaf _ _ = Unit {0}

-- the places are children
abbrev pub AreChildren : Line → ℕ → List Place → Type 0
AreChildren line u places = (q : Place) → In q places → (q.phase < (get_or line.loads u nobody).period) × (q.slot < line.slots)

pub children-are : (line : Line) (ps : Prefix) (u : ℕ) → AreChildren line u (children line ps u)
children-are line ps u q m = let is = children-In line ps u q m in (is.0, is.2)

module _ (line : Line) (level : Option ℕ) (within : AreLoads line.loads) where
  abbrev Holds : Prefix → List ℕ → Type 0
  Holds qs _ = LevelHolds line level qs

  -- below a prefix at which the level holds
  mutual
    pub level-below : (w : Option ℕ) (t : Shape) (ps : Prefix) (order : List ℕ) → IsReady ps order → AreIn line.slots line.loads ps → All (λ u. u < length line.loads) order → LevelHolds line level ps → TreeWith AnyLeaf line w t ps order → TreeWith Holds line w t ps order
    level-below w (split ts) ps [] ready all few holds h = absurd h
    level-below w (split ts) ps (u ∷ order) ready all few holds h = levels-below w ts ps u order (children line ps u) (children-are line ps u) ready all few holds h
    level-below w (leaf l) ps order ready all few holds h = h
    level-below w open_leaf ps order ready all few holds h = holds

    levels-below : (w : Option ℕ) (ts : Shapes) (ps : Prefix) (u : ℕ) (order : List ℕ) (places : List Place) → AreChildren line u places → IsReady ps (u ∷ order) → AreIn line.slots line.loads ps → All (λ u. u < length line.loads) (u ∷ order) → LevelHolds line level ps
        → TreesWith AnyLeaf line w ts ps u order places → TreesWith Holds line w ts ps u order places
    levels-below w no_shapes ps u order [] each ready all few holds h = tt
    levels-below w no_shapes ps u order (p ∷ rest) each ready all few holds h = absurd h
    levels-below w (more t ts) ps u order [] each ready all few holds h = absurd h
    levels-below w (more t ts) ps u order (p ∷ rest) each ready all few holds h =
        let one = each p here in (
          level-below w t (set ps u (Some p)) order (ready.1 p) (slots-set line.slots line.loads ps u p ready.0 one.1 all) (All-tail (λ u. u < length line.loads) u order few)
              (level-next line level ps u p within (All-head (λ u. u < length line.loads) u order few) ready.0 one.0 one.1 all holds) h.0,
          levels-below w ts ps u order rest (λ q m. each q (there m)) ready all few holds h.1,
        )

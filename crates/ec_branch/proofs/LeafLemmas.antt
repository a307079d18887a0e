-- Leaves that close a prefix at a value, and at each value below it.
-- `first_below` is the least tick of what repeats. `match_map` says an answer of `MatchOption` otherwise, `some_at` and `ok_at` one of
-- `IfSome` and `IfOk`. A leaf of the kinds that all rules have closes a prefix by any of them. `shape_of
-- (TickLeaf t)` doesn't unfold: use `shape_of-TickLeaf` and its like, by `search (rules, the_lemmas)`.
use Rattle.std.proofs.Common.{◌≡◌, ℕ, ◌%◌, ◌<◌, ◌≤◌, inl, inr, All, List, length, Option, Some, None, Result, Ok, Err, IfOk, IfSome, MatchOption, refl, sym, ◌∙◌, subst, arith, rules}
use Rattle.std.proofs.lemmas.Bool.{cases_lt}
use Rattle.std.proofs.lemmas.Nat.{mod_below}
use Rattle.ec_hyper.specs.Lcm.{lcm_of}
use Rattle.ec_units.specs.declared.unit.Load.{Load}
use Rattle.ec_units.specs.Load.{periods_of}
use Rattle.ec_loads.specs.Cost.{items, payload, tick_cost, IsFirstBusiest}
use Rattle.ec_loads.specs.Excess.{IsFirstOverfull, IsFirstReached}
use Rattle.ec_loads.specs.Held.{Held, AreLoads, items_of}
use Rattle.ec_loads.specs.Legal.{Fits}
use Rattle.ec_loads.specs.Line.{Line}
use Rattle.ec_loads.specs.Search.{Prefix, TickHolds, FullHolds, AverageHolds, LeafHolds, HasShortTick}
use Rattle.ec_loads.specs.Shape.{Leaf, tick, full, average, weighted, leaf}
use Rattle.ec_loads.specs.Weights.{WeightsHold}
use Rattle.ec_loads.proofs.CostLemmas.{tick_cost-mod, payload-mod}
use Rattle.ec_loads.proofs.ItemLemmas.{DivideAll-loads}
use Rattle.ec_bounds.specs.Laws.{IsFirstFullLeaf}
use Rattle.ec_bounds.proofs.LeafLemmas.{leaf-falls}
use Rattle.ec_cert.specs.Shapes.{shape_of}
use Rattle.ec_cert.specs.declared.tree.Tree.{TickLeaf, FullLeaf, Average, Weights, the_lemmas}
use Rattle.ec_branch.specs.Walks.{IsClosing}

-- what an answer says, said otherwise
pub match_map : {A : Type 0} {P Q : Type 0} {F G : A → Type 0} (r : Option A) → (P → Q) → ((a : A) → F a → G a) → MatchOption r P F → MatchOption r Q G
match_map None none some h = none h
match_map (Some a) none some h = some a h

-- the same of an answer of `IfSome`
pub some_at : {A : Type 0} {F G : A → Type 0} (r : Option A) → ((a : A) → F a → G a) → IfSome r F → IfSome r G
some_at None some h = h
some_at (Some a) some h = some a h

-- the same of an answer of `IfOk`
pub ok_at : {A E : Type 0} {F G : A → Type 0} (r : Result A E) → ((a : A) → F a → G a) → IfOk r F → IfOk r G
ok_at (Ok a) some h = some a h
ok_at (Err e) some h = h

-- what an answer that gives nothing says
pub at_none : {A : Type 0} {P : Type 0} (F : A → Type 0) (r : Option A) → ((a : A) → r ≡ Some a → ⊥) → MatchOption r P F → P
at_none F None never h = h
at_none F (Some a) never h = absurd (never a refl)

-- the first tick of what repeats is below the hyperperiod
first_below : (P : ℕ → Type 0) (h t : ℕ) → 0 < h → ((i : ℕ) → P i → P (i % h)) → P t → ((i : ℕ) → i < t → ¬ (P i)) → t < h
first_below P h t pos again at first =
    elim (cases_lt t h) [
      | inl less ↦ less
      | inr more ↦ absurd (first (t % h) (let low = mod_below t h pos in omega arith) (again t at))
    ]

tick_again : (loads : List Load) (n : ℕ) (v : Option ℕ) (ps : Prefix) (h t : ℕ) → AreLoads loads → h ≡ lcm_of (periods_of loads) → TickHolds loads n v ps t → TickHolds loads n v ps (t % h)
tick_again loads n v ps h t all is (b, some, low) =
    (b, some, subst (λ w. b ≤ w) (sym (tick_cost-mod (items loads ps) n h t (DivideAll-loads loads ps h all is))) low)

full_again : (loads : List Load) (n : ℕ) (ps : Prefix) (h t s : ℕ) → AreLoads loads → h ≡ lcm_of (periods_of loads) → FullHolds loads n ps t s → FullHolds loads n ps (t % h) s
full_again loads n ps h t s all is (slot, above) =
    (slot, subst (λ w. 1498 < w) (sym (payload-mod (items loads ps) h t s (DivideAll-loads loads ps h all is))) above)

pub short_tick : (held : Held) (v : Option ℕ) (h t : ℕ) → AreLoads held.loads → h ≡ lcm_of (periods_of held.loads) → (1 ≤ h) × (h ≤ 1024)
    → TickHolds held.loads held.slots v held.places t × ((i : ℕ) → i < t → ¬ (TickHolds held.loads held.slots v held.places i))
    → TickHolds held.loads held.slots v held.places t × (t ≤ 1023)
short_tick held v h t all is range at =
    let below = first_below (TickHolds held.loads held.slots v held.places) h t range.0 (λ i k. tick_again held.loads held.slots v held.places h i all is k) at.0 at.1 in
    (at.0, omega (arith, below, range.1))

pub short_full : (held : Held) (h t s : ℕ) → AreLoads held.loads → h ≡ lcm_of (periods_of held.loads) → (1 ≤ h) × (h ≤ 1024) → IsFirstFullLeaf held t s
    → FullHolds held.loads held.slots held.places t s × (t ≤ 1023)
short_full held h t s all is range at =
    let below = first_below (λ i. FullHolds held.loads held.slots held.places i s) h t range.0 (λ i k. full_again held.loads held.slots held.places h i s all is k) at.0 (λ i k. at.1 i s k) in
    (at.0, omega (arith, below, range.1))

pub short_top : (held : Held) (h b t : ℕ) → AreLoads held.loads → h ≡ lcm_of (periods_of held.loads) → (1 ≤ h) × (h ≤ 1024) → IsFirstBusiest (items_of held) held.slots b t → t ≤ 1023
short_top held h b t all is range at =
    let cost : ℕ → ℕ = tick_cost (items_of held) held.slots in
    let again : (i : ℕ) → cost i ≡ b → cost (i % h) ≡ b = λ i e. tick_cost-mod (items_of held) held.slots h i (DivideAll-loads held.loads held.places h all is) ∙ e in
    let below = first_below (λ i. cost i ≡ b) h t range.0 again at.reached (λ i k e. let less = at.first i k in omega (arith, less, e)) in
    omega (arith, below, range.1)

-- no payload is too large
pub fits_from : (held : Held) → ((t s : ℕ) → ¬ (FullHolds held.loads held.slots held.places t s)) → Fits (items_of held) held.slots
fits_from held none t s within =
    elim (cases_lt 1498 (payload (items_of held) t s)) [
      | inl above ↦ absurd (none t s (within, above))
      | inr low ↦ low
    ]

-- a leaf that holds, in a short tick, closes the prefix
pub closing_leaf : (line : Line) (v : Option ℕ) (ps : Prefix) (l : Leaf) → LeafHolds line v ps l → HasShortTick l → IsClosing line v ps (leaf l)
closing_leaf line v ps l h short =
    record {
      one = refl;
      whole = refl;
      short = short;
      holds = λ w low order. leaf-falls line v w ps l low h;
    }

pub shape_of-Average : shape_of Average ≡ leaf average
shape_of-Average = search (rules, the_lemmas)

pub shape_of-TickLeaf : (t : ℕ) → shape_of (TickLeaf t) ≡ leaf (tick t)
shape_of-TickLeaf t = search (rules, the_lemmas)

pub shape_of-Weights : (w : List ℕ) → shape_of (Weights w) ≡ leaf (weighted w)
shape_of-Weights w = search (rules, the_lemmas)

pub shape_of-FullLeaf : (t s : ℕ) → shape_of (FullLeaf t s) ≡ leaf (full t s)
shape_of-FullLeaf t s = search (rules, the_lemmas)

-- a unit's place that is too much closes the prefix that has it
pub overfull_leaf :
    (line : Line) (v : Option ℕ) (ps : Prefix) (h p f s t : ℕ) → h ≤ 1024 → s < line.slots → IsFirstOverfull (items line.loads ps) h p f s t → IsClosing line v ps (shape_of (FullLeaf t s))
overfull_leaf line v ps h p f s t most within first =
    let below = first.below in
    subst (IsClosing line v ps) (sym (shape_of-FullLeaf t s)) (closing_leaf line v ps (full t s) (within, first.above) (omega (arith, below, most)))

pub reached_leaf :
    (line : Line) (v : ℕ) (ps : Prefix) (h p f s t : ℕ) → h ≤ 1024 → IsFirstReached (items line.loads ps) line.slots h p f s v t → IsClosing line (Some v) ps (shape_of (TickLeaf t))
reached_leaf line v ps h p f s t most first =
    let below = first.below in
    subst (IsClosing line (Some v) ps) (sym (shape_of-TickLeaf t)) (closing_leaf line (Some v) ps (tick t) (v, refl, first.reached) (omega (arith, below, most)))

-- weights as a leaf in memory
pub weights_leaf : (line : Line) (v : Option ℕ) (ps : Prefix) (w : List ℕ) → WeightsHold line.loads line.slots v ps w → length w ≤ 1024 → All (λ x. x ≤ 65535) w → IsClosing line v ps (shape_of (Weights w))
weights_leaf line v ps w h few each = subst (IsClosing line v ps) (sym (shape_of-Weights w)) (closing_leaf line v ps (weighted w) h (few, each))

-- the average as a leaf in memory
pub average_leaf : (line : Line) (v : Option ℕ) (ps : Prefix) → AverageHolds line.loads line.slots v ps → IsClosing line v ps (shape_of Average)
average_leaf line v ps h = subst (IsClosing line v ps) (sym shape_of-Average) (closing_leaf line v ps average h tt)

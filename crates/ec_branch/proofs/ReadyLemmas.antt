-- A prefix that the children reach is ready for the units after it.
-- Readiness (`IsReadyFor`) comes from a count of the units without a place (`ready_from`, `free_count`), so no
-- pigeonhole is needed: `order_ready` for an order that is a permutation, `reached_ready` for a prefix that the
-- children reach.
use Rattle.std.proofs.Common.{◌≡◌, ℕ, zero, suc, ◌+◌, ◌-◌, ◌<◌, ◌≤◌, ◌==◌, Bool, false, All, List, [], ◌∷◌, map, length, set, take, drop, get_or, slice_get, Option, Some, None, refl, ap, sym, subst, ◌∙◌, arith, take_all, length-drop}
use Rattle.std.specs.List.{list_any}
use Rattle.std.proofs.lemmas.List.{drop_more, length-map, length-set}
use Rattle.std.proofs.lemmas.List.Elements.{All-nil, All-cons, All-head, All-tail}
use Rattle.std.proofs.lemmas.Bool.{or_parts}
use Rattle.ec_units.specs.declared.slave.Place.{Place}
use Rattle.ec_units.specs.declared.unit.Load.{Load}
use Rattle.ec_units.specs.declared.unit.Unit.{Unit as SyncUnit}
use Rattle.ec_units.specs.Load.{load_of, loads_of}
use Rattle.ec_loads.specs.declared.item.Item.{Item}
use Rattle.ec_loads.specs.Cost.{items, item}
use Rattle.ec_loads.specs.Held.{Held, no_places}
use Rattle.ec_loads.specs.Line.{Rules, Line, line_by, line_of}
use Rattle.ec_loads.specs.Search.{Prefix, nobody}
use Rattle.ec_loads.specs.Shape.{Shape}
use Rattle.ec_symmetry.specs.Reached.{IsInRange}
use Rattle.ec_symmetry.specs.Orders.{has_repeat, IsOrder, with_places, prefix_of, AreChildren, IsReachedPrefix}
use Rattle.ec_symmetry.proofs.FreeLemmas.{AreFree, AreFree-set, AreFree-none}
use Rattle.ec_symmetry.proofs.InLemmas.{children-In}
use Rattle.ec_branch.specs.Walks.{IsReadyFor, IsWalked}

-- an item within its ranges
abbrev IsWithin : ℕ → Item → Type 0
IsWithin n x = (x.phase < x.period) × (x.slot < n)

-- the units that have a place have it within their ranges
abbrev AreWithin : List Load → ℕ → Prefix → Type 0
AreWithin loads n ps = All (IsWithin n) (items loads ps)

-- how many units have no place
abbrev free_count : Prefix → ℕ
free_count [] = 0
free_count (None ∷ ps) = suc (free_count ps)
free_count (Some p ∷ ps) = free_count ps

-- one unit less has no place
count-set : (ps : Prefix) (u : ℕ) (q : Place) → slice_get ps u ≡ Some None → suc (free_count (set ps u (Some q))) ≡ free_count ps
count-set [] u q h = absurd (cc)
count-set (None ∷ ps) zero q h = refl
count-set (Some p ∷ ps) zero q h = absurd (cc)
count-set (None ∷ ps) (suc u) q h = ap suc (count-set ps u q h)
count-set (Some p ∷ ps) (suc u) q h = count-set ps u q h

count-none : (loads : List Load) → free_count (no_places loads) ≡ length loads
count-none [] = refl
count-none (l ∷ ls) = ap suc (count-none ls)

within-set : (loads : List Load) (n : ℕ) (ps : Prefix) (u : ℕ) (q : Place) → slice_get ps u ≡ Some None → q.phase < (get_or loads u nobody).period → q.slot < n → AreWithin loads n ps → AreWithin loads n (set ps u (Some q))
within-set [] n ps u q h f g all = All-nil _
within-set (l ∷ ls) n [] u q h f g all = absurd (cc)
within-set (l ∷ ls) n (None ∷ ps) zero q h f g all = All-cons (IsWithin n) (item l q) (items ls ps) (f, g) all
within-set (l ∷ ls) n (Some p ∷ ps) zero q h f g all = absurd (cc)
within-set (l ∷ ls) n (None ∷ ps) (suc u) q h f g all = within-set ls n ps u q h f g all
within-set (l ∷ ls) n (Some p ∷ ps) (suc u) q h f g all =
    All-cons (IsWithin n) (item l p) (items ls (set ps u (Some q))) (All-head (IsWithin n) (item l p) (items ls ps) all)
    (within-set ls n ps u q h f g (All-tail (IsWithin n) (item l p) (items ls ps) all))

within-none : (loads : List Load) (n : ℕ) → AreWithin loads n (no_places loads)
within-none [] n = All-nil _
within-none (l ∷ ls) n = within-none ls n

-- where no unit is without a place, there is a plan
all_placed : (loads : List Load) (n : ℕ) (ps : Prefix) → length ps ≡ length loads → free_count ps ≡ 0 → AreWithin loads n ps → (plan : List Place) × (ps ≡ map Some plan) × IsInRange loads n plan
all_placed [] n [] e none all = ([], refl, record { whole = refl; phases = All-nil _; slots = All-nil _ })
all_placed [] n (o ∷ ps) e none all = absurd (omega arith)
all_placed (l ∷ ls) n [] e none all = absurd (omega arith)
all_placed (l ∷ ls) n (None ∷ ps) e none all = absurd (omega arith)
all_placed (l ∷ ls) n (Some p ∷ ps) e none all =
    let (plan, is, range) = all_placed ls n ps (omega arith) none (All-tail (IsWithin n) (item l p) (items ls ps) all) in
    let first = All-head (IsWithin n) (item l p) (items ls ps) all in (
      p ∷ plan,
      ap (λ w. Some p ∷ w) is,
      record {
        whole = ap suc range.whole;
        phases = All-cons (λ x. x.phase < x.period) (item l p) (items ls (map Some plan)) first.0 range.phases;
        slots = All-cons (λ x. x.slot < n) (item l p) (items ls (map Some plan)) first.1 range.slots;
      },
    )

ready_from : (loads : List Load) (n : ℕ) (ps : Prefix) (order : List ℕ) → length ps ≡ length loads → AreWithin loads n ps → free_count ps ≡ length order → has_repeat order ≡ false → AreFree ps order → IsReadyFor loads n ps order
ready_from loads n ps [] e all count once free = all_placed loads n ps e count all
ready_from loads n ps (u ∷ order) e all count once free =
    let parts = or_parts (list_any (λ w. u == w) order) (has_repeat order) once in (
      free.0,
      λ q f g.
          ready_from loads n (set ps u (Some q)) order (length-set ps u (Some q) ∙ e) (within-set loads n ps u q free.0 f g all)
          (let less = count-set ps u q free.0 in omega (arith, less, count)) parts.1 (AreFree-set ps u (Some q) order parts.0 free.1),
    )

-- an order of all units is ready where none has a place
pub order_ready : (loads : List Load) (n : ℕ) (order : List ℕ) → IsOrder (length loads) order → IsReadyFor loads n (no_places loads) order
order_ready loads n order is =
    ready_from loads n (no_places loads) order (length-map loads (λ _. None)) (within-none loads n) (count-none loads ∙ sym is.count) is.once (AreFree-none loads order is.below)

-- and it stays so where the children lead
prefix_ready : (line : Line) (ps : Prefix) (order : List ℕ) (places : List Place) → IsReadyFor line.loads line.slots ps order → AreChildren line ps order places → IsReadyFor line.loads line.slots (with_places ps order places) (drop (length places) order)
prefix_ready line ps order [] ready h = ready
prefix_ready line ps [] (p ∷ places) ready h = absurd h
prefix_ready line ps (u ∷ order) (p ∷ places) ready h =
    let range = children-In line ps u p h.0 in
    prefix_ready line (set ps u (Some p)) order places (ready.1 p range.0 range.2) h.1

pub children_long : (line : Line) (ps : Prefix) (order : List ℕ) (places : List Place) → AreChildren line ps order places → length places ≤ length order
children_long line ps order [] h = omega arith
children_long line ps [] (p ∷ places) h = absurd h
children_long line ps (u ∷ order) (p ∷ places) h = let rest = children_long line (set ps u (Some p)) order places h.1 in omega arith

-- the units of the lines
pub order_of_loads : (us : List SyncUnit) (order : List ℕ) → IsOrder (length us) order → IsOrder (length (loads_of us)) order
order_of_loads us order is = subst (λ k. IsOrder k order) (sym (length-map us load_of)) is

-- the units after the prefix
pub later_units : (order : List ℕ) (k : ℕ) → take (length order - k) (drop k order) ≡ drop k order
later_units order k = take_all (length order - k) (drop k order) (omega (arith, length-drop k order))

pub reached_ready : (rules : Rules) (loads : List Load) (n : ℕ) (order : List ℕ) (prefix : List Place) (held : Held) (later : List ℕ) → IsOrder (length loads) order → IsReachedPrefix (line_by rules loads n) order prefix → held ≡ record { loads = loads; slots = n; places = prefix_of loads order prefix } → later ≡ drop (length prefix) order → IsReadyFor held.loads held.slots held.places later
reached_ready rules loads n order prefix held later is reached at rest =
    subst (λ (w : Held). IsReadyFor w.loads w.slots w.places later) (sym at)
    (subst (IsReadyFor loads n (prefix_of loads order prefix)) (sym rest)
    (prefix_ready (line_by rules loads n) (no_places loads) order prefix (order_ready loads n order is) reached))

-- what the walk below the prefix gave
pub explored :
    (rules : Rules) (loads : List Load) (n floor : ℕ) (order : List ℕ) (prefix : List Place) (held : Held) (later : List ℕ) (was : Option ℕ) (had : ℕ) (now : Option ℕ) (left : ℕ) (halted : Bool) (tree : Shape) →
    held ≡ record { loads = loads; slots = n; places = prefix_of loads order prefix } → later ≡ drop (length prefix) order →
    IsWalked (line_of rules held) floor held.places later was had now left halted tree →
    IsWalked (line_by rules loads n) floor (prefix_of loads order prefix) (drop (length prefix) order) was had now left halted tree
explored rules loads n floor order prefix held later was had now left halted tree at rest walked =
    subst (λ w. IsWalked (line_by rules loads n) floor (prefix_of loads order prefix) w was had now left halted tree) rest
    (subst (λ (w : Held). IsWalked (line_of rules w) floor w.places later was had now left halted tree) at walked)

-- one more place of the prefix
pub with_more : (ps : Prefix) (order : List ℕ) (places : List Place) (i u d : ℕ) (e : Place) → i < length order → i < length places → u ≡ get_or order i d → with_places ps (drop i order) (drop i places) ≡ with_places (set ps u (Some (get_or places i e))) (drop (i + 1) order) (drop (i + 1) places)
with_more ps order places i u d e h k is =
    (λ j. with_places ps (drop_more order i d h j) (drop_more places i e k j))
    ∙ (λ j. with_places (set ps (sym is j) (Some (get_or places i e))) (drop (i + 1) order) (drop (i + 1) places))

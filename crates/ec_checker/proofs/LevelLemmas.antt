-- The level at an open leaf, and the greatest one of all open leaves.
use Rattle.std.proofs.Common.{◌≡◌, ◌⊎◌, ◌↔◌, ℕ, ◌+◌, ◌<◌, ◌≤◌, min, max, is_some, MatchOption, List, [], ◌∷◌, length, set, drop, get_or, All, Option, Some, None, Vec, Global, refl, sym, ap, ◌∙◌, subst, inl, inr, arith, rules}
use Rattle.std.proofs.lemmas.Bool.{cases_lt, false_from_ne_true}
use Rattle.std.proofs.lemmas.List.{drop_all}
use Rattle.std.proofs.lemmas.List.Elements.{All-head, All-tail}
use Rattle.ec_units.specs.declared.slave.Place.{Place}
use Rattle.ec_units.specs.declared.unit.Load.{Load}
use Rattle.ec_loads.specs.Cost.{IsFirstBusiest}
use Rattle.ec_loads.specs.Held.{Held, AreLoads, items_of, no_places}
use Rattle.ec_loads.specs.Line.{Rules, Line, line_of, line_by}
use Rattle.ec_loads.specs.Search.{Prefix, nobody, children, TickHolds, AverageHolds, LevelHolds, TreeWith, TreesWith, IsPartialTree, IsAtMost, open_count, open_counts}
use Rattle.ec_loads.specs.Shape.{Shape, Shapes, split, leaf, open_leaf, no_shapes, more}
use Rattle.ec_bounds.proofs.HeldLemmas.{with_place}
use Rattle.ec_cert.specs.declared.tree.Tree.{Tree, OpenLeaf, the_lemmas}
use Rattle.ec_cert.specs.Shapes.{shape_of, shapes_of}
use Rattle.ec_cert.proofs.TreeLemmas.{shapes_of-drop}
use Rattle.ec_checker.specs.Judged.{tick_reaches, IsReady}
use Rattle.ec_checker.specs.Levels.{IsGreatestLevel, IsLowered, AreAtMost, AreIn}
use Rattle.ec_checker.proofs.BelowLemmas.{level-below, level-next, slots-set}
use Rattle.ec_checker.proofs.FoundLemmas.{reaches_from, reaches_to}

-- ---- the test of an open leaf

-- some tick is found, or none
abbrev pub TickFound : Line → ℕ → Prefix → Option ℕ → Type 0
TickFound line l ps found =
    MatchOption found ((t : ℕ) → ¬ (TickHolds line.loads line.slots (Some l) ps t))
    (λ t. TickHolds line.loads line.slots (Some l) ps t × ((i : ℕ) → i < t → ¬ (TickHolds line.loads line.slots (Some l) ps i)))

reaches_same : (line : Line) (l : ℕ) (ps : Prefix) (found : Option ℕ) → AreLoads line.loads → TickFound line l ps found → is_some found ≡ tick_reaches line.loads line.slots l ps
reaches_same line l ps None within none = sym (false_from_ne_true (tick_reaches line.loads line.slots l ps) (λ e. let h = reaches_from line l ps e in none h.0 h.1))
reaches_same line l ps (Some t) within tells = sym (reaches_to line l ps within t tells.0)

-- what is found at a number that is the level
pub reaches_is : (line : Line) (l given : ℕ) (ps : Prefix) (found : Option ℕ) → AreLoads line.loads → given ≡ l → TickFound line given ps found → is_some found ≡ tick_reaches line.loads line.slots l ps
reaches_is line l given ps found within same tells = reaches_same line l ps found within (subst (λ w. TickFound line w ps found) same tells)

-- the greatest level at an open leaf
pub open_most : (rules : Rules) (held : Held) (top at mean r : ℕ) → IsFirstBusiest (items_of held) held.slots top at → ((b : ℕ) → (b ≤ mean) ↔ AverageHolds held.loads held.slots (Some b) held.places) → r ≡ max top mean
    → (m : ℕ) → (m ≤ r) ↔ LevelHolds (line_of rules held) (Some m) held.places
open_most rules held top at mean r busiest all is m = (
  λ low. elim (cases_lt top m) [
    | inr under ↦ inl (at, (m, refl, omega (arith, under, busiest.reached)))
    | inl above ↦ inr ((all m).0 (omega (arith, low, is, above)))
  ],
  λ (holds : LevelHolds (line_of rules held) (Some m) held.places). elim holds [
    | inl h ↦ let e : m ≡ h.1.0 = cc in let most = busiest.busiest.most h.0 in omega (arith, e, h.1.2, most, is)
    | inr h ↦ let low = (all m).1 h in omega (arith, low, is)
  ],
)

-- ---- the walk over the open leaves

-- the same of trees for children
abbrev pub AreLowered : Line → Shapes → Prefix → ℕ → List ℕ → List Place → ℕ → ℕ → Type 0
AreLowered line ss ps u order places most least =
    (v : Option ℕ) → TreesWith (λ _ _. Unit {0}) line v ss ps u order places → (m : ℕ) → ((m ≤ least) ↔ ((m ≤ most) × TreesWith (λ qs _. LevelHolds line (Some m) qs) line v ss ps u order places))

abbrev pub lowered_from : Rules → Held → List Tree → ℕ → List ℕ → List Place → ℕ → ℕ → Type 0
lowered_from rules held ts u order places most least = AreLowered (line_of rules held) (shapes_of ts) held.places u order places most least

abbrev pub kids_of : Rules → Held → ℕ → List Place
kids_of rules held u = children (line_of rules held) held.places u

-- what holds from here on gives what holds from the start
abbrev pub Lowers : Rules → Held → List Tree → ℕ → List ℕ → List Place → ℕ → ℕ → ℕ → Type 0
Lowers rules held trees u order places i level so_far =
    (least : ℕ) → lowered_from rules held (drop i trees) u order places so_far least → lowered_from rules held trees u order (kids_of rules held u) level least

one_more : (line : Line) (s : Shape) (ss : Shapes) (ps : Prefix) (u : ℕ) (order : List ℕ) (p : Place) (rest : List Place) (most so_far least : ℕ) → IsLowered line s (set ps u (Some p)) order most so_far → AreLowered line ss ps u order rest so_far least → AreLowered line (more s ss) ps u order (p ∷ rest) most least
one_more line s ss ps u order p rest most so_far least one two v h m = (
  λ low. let b = (two v h.1 m).0 low in let a = (one v h.0 m).0 b.0 in (a.0, (a.1, b.1)),
  λ q. (two v h.1 m).1 ((one v h.0 m).1 (q.0, q.1.0), q.1.1),
)

-- one more child, to which what is so far is given
pub lowered_step : (rules : Rules) (held placed : Held) (ts : List Tree) (u : ℕ) (order : List ℕ) (ps rest : List Place) (p : Place) (i most given so_far least : ℕ) (t : Tree) → i < length ts → t ≡ get_or ts i t → ps ≡ p ∷ rest → placed ≡ with_place held u (Some p) → given ≡ most
    → IsLowered (line_of rules placed) (shape_of t) placed.places order given so_far → lowered_from rules held (drop (i + 1) ts) u order rest so_far least → lowered_from rules held (drop i ts) u order ps most least
lowered_step rules held placed ts u order ps rest p i most given so_far least t h is first made same one two =
    let line = line_of rules held in
    let here : IsLowered line (shape_of (get_or ts i t)) (set held.places u (Some p)) order most so_far =
    subst (λ x. IsLowered line (shape_of x) (set held.places u (Some p)) order most so_far) is
    (subst (λ (w : Held). IsLowered (line_of rules w) (shape_of t) w.places order most so_far) made
    (subst (λ w. IsLowered (line_of rules placed) (shape_of t) placed.places order w so_far) same one)) in
    subst (λ w. lowered_from rules held (drop i ts) u order w most least) (sym first)
    (subst (λ s. AreLowered line s held.places u order (p ∷ rest) most least) (sym (shapes_of-drop ts i t h))
    (one_more line (shape_of (get_or ts i t)) (shapes_of (drop (i + 1) ts)) held.places u order p rest most so_far least here two))

none_left : (line : Line) (ss : Shapes) (ps : Prefix) (u : ℕ) (order : List ℕ) (most : ℕ) → AreLowered line ss ps u order [] most most
none_left line no_shapes ps u order most v h m = (λ low. (low, tt), λ q. q.0)
none_left line (more s ss) ps u order most v h m = absurd h

no_trees_left : (line : Line) (ps : Prefix) (u : ℕ) (order : List ℕ) (places : List Place) (most : ℕ) → AreLowered line no_shapes ps u order places most most
no_trees_left line ps u order [] most v h m = (λ low. (low, tt), λ q. q.0)
no_trees_left line ps u order (p ∷ rest) most v h m = absurd h

-- where no leaf is open, it doesn't matter what an open leaf has to be
mutual
  tree_closed : (f g : Prefix → List ℕ → Type 0) (line : Line) (v : Option ℕ) (s : Shape) (ps : Prefix) (order : List ℕ) → open_count s ≡ 0 → TreeWith f line v s ps order → TreeWith g line v s ps order
  tree_closed f g line v (split ts) ps [] none h = absurd h
  tree_closed f g line v (split ts) ps (u ∷ order) none h = trees_closed f g line v ts ps u order (children line ps u) none h
  tree_closed f g line v (leaf l) ps order none h = h
  tree_closed f g line v open_leaf ps order none h = absurd (omega (arith, none))

  trees_closed : (f g : Prefix → List ℕ → Type 0) (line : Line) (v : Option ℕ) (ts : Shapes) (ps : Prefix) (u : ℕ) (order : List ℕ) (places : List Place) → open_counts ts ≡ 0 → TreesWith f line v ts ps u order places → TreesWith g line v ts ps u order places
  trees_closed f g line v no_shapes ps u order [] none h = tt
  trees_closed f g line v no_shapes ps u order (p ∷ rest) none h = absurd h
  trees_closed f g line v (more t ts) ps u order [] none h = absurd h
  trees_closed f g line v (more t ts) ps u order (p ∷ rest) none h =
      (tree_closed f g line v t (set ps u (Some p)) order (omega (arith, none)) h.0, trees_closed f g line v ts ps u order rest (omega (arith, none)) h.1)

-- a child with no open leaf lowers no level
pub lowered_skip : (rules : Rules) (held : Held) (ts : List Tree) (u : ℕ) (order : List ℕ) (ps rest : List Place) (p : Place) (i most least : ℕ) (t : Tree) → i < length ts → t ≡ get_or ts i t → ps ≡ p ∷ rest → open_count (shape_of t) ≡ 0
    → lowered_from rules held (drop (i + 1) ts) u order rest most least → lowered_from rules held (drop i ts) u order ps most least
lowered_skip rules held ts u order ps rest p i most least t h is first none two =
    let line = line_of rules held in
    let below = with_place held u (Some p) in
    let same : IsLowered line (shape_of t) below.places order most most = λ v all m. (λ low. (low, tree_closed (λ _ _. Unit {0}) (λ qs _. LevelHolds line (Some m) qs) line v (shape_of t) below.places order none all), λ q. q.0) in
    lowered_step rules held below ts u order ps rest p i most most most least t h is first refl refl same two

-- nor does a tree below places at which the level holds, or one with no open leaf
pub lowered_kept : (rules : Rules) (held : Held) (t : Shape) (order : List ℕ) (most own : ℕ) → AreLoads held.loads → IsReady held.places order → AreIn held.slots held.loads held.places → All (λ u. u < length held.loads) order
    → ((m : ℕ) → (m ≤ own) ↔ LevelHolds (line_of rules held) (Some m) held.places) → (most ≤ own) ⊎ (open_count t ≡ 0) → IsLowered (line_of rules held) t held.places order most most
lowered_kept rules held t order most own within ready slots units all (inl low) v h m =
    (λ under. (under, level-below (line_of rules held) (Some m) within v t held.places order ready slots units ((all m).0 (omega (arith, under, low))) h), λ q. q.0)
lowered_kept rules held t order most own within ready slots units all (inr none) v h m =
    (λ low. (low, tree_closed (λ _ _. Unit {0}) (λ qs _. LevelHolds (line_of rules held) (Some m) qs) (line_of rules held) v t held.places order none h), λ q. q.0)

-- so a child of such places lowers no level either
pub lowered_pass : (rules : Rules) (held : Held) (ts : List Tree) (u : ℕ) (order : List ℕ) (ps rest : List Place) (p : Place) (i most own least : ℕ) (t : Tree) → i < length ts → t ≡ get_or ts i t → ps ≡ p ∷ rest
    → AreLoads held.loads → IsReady held.places (u ∷ order) → AreIn held.slots held.loads held.places → All (λ w. w < length held.loads) (u ∷ order) → p.phase < (get_or held.loads u nobody).period → p.slot < held.slots
    → ((m : ℕ) → (m ≤ own) ↔ LevelHolds (line_of rules held) (Some m) held.places) → (most ≤ own) ⊎ (open_count (shape_of t) ≡ 0)
    → lowered_from rules held (drop (i + 1) ts) u order rest most least → lowered_from rules held (drop i ts) u order ps most least
lowered_pass rules held ts u order ps rest p i most own least t h is first within ready slots units phase slot all (inr none) two = lowered_skip rules held ts u order ps rest p i most least t h is first none two
lowered_pass rules held ts u order ps rest p i most own least t h is first within ready slots units phase slot all (inl low) two =
    let line = line_of rules held in
    let below = with_place held u (Some p) in
    let same : IsLowered line (shape_of t) below.places order most most = λ v h2 m. (
      λ under. (
        under,
        level-below line (Some m) within v (shape_of t) below.places order (ready.1 p) (slots-set held.slots held.loads held.places u p ready.0 slot slots) (All-tail (λ w. w < length held.loads) u order units)
            (level-next line (Some m) held.places u p within (All-head (λ w. w < length held.loads) u order units) ready.0 phase slot slots ((all m).0 (omega (arith, under, low)))) h2,
      ),
      λ q. q.0,
    ) in
    lowered_step rules held below ts u order ps rest p i most most most least t h is first refl refl same two

-- no child is left
pub lowered_no_child : (rules : Rules) (held : Held) (ts : List Tree) (u : ℕ) (order : List ℕ) (ps : List Place) (most : ℕ) → ps ≡ [] → lowered_from rules held ts u order ps most most
lowered_no_child rules held ts u order ps most e =
    subst (λ w. lowered_from rules held ts u order w most most) (sym e) (none_left (line_of rules held) (shapes_of ts) held.places u order most)

-- no tree is left
pub lowered_no_tree : (rules : Rules) (held : Held) (ts : List Tree) (u : ℕ) (order : List ℕ) (ps : List Place) (i most : ℕ) → length ts ≤ i → lowered_from rules held (drop i ts) u order ps most most
lowered_no_tree rules held ts u order ps i most h =
    subst (λ w. lowered_from rules held w u order ps most most) (sym (drop_all i ts h)) (no_trees_left (line_of rules held) held.places u order ps most)

-- a split, by its trees
pub lowered_split : (rules : Rules) (held : Held) (tree : Tree) (trees : Vec Tree Global) (order later : List ℕ) (u most least : ℕ) → shape_of tree ≡ split (shapes_of trees.items) → order ≡ u ∷ later → lowered_from rules held trees.items u later (kids_of rules held u) most least
    → IsLowered (line_of rules held) (shape_of tree) held.places order most least
lowered_split rules held tree trees order later u most least is from all =
    let line = line_of rules held in
    let own : IsLowered line (split (shapes_of trees.items)) held.places (u ∷ later) most least = all in
    subst (λ s. IsLowered line s held.places order most least) (sym is) (subst (λ w. IsLowered line (split (shapes_of trees.items)) held.places w most least) (sym from) own)

-- an open leaf lowers the level to its own
pub lowered_open : (rules : Rules) (held : Held) (tree : Tree) (order : List ℕ) (most own least : ℕ) → shape_of tree ≡ open_leaf → ((m : ℕ) → (m ≤ own) ↔ LevelHolds (line_of rules held) (Some m) held.places) → least ≡ min most own
    → IsLowered (line_of rules held) (shape_of tree) held.places order most least
lowered_open rules held tree order most own least is all low =
    let line = line_of rules held in
    let here : IsLowered line open_leaf held.places order most least =
    λ v h m. (λ under. (omega (arith, under, low), (all m).0 (omega (arith, under, low))), λ q. let own_low = (all m).1 q.1 in omega (arith, q.0, own_low, low)) in
    subst (λ s. IsLowered line s held.places order most least) (sym is) here

pub shape_of-OpenLeaf : shape_of OpenLeaf ≡ open_leaf
shape_of-OpenLeaf = search (rules, the_lemmas)

-- ---- the open leaves of a split, which are looked at first

abbrev HoldAt : Rules → Held → ℕ → Option ℕ → Shapes → ℕ → List ℕ → List Place → Type 0
HoldAt rules held m v ss u order places = TreesWith (λ qs _. LevelHolds (line_of rules held) (Some m) qs) (line_of rules held) v ss held.places u order places

-- a level that holds at all of them is at most what is so far, and holds at those that are left
abbrev pub Follows : Rules → Held → List Tree → ℕ → List Place → ℕ → ℕ → ℕ → Type 0
Follows rules held ts u places i most so_far =
    (v : Option ℕ) (order : List ℕ) (m : ℕ) → m ≤ most → HoldAt rules held m v (shapes_of ts) u order (kids_of rules held u) → (m ≤ so_far) × HoldAt rules held m v (shapes_of (drop i ts)) u order places

pub follows_first : (rules : Rules) (held : Held) (ts : List Tree) (u : ℕ) (places : List Place) (most : ℕ) → places ≡ kids_of rules held u → Follows rules held ts u places 0 most most
follows_first rules held ts u places most is v order m low all = (low, subst (λ w. HoldAt rules held m v (shapes_of ts) u order w) (sym is) all)

-- what holds at those that are left holds at the next one
next_holds : (rules : Rules) (held : Held) (ts : List Tree) (u : ℕ) (places rest : List Place) (p : Place) (i : ℕ) (t : Tree) (v : Option ℕ) (order : List ℕ) (m : ℕ) → i < length ts → places ≡ p ∷ rest → HoldAt rules held m v (shapes_of (drop i ts)) u order places
    → TreeWith (λ qs _. LevelHolds (line_of rules held) (Some m) qs) (line_of rules held) v (shape_of (get_or ts i t)) (set held.places u (Some p)) order × HoldAt rules held m v (shapes_of (drop (i + 1) ts)) u order rest
next_holds rules held ts u places rest p i t v order m h first all =
    subst (λ s. HoldAt rules held m v s u order (p ∷ rest)) (shapes_of-drop ts i t h) (subst (λ w. HoldAt rules held m v (shapes_of (drop i ts)) u order w) first all)

pub follows_skip : (rules : Rules) (held : Held) (ts : List Tree) (u : ℕ) (places rest : List Place) (p : Place) (i most so_far : ℕ) (t : Tree) → i < length ts → places ≡ p ∷ rest → Follows rules held ts u places i most so_far → Follows rules held ts u rest (i + 1) most so_far
follows_skip rules held ts u places rest p i most so_far t h first f v order m low all =
    let now = f v order m low all in
    (now.0, (next_holds rules held ts u places rest p i t v order m h first now.1).1)

pub follows_open : (rules : Rules) (held placed : Held) (ts : List Tree) (u : ℕ) (places rest : List Place) (p : Place) (i most so_far own least : ℕ) (t : Tree) → i < length ts → t ≡ get_or ts i t → places ≡ p ∷ rest → placed ≡ with_place held u (Some p) → shape_of t ≡ open_leaf
    → ((m : ℕ) → (m ≤ own) ↔ LevelHolds (line_of rules placed) (Some m) placed.places) → least ≡ min so_far own → Follows rules held ts u places i most so_far → Follows rules held ts u rest (i + 1) most least
follows_open rules held placed ts u places rest p i most so_far own least t h is first made open_is all low f v order m under holds =
    let now = f v order m under holds in
    let next = next_holds rules held ts u places rest p i t v order m h first now.1 in
    let line = line_of rules held in
    let below = set held.places u (Some p) in
    let shape : shape_of (get_or ts i t) ≡ open_leaf = ap shape_of (sym is) ∙ open_is in
    let at : LevelHolds line (Some m) below = subst (λ s. TreeWith (λ qs _. LevelHolds line (Some m) qs) line v s below order) shape next.0 in
    let there : LevelHolds (line_of rules placed) (Some m) placed.places = subst (λ (w : Held). LevelHolds (line_of rules w) (Some m) w.places) (sym made) at in
    let few = (all m).1 there in
    (omega (arith, few, low, now.0), next.1)

pub follows_all : (rules : Rules) (held : Held) (ts : List Tree) (u : ℕ) (places : List Place) (i most so_far : ℕ) → Follows rules held ts u places i most so_far → AreAtMost (line_of rules held) (shapes_of ts) held.places u most so_far
follows_all rules held ts u places i most so_far f v order m low all = (f v order m low all).0

-- the levels that a split lowers the first one to are those that it lowers the greatest one to
pub lowered_first : (rules : Rules) (held : Held) (tree : Tree) (trees : Vec Tree Global) (order later : List ℕ) (u most first least : ℕ) → shape_of tree ≡ split (shapes_of trees.items) → order ≡ u ∷ later → first ≤ most
    → AreAtMost (line_of rules held) (shapes_of trees.items) held.places u most first → IsLowered (line_of rules held) (shape_of tree) held.places order first least → IsLowered (line_of rules held) (shape_of tree) held.places order most least
lowered_first rules held tree trees order later u most first least is from low each all v has m =
    let line = line_of rules held in
    let own = all v has m in (
      λ under. let h = own.0 under in (omega (arith, h.0, low), h.1),
      λ q. own.1 (each v later m q.0 (subst (λ o. TreeWith (λ qs _. LevelHolds line (Some m) qs) line v (split (shapes_of trees.items)) held.places o) from (subst (λ s. TreeWith (λ qs _. LevelHolds line (Some m) qs) line v s held.places order) is q.1)), q.1),
    )

-- ---- the greatest level of a tree

-- a level that is at most so many is one that isn't above the value
abbrev IsMost : Option ℕ → ℕ → Type 0
IsMost v most = (m : ℕ) → ((m ≤ most) ↔ ((m ≤ 12304) × IsAtMost (Some m) v))

-- the lowest level of its open leaves, up to the greatest that one can be, is the greatest that the tree shows
pub greatest_of : (line : Line) (v : Option ℕ) (tree : Shape) (order : List ℕ) (most least : ℕ) → IsPartialTree line v tree (no_places line.loads) order → IsMost v most → IsLowered line tree (no_places line.loads) order most least → IsGreatestLevel line v tree order least
greatest_of line v tree order most least partial is lowered =
    let own = (lowered v partial.0 least).0 (omega arith) in
    let at = (is least).0 own.0 in
    record {
      range = at.0;
      shows = (at.1, own.1);
      greatest = λ m within shows. (lowered v partial.0 m).1 ((is m).1 (within, shows.0), shows.1);
    }

-- over loads that hold no place
pub greatest_from : (rules : Rules) (loads : List Load) (n : ℕ) (held : Held) (v : Option ℕ) (tree : Shape) (order : List ℕ) (most least : ℕ) → held ≡ record { loads = loads; slots = n; places = no_places loads } → IsPartialTree (line_by rules loads n) v tree (no_places loads) order → IsMost v most → IsLowered (line_of rules held) tree held.places order most least
    → IsGreatestLevel (line_by rules loads n) v tree order least
greatest_from rules loads n held v tree order most least at partial is lowered =
    greatest_of (line_by rules loads n) v tree order most least partial is (subst (λ (h : Held). IsLowered (line_of rules h) tree h.places order most least) at lowered)

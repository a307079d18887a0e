-- The walk over the prefixes: a value that falls, nodes that are counted, leaves that hold.
-- `IsWalked` says that the tree holds at every value up to the one in use, so a value that falls is one
-- `IsAtMost-trans`, with no lemma over trees. It also keeps the count of nodes, why a leaf is open (`HasCause`), and
-- the clause on the threshold (`IsFair`). Going over `Children`: `while let Some(place) = places.next()`, with the list
-- done so far in the invariant (`kids_more`).
use Rattle.std.proofs.Common.{◌≡◌, ◌⊎◌, ℕ, zero, suc, ◌+◌, ◌<◌, ◌≤◌, ◌++◌, min, inl, inr, Bool, true, List, [], ◌∷◌, map, length, set, get_or, Option, Some, None, refl, sym, ap, ◌∙◌, subst, arith, le_trans}
use Rattle.std.proofs.lemmas.Bool.{cases_lt}
use Rattle.std.proofs.lemmas.List.{append_assoc}
use Rattle.ec_units.specs.declared.slave.Place.{Place}
use Rattle.ec_units.specs.declared.unit.Load.{Load}
use Rattle.ec_loads.specs.Cost.{items, plan_items, tick_cost, IsBusiest, IsFirstBusiest}
use Rattle.ec_loads.specs.Held.{Held, items_of}
use Rattle.ec_loads.specs.Legal.{IsLegal, Fits}
use Rattle.ec_loads.specs.Line.{Rules, Line, line_of}
use Rattle.ec_loads.specs.Shape.{Shape, tick, leaf}
use Rattle.ec_loads.specs.Search.{Prefix, TickHolds, HaveShortTicks, HasShortTicks, IsAtMost, open_count, open_counts, node_count, node_counts}
use Rattle.ec_symmetry.specs.Reached.{In, here, there, IsInRange}
use Rattle.ec_cert.specs.declared.tree.Tree.{Tree, TickLeaf}
use Rattle.ec_cert.specs.Shapes.{shape_of, shapes_of}
use Rattle.ec_branch.specs.Frames.{Frame, IsFair}
use Rattle.ec_branch.specs.Walks.{HoldsAt, RowHolds, IsReadyFor, IsClosing, HasCause, IsWalked, IsWalking}
use Rattle.ec_branch.proofs.LeafLemmas.{closing_leaf, shape_of-TickLeaf}

pub IsAtMost-trans : (a b c : Option ℕ) → IsAtMost a b → IsAtMost b c → IsAtMost a c
IsAtMost-trans (Some a) (Some b) (Some c) h k = le_trans h k
IsAtMost-trans (Some a) (Some b) None h k = tt
IsAtMost-trans (Some a) None (Some c) h k = absurd k
IsAtMost-trans (Some a) None None h k = tt
IsAtMost-trans None (Some b) c h k = absurd h
IsAtMost-trans None None c h k = k

-- one child more
nodes-push : (ts : List Tree) (t : Tree) → node_counts (shapes_of (ts ++ t ∷ [])) ≡ node_counts (shapes_of ts) + node_count (shape_of t)
nodes-push [] t = omega arith
nodes-push (x ∷ ts) t = let rest = nodes-push ts t in omega arith

opens-push : (ts : List Tree) (t : Tree) → open_counts (shapes_of (ts ++ t ∷ [])) ≡ open_counts (shapes_of ts) + open_count (shape_of t)
opens-push [] t = omega arith
opens-push (x ∷ ts) t = let rest = opens-push ts t in omega arith

short-push : (ts : List Tree) (t : Tree) → HaveShortTicks (shapes_of ts) → HasShortTicks (shape_of t) → HaveShortTicks (shapes_of (ts ++ t ∷ []))
short-push [] t so_far next = (next, tt)
short-push (x ∷ ts) t so_far next = (so_far.0, short-push ts t so_far.1 next)

row-push : (line : Line) (w : Option ℕ) (ps : Prefix) (u : ℕ) (order : List ℕ) (ts : List Tree) (t : Tree) (kids : List Place) (p : Place)
    → RowHolds line w (shapes_of ts) ps u order kids → HoldsAt line w (shape_of t) (set ps u (Some p)) order → RowHolds line w (shapes_of (ts ++ t ∷ [])) ps u order (kids ++ p ∷ [])
row-push line w ps u order [] t [] p so_far next = (next, tt)
row-push line w ps u order [] t (k ∷ kids) p so_far next = absurd so_far
row-push line w ps u order (x ∷ ts) t [] p so_far next = absurd so_far
row-push line w ps u order (x ∷ ts) t (k ∷ kids) p so_far next = (so_far.0, row-push line w ps u order ts t kids p so_far.1 next)

cause-push : (a b left left2 k : ℕ) (halted halted2 : Bool) → k + left2 ≡ left → (halted ≡ true → halted2 ≡ true) → HasCause a left halted → HasCause b left2 halted2 → HasCause (a + b) left2 halted2
cause-push a b left left2 k halted halted2 count stays (inl none) (inl closed) = inl (omega arith)
cause-push a b left left2 k halted halted2 count stays (inl none) (inr why) = inr why
cause-push a b left left2 k halted halted2 count stays (inr (inl out)) other = inr (inl (omega arith))
cause-push a b left left2 k halted halted2 count stays (inr (inr stopped)) other = inr (inr (stays stopped))

pub walking_more :
    (line : Line) (floor : ℕ) (ps : Prefix) (u : ℕ) (order : List ℕ) (kids : List Place) (p : Place)
    (was now now2 : Option ℕ) (had left left2 : ℕ) (halted halted2 : Bool) (ts : List Tree) (t : Tree) →
    IsWalking line floor ps u order kids was had now left halted ts →
    IsWalked line floor (set ps u (Some p)) order now left now2 left2 halted2 (shape_of t) →
    (halted ≡ true → halted2 ≡ true) →
    IsWalking line floor ps u order (kids ++ p ∷ []) was had now2 left2 halted2 (ts ++ t ∷ [])
walking_more line floor ps u order kids p was now now2 had left left2 halted halted2 ts t so_far step stays =
    let count = so_far.count in
    let counted = step.count in
    let more_nodes = nodes-push ts t in
    record {
      holds = λ w low. row-push line w ps u order ts t kids p (so_far.holds w (IsAtMost-trans w now2 now low step.lower)) (step.holds w low);
      short = short-push ts t so_far.short step.short;
      lower = IsAtMost-trans now2 now was step.lower so_far.lower;
      fair = λ f. step.fair (so_far.fair f);
      count = omega (arith, count, counted, more_nodes);
      cause = subst (λ k. HasCause k left2 halted2) (sym (opens-push ts t)) (cause-push _ _ left left2 _ halted halted2 counted stays so_far.cause step.cause);
    }

-- what a found plan keeps
fair_found : (floor : ℕ) (loads : List Load) (n : ℕ) (plan : List Place) (c b : ℕ) → IsLegal loads n plan → IsBusiest (plan_items loads plan) n c → min c floor ≤ b → IsFair floor loads n (Some b)
fair_found floor loads n plan c b legal busiest least x low bounds =
    let at = bounds plan legal in
    let same : x ≡ at.0 = let e = at.1 in cc in
    let top = busiest.most at.2 in
    let under = at.3 in
    omega (arith, same, top, under, least, low)

-- a leaf that closes its prefix
pub closed_walked :
    (line : Line) (floor : ℕ) (ps : Prefix) (order : List ℕ) (was now : Option ℕ) (had left : ℕ) (halted : Bool) (tree : Shape) →
    IsClosing line now ps tree → left + 1 ≡ had → IsAtMost now was → (IsFair floor line.loads line.slots was → IsFair floor line.loads line.slots now) →
    IsWalked line floor ps order was had now left halted tree
closed_walked line floor ps order was now had left halted tree closing spent low keeps =
    let one = closing.one in
    record { holds = λ w k. closing.holds w k order; short = closing.short; lower = low; fair = keeps; count = omega (arith, one, spent); cause = inl closing.whole }

-- the next unit of a ready order
pub ready_at : (loads : List Load) (n : ℕ) (ps : Prefix) (order later : List ℕ) (k u : ℕ) → IsReadyFor loads n ps order → order ≡ k ∷ later → u ≡ k → IsReadyFor loads n ps (u ∷ later)
ready_at loads n ps order later k u ready from is = subst (λ w. IsReadyFor loads n ps (w ∷ later)) (sym is) (subst (IsReadyFor loads n ps) from ready)

pub In-mid : {A : Type 0} (xs : List A) (x : A) (ys : List A) → In x (xs ++ x ∷ ys)
In-mid [] x ys = here
In-mid (y ∷ xs) x ys = there (In-mid xs x ys)

-- the places that there are
abbrev strip : Prefix → List Place
strip [] = []
strip (None ∷ ps) = strip ps
strip (Some p ∷ ps) = p ∷ strip ps

strip-map : (plan : List Place) → strip (map Some plan) ≡ plan
strip-map [] = refl
strip-map (p ∷ ps) = ap (λ w. p ∷ w) (strip-map ps)

-- two plans with the same places
pub same_plan : (one other : List Place) → map Some one ≡ map Some other → one ≡ other
same_plan one other same = sym (strip-map one) ∙ ap strip same ∙ strip-map other

pub all_some : (plan : List Place) (ps : Prefix) (i : ℕ) → ps ≡ map Some plan → i < length ps → get_or ps i None ≡ None → ⊥
all_some plan ps i e h k = some_at plan i (subst (λ w. i < length w) e h) (subst (λ w. get_or w i None ≡ None) e k)
  where
    some_at : (plan : List Place) (i : ℕ) → i < length (map Some plan) → get_or (map Some plan) i None ≡ None → ⊥
    some_at [] i h k = omega arith
    some_at (p ∷ ps) zero h k = cc
    some_at (p ∷ ps) (suc i) h k = some_at ps i (omega arith) k

-- a whole prefix that fits is a legal plan
pub legal_found :
    (loads : List Load) (n : ℕ) (ps : Prefix) (order : List ℕ) (found : List Place) →
    IsReadyFor loads n ps order → order ≡ [] → map Some found ≡ ps → Fits (items loads ps) n →
    IsLegal loads n found
legal_found loads n ps order found ready none same fits =
    let whole : IsReadyFor loads n ps [] = subst (IsReadyFor loads n ps) none ready in
    let is : whole.0 ≡ found = sym (strip-map whole.0) ∙ ap strip (sym whole.1 ∙ sym same) ∙ strip-map found in
    let range = subst (IsInRange loads n) is whole.2 in
    record {
      whole = range.whole;
      phases = range.phases;
      slots = range.slots;
      fits = subst (λ q. Fits (items loads q) n) (sym same) fits;
    }

-- a cost that no tick of the value reaches is below it
pub below_value : (loads : List Load) (n : ℕ) (v : Option ℕ) (ps : Prefix) (c t : ℕ) → tick_cost (items loads ps) n t ≡ c → ((i : ℕ) → ¬ (TickHolds loads n v ps i)) → IsAtMost (Some c) v
below_value loads n (Some b) ps c t at none =
    elim (cases_lt c b) [
      | inl less ↦ omega (arith, less)
      | inr above ↦ absurd (none t (b, refl, omega (arith, at, above)))
    ]
below_value loads n None ps c t at none = tt

-- a whole plan that was found and told
pub found_walked :
    (rules : Rules) (f : Frame) (h : Held) (floor : ℕ) (order : List ℕ) (plan : List Place) (was first : Option ℕ) (had left : ℕ) (halted : Bool) (c b t : ℕ) →
    f.loads ≡ h.loads → f.slots ≡ h.slots → f.floor ≡ floor → IsReadyFor h.loads h.slots h.places order → order ≡ [] → map Some plan ≡ h.places →
    Fits (items_of h) h.slots → IsFirstBusiest (items_of h) h.slots c t → t ≤ 1023 → ((i : ℕ) → ¬ (TickHolds h.loads h.slots first h.places i)) →
    left + 1 ≡ had → IsAtMost first was → (b ≤ c) × (min c f.floor ≤ b) →
    IsWalked (line_of rules h) floor h.places order was had (Some b) left halted (shape_of (TickLeaf t))
found_walked rules f h floor order plan was first had left halted c b t loads_are slots_are floor_is ready none same fits busiest short unreached spent low value =
    let legal = legal_found h.loads h.slots h.places order plan ready none same fits in
    let top : IsBusiest (plan_items h.loads plan) h.slots c = subst (λ q. IsBusiest (items h.loads q) h.slots c) (sym same) busiest.busiest in
    let reached = busiest.reached in
    let under : IsAtMost (Some b) (Some c) = value.0 in
    let above = below_value h.loads h.slots first h.places c t reached unreached in
    subst (IsWalked (line_of rules h) floor h.places order was had (Some b) left halted) (sym (shape_of-TickLeaf t))
    (closed_walked (line_of rules h) floor h.places order was (Some b) had left halted (leaf (tick t))
    (closing_leaf (line_of rules h) (Some b) h.places (tick t) (b, refl, omega (arith, reached, value.0)) short)
    spent
    (IsAtMost-trans (Some b) first was (IsAtMost-trans (Some b) (Some c) first under above) low)
    (λ g. fair_found floor h.loads h.slots plan c b legal top (subst (λ k. min c k ≤ b) floor_is value.1)))

-- the lesser of a fair value and one that a guide answers is fair
pub fair_lesser : (floor : ℕ) (loads : List Load) (n : ℕ) (was first asked : Option ℕ) → (first ≡ was) ⊎ (first ≡ asked) → ((b : ℕ) → asked ≡ Some b → floor ≤ b) → IsFair floor loads n was → IsFair floor loads n first
fair_lesser floor loads n was first asked (inl same) high fair = subst (IsFair floor loads n) (sym same) fair
fair_lesser floor loads n was first None (inr same) high fair = subst (IsFair floor loads n) (sym same) (λ x low bounds. tt)
fair_lesser floor loads n was first (Some b) (inr same) high fair = subst (IsFair floor loads n) (sym same) (λ x low bounds. let least = high b refl in omega (arith, low, least))

pub none_left : (xs : List ℕ) → length xs ≡ 0 → xs ≡ []
none_left [] h = refl
none_left (x ∷ xs) h = absurd (omega arith)

-- one more child is taken
pub kids_more : (done rest before kids : List Place) (p : Place) → before ≡ p ∷ rest → done ++ before ≡ kids → (done ++ p ∷ []) ++ rest ≡ kids
kids_more done rest before kids p is so_far = append_assoc done (p ∷ []) rest ∙ ap (λ w. done ++ w) (sym is) ∙ so_far

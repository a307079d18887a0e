-- There is one order of the search, and at most one greedy plan.
-- Each unit stands in an order as often as in any other one: once, since so many different numbers below their count are
-- all of these (`full`, a sum of counts). So a sorted order is determined (`one_order`). Of two best children the one
-- would be cheaper than the other one if they weren't the same (`one_child`).
use Rattle.std.proofs.Common.{◌≡◌, ℕ, zero, suc, ◌+◌, ◌<◌, ◌≤◌, ◌==◌, ◌++◌, ◌⊎◌, inl, inr, if◌then◌else◌, false, All, List, [], ◌∷◌, map, length, set, get_or, Some, refl, ap, sym, subst, ◌∙◌, arith}
use Rattle.std.specs.List.{list_any}
use Rattle.std.proofs.lemmas.Bool.{cases_eq, cases_lt, eq-eqb, ne_eqb, or_parts}
use Rattle.std.proofs.lemmas.List.Elements.{All-head, All-tail}
use Rattle.ec_units.specs.declared.slave.Place.{Place}
use Rattle.ec_units.specs.declared.unit.Load.{Load}
use Rattle.ec_loads.specs.Cost.{sum_below}
use Rattle.ec_loads.specs.Held.{no_places}
use Rattle.ec_loads.specs.Line.{slots_alone, line_by}
use Rattle.ec_loads.specs.Search.{Prefix, children}
use Rattle.ec_symmetry.specs.Orders.{has_repeat, IsOrder}
use Rattle.ec_symmetry.specs.Reached.{In, here, there}
use Rattle.ec_branch.specs.Greedy.{IsTooFull, FitsAt, IsBestChild, IsGreedyTo, IsStuck, IsGreedyPlan, HasNoGreedyPlan}
use Rattle.ec_branch.specs.Weights.{ComesBefore, IsSearchOrder}
use Rattle.ec_branch.proofs.WalkLemmas.{In-mid}

-- how often a number stands in a list
abbrev pub is_it : ℕ → ℕ → ℕ
is_it u x = if u == x then 1 else 0

abbrev pub times : ℕ → List ℕ → ℕ
times u [] = 0
times u (x ∷ xs) = is_it u x + times u xs

it_is : (u x : ℕ) → u ≡ x → is_it u x ≡ 1
it_is u x same = ap (λ b. if b then 1 else 0) (eq-eqb u x same)

it_is_not : (u x : ℕ) → (u ≡ x → ⊥) → is_it u x ≡ 0
it_is_not u x apart = ap (λ b. if b then 1 else 0) (ne_eqb u x apart)

absent : (u : ℕ) (xs : List ℕ) → list_any (λ w. u == w) xs ≡ false → times u xs ≡ 0
absent u [] h = refl
absent u (x ∷ xs) h =
    let parts = or_parts (u == x) (list_any (λ w. u == w) xs) h in
    let first : is_it u x ≡ 0 = ap (λ b. if b then 1 else 0) parts.0 in
    let rest = absent u xs parts.1 in
    omega (arith, first, rest)

at_most_once : (u : ℕ) (xs : List ℕ) → has_repeat xs ≡ false → times u xs ≤ 1
at_most_once u [] h = omega arith
at_most_once u (x ∷ xs) h =
    let parts = or_parts (list_any (λ w. x == w) xs) (has_repeat xs) h in
    elim (cases_eq u x) [
      | inl same ↦
          let one = it_is u x same in
          let rest : times u xs ≡ 0 = absent u xs (subst (λ y. list_any (λ w. y == w) xs ≡ false) (sym same) parts.0) in
          omega (arith, one, rest)
      | inr apart ↦
          let none = it_is_not u x apart in
          let rest = at_most_once u xs parts.1 in
          omega (arith, none, rest)
    ]

outside : (n u : ℕ) (xs : List ℕ) → n ≤ u → All (λ w. w < n) xs → times u xs ≡ 0
outside n u [] high h = refl
outside n u (x ∷ xs) high h =
    let low = All-head (λ w. w < n) x xs h in
    let none = it_is_not u x (λ e. omega (arith, high, low, e)) in
    let rest = outside n u xs high (All-tail (λ w. w < n) x xs h) in
    omega (arith, none, rest)

no_sum : (n : ℕ) → sum_below (λ u. 0) n ≡ 0
no_sum zero = refl
no_sum (suc n) = let rest = no_sum n in omega (arith, rest)

sum_plus : (f g : ℕ → ℕ) (n : ℕ) → sum_below (λ u. f u + g u) n ≡ sum_below f n + sum_below g n
sum_plus f g zero = refl
sum_plus f g (suc n) = let rest = sum_plus f g n in omega (arith, rest)

low_sum : (x n : ℕ) → n ≤ x → sum_below (λ u. is_it u x) n ≡ 0
low_sum x zero h = refl
low_sum x (suc n) h =
    let rest = low_sum x n (omega (arith, h)) in
    let none = it_is_not n x (λ e. omega (arith, h, e)) in
    omega (arith, rest, none)

one_sum : (x n : ℕ) → x < n → sum_below (λ u. is_it u x) n ≡ 1
one_sum x zero h = absurd (omega (arith, h))
one_sum x (suc n) h =
    elim (cases_eq n x) [
      | inl same ↦
          let one = it_is n x same in
          let rest = low_sum x n (omega (arith, same)) in
          omega (arith, one, rest)
      | inr apart ↦
          let none = it_is_not n x apart in
          let rest = one_sum x n (omega (arith, h, apart)) in
          omega (arith, none, rest)
    ]

all_sum : (n : ℕ) (xs : List ℕ) → All (λ w. w < n) xs → sum_below (λ u. times u xs) n ≡ length xs
all_sum n [] h = no_sum n
all_sum n (x ∷ xs) h =
    let whole = sum_plus (λ u. is_it u x) (λ u. times u xs) n in
    let first = one_sum x n (All-head (λ w. w < n) x xs h) in
    let rest = all_sum n xs (All-tail (λ w. w < n) x xs h) in
    omega (arith, whole, first, rest)

most_sum : (f : ℕ → ℕ) (n : ℕ) → ((u : ℕ) → f u ≤ 1) → sum_below f n ≤ n
most_sum f zero low = omega arith
most_sum f (suc n) low =
    let rest = most_sum f n low in
    let own = low n in
    omega (arith, rest, own)

-- n numbers of at most 1 with the sum n are 1 each
full : (f : ℕ → ℕ) (n : ℕ) → ((u : ℕ) → f u ≤ 1) → sum_below f n ≡ n → (u : ℕ) → u < n → f u ≡ 1
full f zero low whole u h = absurd (omega (arith, h))
full f (suc n) low whole u h =
    let rest = most_sum f n low in
    let own = low n in
    elim (cases_eq u n) [
      | inl same ↦ ap f same ∙ omega (arith, whole, rest, own)
      | inr apart ↦ full f n low (omega (arith, whole, rest, own)) u (omega (arith, h, apart))
    ]

-- in an order each unit stands once
pub once_each : (n u : ℕ) (xs : List ℕ) → IsOrder n xs → u < n → times u xs ≡ 1
once_each n u xs is h = full (λ w. times w xs) n (λ w. at_most_once w xs is.once) (all_sum n xs is.below ∙ is.count) u h

as_often : (n u : ℕ) (xs ys : List ℕ) → IsOrder n xs → IsOrder n ys → times u xs ≡ times u ys
as_often n u xs ys one two =
    elim (cases_lt u n) [
      | inl low ↦ once_each n u xs one low ∙ sym (once_each n u ys two low)
      | inr high ↦ outside n u xs high one.below ∙ sym (outside n u ys high two.below)
    ]

-- what stands in a list has an index
pub index_of : (u : ℕ) (xs : List ℕ) → 1 ≤ times u xs → (j : ℕ) × (j < length xs) × (get_or xs j 0 ≡ u)
index_of u [] h = absurd (omega (arith, h))
index_of u (x ∷ xs) h =
    elim (cases_eq u x) [
      | inl same ↦ (0, omega arith, sym same)
      | inr apart ↦
          let none = it_is_not u x apart in
          let (j, within, at) = index_of u xs (omega (arith, h, none)) in
          (suc j, omega (arith, within), at)
    ]

abbrev Rises : (ℕ → ℕ → Type 0) → List ℕ → Type 0
Rises R xs = (i j : ℕ) → i < j → j < length xs → R (get_or xs i 0) (get_or xs j 0)

-- two lists of the same numbers, each sorted, are one
same_sorted : (R : ℕ → ℕ → Type 0) (xs ys : List ℕ) → ((a b : ℕ) → R a b → R b a → ⊥) → ((u : ℕ) → times u xs ≡ times u ys) → Rises R xs → Rises R ys → xs ≡ ys
same_sorted R [] [] apart often up_x up_y = refl
same_sorted R [] (y ∷ ys) apart often up_x up_y =
    let same = often y in
    let one = it_is y y refl in
    absurd (omega (arith, same, one))
same_sorted R (x ∷ xs) [] apart often up_x up_y =
    let same = often x in
    let one = it_is x x refl in
    absurd (omega (arith, same, one))
same_sorted R (x ∷ xs) (y ∷ ys) apart often up_x up_y =
    elim (cases_eq x y) [
      | inl same ↦
          let rest : xs ≡ ys =
          same_sorted R xs ys apart (λ u. let both = often u in let one : is_it u x ≡ is_it u y = ap (is_it u) same in omega (arith, both, one))
          (λ i j h k. up_x (suc i) (suc j) (omega (arith, h)) (omega (arith, k))) (λ i j h k. up_y (suc i) (suc j) (omega (arith, h)) (omega (arith, k))) in
          λ j. same j ∷ rest j
      | inr other ↦
          let at_y = often y in
          let one_y = it_is y y refl in
          let none_y = it_is_not y x (λ e. other (sym e)) in
          let (i, in_x, is_y) = index_of y xs (omega (arith, at_y, one_y, none_y)) in
          let at_x = often x in
          let one_x = it_is x x refl in
          let none_x = it_is_not x y other in
          let (j, in_y, is_x) = index_of x ys (omega (arith, at_x, one_x, none_x)) in
          absurd (apart x y (subst (R x) is_y (up_x 0 (suc i) (omega arith) (omega (arith, in_x)))) (subst (R y) is_x (up_y 0 (suc j) (omega arith) (omega (arith, in_y)))))
    ]

one_way : (loads : List Load) (a b : ℕ) → ComesBefore loads a b → ComesBefore loads b a → ⊥
one_way loads a b (inl x) (inl y) = omega (arith, x, y)
one_way loads a b (inl x) (inr y) = let same = y.0 in omega (arith, x, same)
one_way loads a b (inr x) (inl y) = let same = x.0 in omega (arith, y, same)
one_way loads a b (inr x) (inr y) = let up = x.1 in let down = y.1 in omega (arith, up, down)

one_order : (loads : List Load) (xs ys : List ℕ) → IsSearchOrder loads xs → IsSearchOrder loads ys → xs ≡ ys
one_order loads xs ys one two = same_sorted (ComesBefore loads) xs ys (one_way loads) (λ u. as_often (length loads) u xs ys one.each two.each) one.sorted two.sorted

All-In : {X : Type 0} (P : X → Type 0) (x : X) (xs : List X) → All P xs → In x xs → P x
All-In P x [] all at = elim at [ ]
All-In P x (y ∷ ys) all here = All-head P y ys all
All-In P x (y ∷ ys) all (there at) = All-In P x ys (All-tail P y ys all) at

abbrev Beside : Place → Place → List Place → List Place → Type 0
Beside p q after before = In q after × In p before

-- two elements of one list are one, or the one stands before the other one
parts_of : (b a c d : List Place) (p q : Place) → b ++ p ∷ a ≡ c ++ q ∷ d → (p ≡ q) ⊎ Beside p q a c ⊎ Beside q p d b
parts_of [] a [] d p q same = let e : p ≡ q = cc in inl e
parts_of [] a (y ∷ c) d p q same =
    let e : y ≡ p = cc in
    let rest : c ++ q ∷ d ≡ a = cc in
    inr (inl (subst (In q) rest (In-mid c q d), subst (λ w. In p (w ∷ c)) (sym e) here))
parts_of (x ∷ b) a [] d p q same =
    let e : x ≡ q = cc in
    let rest : b ++ p ∷ a ≡ d = cc in
    inr (inr (subst (In p) rest (In-mid b p a), subst (λ w. In q (w ∷ b)) (sym e) here))
parts_of (x ∷ b) a (y ∷ c) d p q same =
    let rest : b ++ p ∷ a ≡ c ++ q ∷ d = cc in
    elim (parts_of b a c d p q rest) [
      | inl e ↦ inl e
      | inr (inl at) ↦ inr (inl (at.0, there at.1))
      | inr (inr at) ↦ inr (inr (at.0, there at.1))
    ]

-- two best children are one
one_child : (loads : List Load) (n : ℕ) (ps : Prefix) (u : ℕ) (p q : Place) → IsBestChild loads n ps u p → IsBestChild loads n ps u q → p ≡ q
one_child loads n ps u p q one two =
    elim (parts_of one.before one.after two.before two.after p q (sym one.child ∙ two.child)) [
      | inl e ↦ e
      | inr (inl at) ↦
          let low = All-In (λ x. (b : ℕ) → FitsAt loads n ps u x b → one.cost ≤ b) q one.after one.later at.0 two.cost two.fits in
          let less = All-In (λ x. (b : ℕ) → FitsAt loads n ps u x b → two.cost < b) p two.before two.earlier at.1 one.cost one.fits in
          absurd (omega (arith, low, less))
      | inr (inr at) ↦
          let low = All-In (λ x. (b : ℕ) → FitsAt loads n ps u x b → two.cost ≤ b) p two.after two.later at.0 one.cost one.fits in
          let less = All-In (λ x. (b : ℕ) → FitsAt loads n ps u x b → one.cost < b) q one.before one.earlier at.1 two.cost two.fits in
          absurd (omega (arith, low, less))
    ]

one_end : (loads : List Load) (n : ℕ) (ps : Prefix) (order : List ℕ) (a b : Prefix) → IsGreedyTo loads n ps order a → IsGreedyTo loads n ps order b → a ≡ b
one_end loads n ps [] a b one two = sym one ∙ two
one_end loads n ps (u ∷ order) a b (p, best, one) (q, other, two) =
    let same = one_child loads n ps u p q best other in
    one_end loads n (set ps u (Some q)) order a b (subst (λ w. IsGreedyTo loads n (set ps u (Some w)) order a) same one) two

not_stuck : (loads : List Load) (n : ℕ) (ps : Prefix) (order : List ℕ) (a : Prefix) → IsGreedyTo loads n ps order a → IsStuck loads n ps order → ⊥
not_stuck loads n ps [] a one stuck = stuck
not_stuck loads n ps (u ∷ order) a (p, best, one) (inl full_all) =
    let kid : In p (children (line_by slots_alone loads n) ps u) = subst (In p) (sym best.child) (In-mid best.before p best.after) in
    All-In (IsTooFull loads n ps u) p (children (line_by slots_alone loads n) ps u) full_all kid best.fits.fits
not_stuck loads n ps (u ∷ order) a (p, best, one) (inr (q, other, stuck)) =
    let same = one_child loads n ps u p q best other in
    not_stuck loads n (set ps u (Some q)) order a (subst (λ w. IsGreedyTo loads n (set ps u (Some w)) order a) same one) stuck

some_once : (xs ys : List Place) → map Some xs ≡ map Some ys → xs ≡ ys
some_once [] [] same = refl
some_once [] (y ∷ ys) same = absurd (cc)
some_once (x ∷ xs) [] same = absurd (cc)
some_once (x ∷ xs) (y ∷ ys) same =
    let first : x ≡ y = cc in
    let rest : map Some xs ≡ map Some ys = cc in
    λ j. first j ∷ some_once xs ys rest j

-- two greedy plans are one
pub one_greedy : (loads : List Load) (n : ℕ) (plan other : List Place) → IsGreedyPlan loads n plan → IsGreedyPlan loads n other → plan ≡ other
one_greedy loads n plan other one two =
    let order = one_order loads one.order two.order one.sorted two.sorted in
    some_once plan other (one_end loads n (no_places loads) two.order (map Some plan) (map Some other) (subst (λ w. IsGreedyTo loads n (no_places loads) w (map Some plan)) order one.steps) two.steps)

-- there is a greedy plan or there is none
pub none_greedy : (loads : List Load) (n : ℕ) (plan : List Place) → HasNoGreedyPlan loads n → IsGreedyPlan loads n plan → ⊥
none_greedy loads n plan none is =
    let order = one_order loads is.order none.order is.sorted none.sorted in
    not_stuck loads n (no_places loads) none.order (map Some plan) (subst (λ w. IsGreedyTo loads n (no_places loads) w (map Some plan)) order is.steps) none.stuck

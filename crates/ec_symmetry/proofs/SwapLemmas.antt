-- Exchanging two slots of a whole plan changes no tick's cost.
use Rattle.std.proofs.Common.{◌≡◌, ℕ, zero, suc, ◌+◌, ◌*◌, ◌%◌, ◌<◌, ◌==◌, ◌&&◌, ◌||◌, true, false, cond, List, [], ◌∷◌, map, sum, sum_by, refl, sym, ap, ◌∙◌, arith, inl, inr}
use Rattle.std.specs.List.{list_any}
use Rattle.std.proofs.lemmas.Bool.{cases_eq, eq-eqb, ne_eqb, cond-true, cond-false}
use Rattle.std.proofs.lemmas.List.Sums.{sum-map}
use Rattle.ec_units.specs.declared.slave.Place.{Place}
use Rattle.ec_units.specs.declared.unit.Load.{Load}
use Rattle.ec_loads.specs.declared.item.Item.{Item}
use Rattle.ec_loads.specs.Cost.{item, plan_items, is_sent, group, carried, different, payload, slot_cost, sum_below, tick_cost}
use Rattle.ec_loads.proofs.CostLemmas.{sum_below-agree}
use Rattle.ec_symmetry.specs.Renamed.{swap, swap_place, swap_slots}

pub swap-first : (a b : ℕ) → swap a b a ≡ b
swap-first a b = cond-true (a == a) b (cond (a == b) a a) (eq-eqb a a refl)

pub swap-second : (a b : ℕ) → swap a b b ≡ a
swap-second a b =
    elim (cases_eq b a) [
      | inl is ↦ cond-true (b == a) b (cond (b == b) a b) (eq-eqb b a is) ∙ is
      | inr apart ↦ cond-false (b == a) b (cond (b == b) a b) (ne_eqb b a apart) ∙ cond-true (b == b) a b (eq-eqb b b refl)
    ]

pub swap-other : (a b s : ℕ) → (s ≡ a → ⊥) → (s ≡ b → ⊥) → swap a b s ≡ s
swap-other a b s na nb = cond-false (s == a) b (cond (s == b) a s) (ne_eqb s a na) ∙ cond-false (s == b) a s (ne_eqb s b nb)

swap-same : (a b s : ℕ) → a ≡ b → swap a b s ≡ s
swap-same a b s is =
    elim (cases_eq s a) [
      | inl at ↦ ap (swap a b) at ∙ swap-first a b ∙ sym is ∙ sym at
      | inr na ↦ swap-other a b s na (λ e. na (e ∙ sym is))
    ]

-- it undoes itself
pub swap-swap : (a b s : ℕ) → swap a b (swap a b s) ≡ s
swap-swap a b s =
    elim (cases_eq s a) [
      | inl is ↦ ap (λ w. swap a b (swap a b w)) is ∙ ap (swap a b) (swap-first a b) ∙ swap-second a b ∙ sym is
      | inr na ↦ elim (cases_eq s b) [
        | inl is ↦ ap (λ w. swap a b (swap a b w)) is ∙ ap (swap a b) (swap-second a b) ∙ swap-first a b ∙ sym is
        | inr nb ↦ ap (swap a b) (swap-other a b s na nb) ∙ swap-other a b s na nb
      ]
    ]

pub swap-below : (a b s n : ℕ) → a < n → b < n → s < n → swap a b s < n
swap-below a b s n h k l =
    elim (cases_eq s a) [
      | inl is ↦ let e : swap a b s ≡ b = ap (swap a b) is ∙ swap-first a b in omega arith
      | inr na ↦ elim (cases_eq s b) [
        | inl is ↦ let e : swap a b s ≡ a = ap (swap a b) is ∙ swap-second a b in omega arith
        | inr nb ↦ let e : swap a b s ≡ s = swap-other a b s na nb in omega arith
      ]
    ]

swap-test : (a b r s : ℕ) → (swap a b r == s) ≡ (r == swap a b s)
swap-test a b r s =
    elim (cases_eq r (swap a b s)) [
      | inl is ↦ eq-eqb (swap a b r) s (ap (swap a b) is ∙ swap-swap a b s) ∙ sym (eq-eqb r (swap a b s) is)
      | inr apart ↦ ne_eqb (swap a b r) s (λ e. apart (sym (swap-swap a b r) ∙ ap (swap a b) e)) ∙ sym (ne_eqb r (swap a b s) apart)
    ]

abbrev pub swap_item : ℕ → ℕ → Item → Item
swap_item a b x = record { bytes = x.bytes; period = x.period; phase = x.phase; slot = swap a b x.slot }

pub swap-items : (a b : ℕ) (loads : List Load) (plan : List Place) → plan_items loads (swap_slots a b plan) ≡ map (swap_item a b) (plan_items loads plan)
swap-items a b [] plan = refl
swap-items a b (l ∷ ls) [] = refl
swap-items a b (l ∷ ls) (p ∷ ps) = ap (λ w. item l (swap_place a b p) ∷ w) (swap-items a b ls ps)

swap-is_sent : (a b t s : ℕ) (x : Item) → is_sent t s (swap_item a b x) ≡ is_sent t (swap a b s) x
swap-is_sent a b t s x = ap (λ w. (t % x.period == x.phase) && w) (swap-test a b x.slot s)

swap-carried : (a b t s : ℕ) (xs : List Item) → carried (map (swap_item a b) xs) t s ≡ map (swap_item a b) (carried xs t (swap a b s))
swap-carried a b t s [] = refl
swap-carried a b t s (x ∷ xs) =
    (λ i. cond (swap-is_sent a b t s x i) (swap_item a b x ∷ swap-carried a b t s xs i) (swap-carried a b t s xs i))
    ∙ elim (is_sent t (swap a b s) x) as (λ c. cond c (swap_item a b x ∷ map (swap_item a b) (carried xs t (swap a b s))) (map (swap_item a b) (carried xs t (swap a b s))) ≡ map (swap_item a b) (cond c (x ∷ carried xs t (swap a b s)) (carried xs t (swap a b s)))) [
      | true ↦ refl
      | false ↦ refl
    ]

swap-groups : (a b : ℕ) (xs : List Item) → map group (map (swap_item a b) xs) ≡ map group xs
swap-groups a b [] = refl
swap-groups a b (x ∷ xs) = ap (λ w. group x ∷ w) (swap-groups a b xs)

swap-bytes : (a b : ℕ) (xs : List Item) → map (λ x. x.bytes) (map (swap_item a b) xs) ≡ map (λ x. x.bytes) xs
swap-bytes a b [] = refl
swap-bytes a b (x ∷ xs) = ap (λ w. x.bytes ∷ w) (swap-bytes a b xs)

pub swap-payload : (a b t s : ℕ) (xs : List Item) → payload (map (swap_item a b) xs) t s ≡ payload xs t (swap a b s)
unfolding payload
swap-payload a b t s xs =
    let ys = carried xs t (swap a b s) in
    let g : map group (carried (map (swap_item a b) xs) t s) ≡ map group ys = ap (map group) (swap-carried a b t s xs) ∙ swap-groups a b ys in
    let m : sum_by (λ x. x.bytes) (carried (map (swap_item a b) xs) t s) ≡ sum_by (λ x. x.bytes) ys =
    ap (sum_by (λ x. x.bytes)) (swap-carried a b t s xs) ∙ sym (sum-map (λ x. x.bytes) (map (swap_item a b) ys)) ∙ ap sum (swap-bytes a b ys) ∙ sum-map (λ x. x.bytes) ys in
    λ i. 12 * different (g i) + m i

swap-busy : (a b t s : ℕ) (xs : List Item) → list_any (is_sent t s) (map (swap_item a b) xs) ≡ list_any (is_sent t (swap a b s)) xs
swap-busy a b t s [] = refl
swap-busy a b t s (x ∷ xs) = λ i. swap-is_sent a b t s x i || swap-busy a b t s xs i

swap-slot_cost : (a b t s : ℕ) (xs : List Item) → slot_cost (map (swap_item a b) xs) t s ≡ slot_cost xs t (swap a b s)
swap-slot_cost a b t s xs = rw (swap-busy a b t s xs, swap-payload a b t s xs) refl

-- two functions that differ at one place
pub sum_below-change : (f g : ℕ → ℕ) (n a : ℕ) → a < n → ((k : ℕ) → (k ≡ a → ⊥) → f k ≡ g k) → sum_below f n + g a ≡ sum_below g n + f a
sum_below-change f g zero a h e = absurd (omega arith)
sum_below-change f g (suc n) a h e =
    elim (cases_eq n a) [
      | inl is ↦
          let rest = sum_below-agree f g n (λ k l. e k (λ m. omega arith)) in
          let fn : f n ≡ f a = ap f is in
          let gn : g n ≡ g a = ap g is in
          omega arith
      | inr apart ↦
          let rest = sum_below-change f g n a (omega arith) e in
          let last = e n apart in
          omega arith
    ]

sum_below-swap : (f : ℕ → ℕ) (n a b : ℕ) → a < n → b < n → sum_below (λ s. f (swap a b s)) n ≡ sum_below f n
sum_below-swap f n a b h k =
    elim (cases_eq a b) [
      | inl is ↦ sum_below-agree (λ s. f (swap a b s)) f n (λ s _. ap f (swap-same a b s is))
      | inr apart ↦
          let g : ℕ → ℕ = λ s. cond (s == a) (f b) (f s) in
          let ga : g a ≡ f b = cond-true (a == a) (f b) (f a) (eq-eqb a a refl) in
          let gb : g b ≡ f b = cond-false (b == a) (f b) (f b) (ne_eqb b a (λ e. apart (sym e))) in
          let one = sum_below-change f g n a h (λ s na. sym (cond-false (s == a) (f b) (f s) (ne_eqb s a na))) in
          let two = sum_below-change (λ s. f (swap a b s)) g n b k (λ s nb.
          elim (cases_eq s a) [
            | inl at ↦ ap f (ap (swap a b) at ∙ swap-first a b) ∙ sym (cond-true (s == a) (f b) (f s) (eq-eqb s a at))
            | inr na ↦ ap f (swap-other a b s na nb) ∙ sym (cond-false (s == a) (f b) (f s) (ne_eqb s a na))
          ]) in
          let fb : f (swap a b b) ≡ f a = ap f (swap-second a b) in
          omega arith
    ]

pub swap-cost : (a b n t : ℕ) (xs : List Item) → a < n → b < n → tick_cost (map (swap_item a b) xs) n t ≡ tick_cost xs n t
unfolding tick_cost
swap-cost a b n t xs h k =
    sum_below-agree (slot_cost (map (swap_item a b) xs) t) (λ s. slot_cost xs t (swap a b s)) n (λ s _. swap-slot_cost a b t s xs)
    ∙ sum_below-swap (slot_cost xs t) n a b h k

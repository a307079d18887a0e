-- Each step keeps the count.
use Rattle.std.proofs.Common.{◌≡◌, ℕ, zero, suc, ◌+◌, List, [], ◌∷◌, ◌++◌, refl, arith, sym, ap}
use Rattle.std.specs.Prelude.{slice_set}
use mathlib.Core.Option.{some, some-ne-none, some-injective}
use lib.ListN.{get_elem?}
use Rattle.crossbeam_deque.specs.Tasks.{Pushes, Takes, Admits}
use Rattle.ec_search_queues.specs.declared.deques.Hand.{Hand}
use Rattle.ec_search_queues.specs.Counted.{hand, times, total, Balanced}

times-append : (x : ℕ) (ys zs : List ℕ) → times x (ys ++ zs) ≡ times x ys + times x zs
times-append x [] zs = omega arith
times-append x (y ∷ ys) zs = let rest = times-append x ys zs in omega arith

total-append : (f : Hand → ℕ) (us vs : List Hand) → total f (us ++ vs) ≡ total f us + total f vs
total-append f [] vs = omega arith
total-append f (u ∷ us) vs = let rest = total-append f us vs in omega arith

total_set : (f : Hand → ℕ) (views : List Hand) (port : ℕ) (v w : Hand) → get_elem? views port ≡ some v → total f (slice_set views port w) + f v ≡ total f views + f w
total_set f [] port v w e = absurd (some-ne-none v (sym e))
total_set f (u ∷ views) zero v w e = let same : f u ≡ f v = ap f (some-injective _ _ e) in omega arith
total_set f (u ∷ views) (suc port) v w e = let rest = total_set f views port v w e in omega arith

pub begins : Balanced [] (hand [] [] ∷ [])
begins x = refl

pub admits : Admits Balanced (hand [] [])
admits items views h x = let b = h x in
    omega (arith, total-append (λ (v : Hand). times x v.pushed) views (hand [] [] ∷ []), total-append (λ (v : Hand). times x v.taken) views (hand [] [] ∷ []))

pub pushes : (port : ℕ) (v : Hand) (xs : List ℕ) → Pushes Balanced port v xs (λ w. w ≡ hand (v.pushed ++ xs) v.taken)
pushes port v xs items views h at = let w = hand (v.pushed ++ xs) v.taken in (
  w,
  (λ x.
      let b = h x in
      let s = total_set (λ u. times x u.pushed) views port v w at in
      let t = total_set (λ u. times x u.taken) views port v w at in
      omega (arith, times-append x v.pushed xs, times-append x items xs)),
  refl,
)

pub takes : (port : ℕ) (v : Hand) (most : ℕ) → Takes Balanced port v most (λ xs w. w ≡ hand v.pushed (v.taken ++ xs))
takes port v most xs items views _ _ h at = let w = hand v.pushed (v.taken ++ xs) in (
  w,
  (λ x.
      let b = h x in
      let s = total_set (λ u. times x u.pushed) views port v w at in
      let t = total_set (λ u. times x u.taken) views port v w at in
      omega (arith, times-append x v.taken xs, times-append x xs items)),
  refl,
)

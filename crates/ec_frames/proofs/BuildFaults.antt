-- The function `build_fault` and the conditions of the faults are one.
-- An if-chain is taken apart by `chosen`: `cond b x y ≡ z` is `x ≡ z` where b is true, else `y ≡ z`.
use Rattle.std.proofs.Common.{◌≡◌, ◌≢◌, ◌⊎◌, inl, inr, subst, ℕ, ◌<◌, ◌≤◌, Bool, true, false, ◌==◌, cond, List, [], ◌∷◌, length, get_or, Some, None, refl, arith, All}
use Rattle.std.specs.Prelude.{nat_lt, Any}
use Rattle.std.specs.List.{list_any}
use Rattle.std.proofs.lemmas.Bool.Decides.{nat_tests}
use Rattle.std.proofs.lemmas.List.{nil_from_length}
use Rattle.std.proofs.lemmas.List.Folds.{Any-from_list_any, list_any-from_Any, list_any_none, list_any_at}
use Rattle.ec_frames.specs.declared.writing.Datagram.{Datagram}
use Rattle.ec_frames.specs.declared.writing.BuildFault.{BuildFault}
use Rattle.ec_frames.specs.declared.writing.BuildFault.TheVariants as fault
use Rattle.ec_frames.specs.Written.{total_of, build_fault, HasBuildFault, AreBuildable}

abbrev pub is_long : Datagram → Bool
is_long d = nat_lt 1486 d.len

any_long : (ds : List Datagram) → list_any is_long ds ≡ true → Any (λ d. 1486 < d.len) ds
any_long ds h =
    let (k, d, l, at, long) = Any-from_list_any is_long ds h in
    (k, d, l, at, grind (arith, nat_tests))

long_any : (ds : List Datagram) → Any (λ d. 1486 < d.len) ds → list_any is_long ds ≡ true
long_any ds h =
    let (k, d, l, at, long) = h in
    list_any-from_Any is_long ds (k, d, l, at, grind (arith, nat_tests))

no_long : (ds : List Datagram) (k : ℕ) (d : Datagram) → k < length ds → list_any is_long ds ≡ false → is_long (get_or ds k d) ≡ true → ⊥
no_long ds k d l none long = cc (list_any_at is_long ds k d l long)

all_short : (ds : List Datagram) → list_any is_long ds ≡ false → All (λ d. d.len ≤ 1486) ds
all_short ds h k d l =
    let one : is_long (get_or ds k d) ≡ true → ⊥ = no_long ds k d l h in
    grind (arith, nat_tests)

short_all : (ds : List Datagram) → All (λ d. d.len ≤ 1486) ds → list_any is_long ds ≡ false
short_all ds h = list_any_none is_long ds (λ k d l. let one = h k d l in grind (arith, nat_tests))

chosen : {X : Type 0} (b : Bool) (x y z : X) → cond b x y ≡ z → ((b ≡ true) × (x ≡ z)) ⊎ ((b ≡ false) × (y ≡ z))
chosen true x y z h = inl (refl, h)
chosen false x y z h = inr (refl, h)

along : (ds : List Datagram) (f g : BuildFault) → Some g ≡ Some f → HasBuildFault g ds → HasBuildFault f ds
along ds f g same h = let is : g ≡ f = cc in subst (λ (x : BuildFault). HasBuildFault x ds) is h

some_full : (ds : List Datagram) (f : BuildFault) → list_any is_long ds ≡ false → cond (nat_lt 1498 (total_of ds)) (Some fault.FrameFull) None ≡ Some f → HasBuildFault f ds
some_full ds f short h =
    elim (chosen (nat_lt 1498 (total_of ds)) _ _ _ h) [
      | inl full ↦ along ds f fault.FrameFull full.1 (all_short ds short, grind (arith, nat_tests, full.0))
      | inr none ↦ absurd (cc (none.1))
    ]

some_long : (ds : List Datagram) (f : BuildFault) → cond (list_any is_long ds) (Some fault.DataLength) (cond (nat_lt 1498 (total_of ds)) (Some fault.FrameFull) None) ≡ Some f → HasBuildFault f ds
some_long ds f h =
    elim (chosen (list_any is_long ds) _ _ _ h) [
      | inl long ↦ along ds f fault.DataLength long.1 (any_long ds long.0)
      | inr short ↦ some_full ds f short.0 short.1
    ]

-- a fault that the function gives has its condition
pub fault_has : (ds : List Datagram) (f : BuildFault) → build_fault ds ≡ Some f → HasBuildFault f ds
unfolding build_fault
fault_has ds f h =
    elim (chosen (length ds == 0) _ _ _ h) [
      | inl none ↦ along ds f fault.NoDatagram none.1 (nil_from_length ds (grind (arith, nat_tests, none.0)))
      | inr some ↦ some_long ds f some.1
    ]

some_length : (ds : List Datagram) → ds ≢ [] → (length ds == 0) ≡ false
some_length [] h = absurd (h refl)
some_length (d ∷ ds) h = grind (arith, nat_tests)

at_most_none : (ds : List Datagram) → Any (λ d. 1486 < d.len) ds → ds ≢ []
at_most_none [] h e = let (k, d, l, at, long) = h in omega arith
at_most_none (d ∷ ds) h e = cc (e)

total_none : (ds : List Datagram) → 1498 < total_of ds → ds ≢ []
total_none [] h e = omega arith
total_none (d ∷ ds) h e = cc (e)

-- the function gives the fault whose condition holds
pub has_fault : (ds : List Datagram) (f : BuildFault) → HasBuildFault f ds → build_fault ds ≡ Some f
unfolding build_fault
has_fault ds fault.NoDatagram h = rw h refl
has_fault ds fault.DataLength h = rw (some_length ds (at_most_none ds h), long_any ds h) refl
has_fault ds fault.FrameFull h =
    let full : nat_lt 1498 (total_of ds) ≡ true = let m = h.1 in grind (arith, nat_tests) in
    rw (some_length ds (total_none ds h.1), short_all ds h.0, full) refl

-- datagrams that make a frame have no fault
pub buildable_none : (ds : List Datagram) → AreBuildable ds → build_fault ds ≡ None
unfolding build_fault
buildable_none ds h =
    let room : nat_lt 1498 (total_of ds) ≡ false = let m = h.room in grind (arith, nat_tests) in
    rw (some_length ds h.some_datagram, short_all ds h.short, room) refl

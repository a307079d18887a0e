-- Units of which none has a place.
-- `AreFree` holds at first, and after another unit got its place. What makes an order ready, and what ties a path to
-- its prefix, rests on it in the checker, the search and the book.
use Rattle.std.proofs.Common.{◌≡◌, ℕ, zero, suc, ◌<◌, ◌==◌, false, All, List, [], ◌∷◌, length, set, slice_get, Option, Some, None, refl, ap, ◌∙◌, arith}
use Rattle.std.specs.List.{list_any}
use Rattle.std.proofs.lemmas.List.Elements.{All-head, All-tail}
use Rattle.std.proofs.lemmas.Bool.{eqb-false, or_parts}
use Rattle.ec_units.specs.declared.slave.Place.{Place}
use Rattle.ec_units.specs.declared.unit.Load.{Load}
use Rattle.ec_loads.specs.Held.{no_places}
use Rattle.ec_loads.specs.Search.{Prefix}

-- no unit of the list has a place
abbrev pub AreFree : Prefix → List ℕ → Type 0
AreFree ps [] = Unit {0}
AreFree ps (u ∷ us) = (slice_get ps u ≡ Some None) × AreFree ps us

other_place : (ps : Prefix) (u w : ℕ) (o : Option Place) → (u ≡ w → ⊥) → slice_get (set ps u o) w ≡ slice_get ps w
other_place [] u w o h = refl
other_place (p ∷ ps) zero zero o h = absurd (h refl)
other_place (p ∷ ps) zero (suc w) o h = refl
other_place (p ∷ ps) (suc u) zero o h = refl
other_place (p ∷ ps) (suc u) (suc w) o h = other_place ps u w o (λ e. h (ap suc e))

-- and none has one after another unit got its place
pub AreFree-set : (ps : Prefix) (u : ℕ) (o : Option Place) (us : List ℕ) → list_any (λ w. u == w) us ≡ false → AreFree ps us → AreFree (set ps u o) us
AreFree-set ps u o [] none free = tt
AreFree-set ps u o (w ∷ us) none free =
    let parts = or_parts (u == w) (list_any (λ x. u == x) us) none in
    (other_place ps u w o (eqb-false u w parts.0) ∙ free.0, AreFree-set ps u o us parts.1 free.1)

free_at : (loads : List Load) (u : ℕ) → u < length loads → slice_get (no_places loads) u ≡ Some None
free_at [] u h = absurd (omega arith)
free_at (l ∷ ls) zero h = refl
free_at (l ∷ ls) (suc u) h = free_at ls u (omega arith)

-- at first none has one
pub AreFree-none : (loads : List Load) (us : List ℕ) → All (λ u. u < length loads) us → AreFree (no_places loads) us
AreFree-none loads [] all = tt
AreFree-none loads (u ∷ us) all = (free_at loads u (All-head (λ w. w < length loads) u us all), AreFree-none loads us (All-tail (λ w. w < length loads) u us all))

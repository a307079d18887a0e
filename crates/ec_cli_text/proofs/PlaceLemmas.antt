-- Units and their places.
use Rattle.std.proofs.Common.{◌≡◌, ℕ, suc, ◌<◌, is_none, List, ◌∷◌, length, map, drop, get_or, Option, Some, None, refl, sym, ap, ◌∙◌, drop-cons}
use Rattle.std.specs.List.{position_from}
use Rattle.ec_units.specs.declared.unit.Unit.{Unit as SyncUnit}
use Rattle.ec_units.specs.Views.{UnitView, unit_view}

-- the first unit without a place, from the i-th unit on
abbrev pub unplaced_from : ℕ → List SyncUnit → Option ℕ
unplaced_from i us = position_from (λ (u : UnitView). is_none u.place) i (map unit_view us)

-- a unit that has none is the first, where none before it is
pub unplaced-here : (us : List SyncUnit) (i : ℕ) (u : SyncUnit) → i < length us → u ≡ get_or us i u → u.place ≡ None → unplaced_from i (drop i us) ≡ unplaced_from 0 us → unplaced_from 0 us ≡ Some i
unplaced-here us i u h is placed so_far =
    let at : drop i us ≡ u ∷ drop (suc i) us = drop-cons us i u h ∙ ap (λ w. w ∷ drop (suc i) us) (sym is) in
    let here : unplaced_from i (drop i us) ≡ Some i = rw (at, placed) refl in
    sym so_far ∙ here

-- Places that are kept.
use Rattle.std.proofs.Common.{◌≡◌, List, [], ◌∷◌, suc, length, map, Option, Some, refl, ap, subst, ◌∙◌, arith}
use Rattle.std.proofs.lemmas.List.{length-map}
use Rattle.ec_units.specs.declared.slave.Place.{Place}
use Rattle.ec_units.specs.declared.unit.Unit.{Unit as SyncUnit}
use Rattle.ec_loads.specs.Held.{own_places}
use Rattle.ec_loads.specs.Search.{Prefix}
use Rattle.ec_branch.specs.Kept.{Keeps}

inner : (one other : Option Place) → Some one ≡ Some other → one ≡ other
inner one other same = cc

-- nothing is added where each unit has a place
whole_kept : (ps : List Place) (to : Prefix) → length to ≡ length ps → Keeps (map Some ps) to → to ≡ map Some ps
whole_kept [] [] len kept = refl
whole_kept [] (q ∷ to) len kept = absurd (omega (arith, len))
whole_kept (p ∷ ps) [] len kept = absurd (omega (arith, len))
whole_kept (p ∷ ps) (q ∷ to) len kept =
    let head = inner q (Some p) (kept 0 p refl) in
    let rest = whole_kept ps to (omega (arith, len)) (λ k r is. kept (suc k) r is) in
    λ j. head j ∷ rest j

pub all_kept : (us : List SyncUnit) (ps : List Place) (from to : Prefix) → from ≡ own_places us → length to ≡ length from → Keeps from to → own_places us ≡ map Some ps → to ≡ map Some ps
all_kept us ps from to own len kept all =
    let whole = own ∙ all in
    whole_kept ps to (len ∙ ap length whole ∙ length-map ps Some) (subst (λ w. Keeps w to) whole kept)

use Rattle.std.proofs.Common.{◌≡◌, ℕ, ◌<◌, ◌≤◌, min, true, false, All, List, [], ◌∷◌, length, get_or, sym, ap, ◌∙◌, subst, arith}
use Rattle.std.proofs.lemmas.List.{get_or-map}
use Rattle.std.proofs.lemmas.List.Elements.{All-head}
use Rattle.ec_units.specs.declared.slave.Place.{Place}
use Rattle.ec_units.specs.declared.unit.Load.{Load}
use Rattle.ec_units.specs.declared.unit.Unit.{Unit as SyncUnit}
use Rattle.ec_units.specs.Load.{load_of, loads_of}
use Rattle.ec_loads.specs.Held.{no_places}
use Rattle.ec_loads.specs.Line.{slots_alone, turned_time, line_by}
use Rattle.ec_loads.specs.Search.{children, nobody}
use Rattle.ec_symmetry.specs.declared.rules.Rules.{Rules}
use Rattle.ec_symmetry.specs.declared.rules.Rules.TheVariants as code
use Rattle.ec_symmetry.specs.Ruled.{line_rules}
use Rattle.ec_symmetry.specs.Orders.{IsOrder, IsReachedPrefix}
use Rattle.ec_symmetry.specs.Reached.{In}
use Rattle.ec_symmetry.proofs.InLemmas.{In-places, phases_by-least}
use Rattle.test_scripts.specs.IsFirstPhase.{IsFirstPhase}
use Rattle.test_scripts.proofs.guide.is_first_child.Goals as goal

-- a place of the first slot is a child of the empty prefix where its phase is one that the first unit can have
among : (rules : Rules) (loads : List Load) (n u : ℕ) (p : Place) → IsFirstPhase rules (get_or loads u nobody).period p.phase → p.slot ≡ 0 → 1 ≤ n → In p (children (line_by (line_rules rules) loads n) (no_places loads) u)
among code.Plain loads n u p phase slot some = In-places false loads n (no_places loads) u p phase (omega (arith, slot)) (omega (arith, slot, some))
among code.Turned loads n u p phase slot some =
    let phases = phases_by-least turned_time loads (no_places loads) (get_or loads u nobody).period (omega (arith, phase)) in
    In-places true loads n (no_places loads) u p (omega (arith, phase, phases)) (omega (arith, slot)) (omega (arith, slot, some))
among code.Strong loads n u p phase slot some = absurd phase

-- so it is reached
first_child : (rules : Rules) (us : List SyncUnit) (n : ℕ) (order later : List ℕ) (k u : ℕ) (unit : SyncUnit) (p : Place) → IsOrder (length us) order → order ≡ k ∷ later → u ≡ k → unit ≡ get_or us u unit → IsFirstPhase rules unit.period p.phase → p.slot ≡ 0 → 1 ≤ n
    → IsReachedPrefix (line_by (line_rules rules) (loads_of us) n) order (p ∷ [])
first_child rules us n order later k u unit p each from is at phase slot some =
    let first : order ≡ u ∷ later = from ∙ ap (λ w. w ∷ later) (sym is) in
    let within : u < length us = All-head (λ w. w < length us) u later (subst (All (λ w. w < length us)) first each.below) in
    let load : get_or (loads_of us) u nobody ≡ load_of unit = get_or-map load_of us u unit nobody within ∙ ap load_of (sym at) in
    subst (λ o. IsReachedPrefix (line_by (line_rules rules) (loads_of us) n) o (p ∷ [])) (sym first)
    (among rules (loads_of us) n u p (subst (λ (l : Load). IsFirstPhase rules l.period p.phase) (sym load) phase) slot some, tt)

pub returns-then-place-eq0 : goal.returns-then-place-eq0
returns-then-place-eq0 c =
    λ yes.
    let us = c.args.units.now.units in
    first_child c.args.rules us c.args.units.now.slots c.args.order.now c.in-Some.field-0-1.now c.in-Some.unit.now c.from-unit.result c.index-as_slice-unit.result c.args.place
    c.requires c.in-Some.ensures.cases.0 c.from-unit.ensures (c.index-as_slice-unit.is ∙ ap (λ w. get_or w c.from-unit.result c.index-as_slice-unit.result) c.as_slice.ensures)
    (subst (λ (w : SyncUnit). IsFirstPhase c.args.rules w.period c.args.place.phase) (sym c.index-as_slice-unit.is) (c.is_first_phase.ensures yes)) c.if-place-eq0.true c.args.units.now.slot_range.0

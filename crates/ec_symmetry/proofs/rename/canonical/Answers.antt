use Rattle.std.proofs.Common.{◌≡◌, ℕ, ◌<◌, ◌∙◌, All, length, ap, sym, subst}
use Rattle.std.proofs.lemmas.List.{length-map}
use Rattle.ec_units.specs.Load.{load_of, loads_of}
use Rattle.ec_loads.proofs.ItemLemmas.{AreLoads-loads_of}
use Rattle.ec_symmetry.specs.Renamed.{renamed}
use Rattle.ec_symmetry.specs.Turned.{turned_plan}
use Rattle.ec_symmetry.proofs.RenameLemmas.{written}
use Rattle.ec_symmetry.proofs.TurnLemmas.{Turned, turned-all}
use Rattle.ec_symmetry.proofs.rename.canonical.Goals as goal

made : (c : goal.After-new) → c.new.result ≡ renamed 0 c.args.order.now (turned_plan c.args.turned (loads_of c.args.units.now.units) c.args.order.now c.args.plan.now.places)
made c =
    c.new.ensures
    ∙ written c.in_ok-places.places.len c.make_canonical.new.places c.in_ok-places.places.items (c.make_canonical.auto.places ∙ ap length c.as_mut_slice.ensures.value) (c.make_canonical.auto.places ∙ c.as_mut_slice.ensures.len)
    ∙ c.make_canonical.ensures
    ∙ (λ i. renamed 0 c.args.order.now (turned_plan c.args.turned (loads_of (c.as_slice-2.ensures i)) c.args.order.now
    ((c.as_mut_slice.ensures.value ∙ c.in_ok-places.ensures.items_if_clones_equal (λ x y is. is) ∙ c.as_slice.ensures) i)))

reached : (c : goal.After-new) → Turned c.args.turned (loads_of c.args.units.now.units) c.args.units.now.slots c.args.order.now c.args.plan.now.places c.new.result
reached c =
    let loads = loads_of c.args.units.now.units in
    let all = subst (λ (m : ℕ). All (λ u. u < m) c.args.order.now) (sym (length-map c.args.units.now.units load_of)) c.requires.order in
    subst (λ w. Turned c.args.turned loads c.args.units.now.slots c.args.order.now c.args.plan.now.places w) (sym (made c))
    (turned-all c.args.turned loads c.args.units.now.slots c.args.order.now c.args.plan.now.places (AreLoads-loads_of c.args.units.now.units) all c.requires.range)

pub returns-clause-reached : goal.returns-clause-reached
returns-clause-reached c = (reached c).reached

pub returns-clause-costs : goal.returns-clause-costs
returns-clause-costs c = (reached c).costs

pub returns-clause-legal : goal.returns-clause-legal
returns-clause-legal c = (reached c).legal

pub returns-clause-range : goal.returns-clause-range
returns-clause-range c = (reached c).range

pub returns-clause-names : goal.returns-clause-names
returns-clause-names c = (reached c).names

use Rattle.std.proofs.Common.{◌≡◌, ◌≤◌, All, Some, length, subst, sym, rules}
use Rattle.ec_loads.specs.Line.{line_of}
use Rattle.ec_loads.specs.Weights.{WeightsHold}
use Rattle.ec_branch.proofs.LeafLemmas.{weights_leaf}
use Rattle.ec_branch.proofs.weighted.weighted_leaf.Goals as goal

pub returns-then-weight_bound : goal.returns-then-weight_bound
returns-then-weight_bound c =
    let h = c.args.loads.now in
    let same : c.as_slice.result.now ≡ c.in_ok-held-in-Some.held = search rules in
    let holds : WeightsHold h.loads h.slots c.args.value h.places c.in_ok-held-in-Some.held =
    subst (λ v. WeightsHold h.loads h.slots v h.places c.in_ok-held-in-Some.held) (sym c.in-Some.is)
    (subst (WeightsHold h.loads h.slots (Some c.in-Some.least) h.places) same ((c.weight_bound.ensures c.requires).0 c.if-weight_bound.true)) in
    let few : length c.in_ok-held-in-Some.held ≤ 1024 = search rules in
    let each : All (λ x. x ≤ 65535) c.in_ok-held-in-Some.held = search rules in
    λ ruled. weights_leaf (line_of ruled h) c.args.value h.places c.in_ok-held-in-Some.held holds few each

use Rattle.std.proofs.Common.{◌≡◌, ◌∙◌, filter, not, get_or}
use Rattle.ec_loads.specs.Search.{nobody, used, places_for}
use Rattle.ec_loads.specs.Strong.{strong_phases, is_below, strong_children}
use Rattle.ec_symmetry.proofs.LatestLemmas.{filter-latest}
use Rattle.ec_symmetry.proofs.strong.strong_among.Goals as goal

pub returns : goal.returns
unfolding strong_children
returns c =
    let held = c.args.loads.now in
    let ps = c.args.places.now in
    let u = c.args.unit in
    let l = get_or held.loads u nobody in
    let g = strong_phases held.loads ps l.period in
    let latest = c.args.latest in
    let phases : c.phases_of-phases.result ≡ g = c.phases_of-phases.ensures ∙ (λ i. strong_phases held.loads ps (get_or (c.loads-all.ensures.value i) u nobody).period) in
    c.choices_from.ensures
    ∙ (λ i. filter (λ p. not (is_below p latest)) (places_for (phases i) (c.slots.ensures.value i) (c.requires.used i)))
    ∙ filter-latest l held.loads ps latest (places_for g held.slots (used ps)) c.requires.latest

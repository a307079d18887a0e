use Rattle.std.proofs.Common.{◌≡◌, map, sym, subst, ◌∙◌}
use Rattle.ec_units.specs.Views.{unit_view}
use Rattle.ec_fmmu.specs.Seats.{seats_of}
use Rattle.ec_fmmu.specs.Next.{AreLight}
use Rattle.ec_fmmu.proofs.LegalLemmas.{legal-light}
use Rattle.ec_fmmu.proofs.mapping.layout.Goals as goal

pub mapping_of-requires-clause-light : goal.mapping_of-requires-clause-light
mapping_of-requires-clause-light c =
    let same : c.as_slice-3.result.now ≡ seats_of (map unit_view c.args.units.now.units) c.args.plan.now.places =
    c.as_slice-3.ensures.value ∙ c.in_ok-seats.ensures.seats ∙ (λ i. seats_of (map unit_view (c.as_slice.ensures i)) (c.as_slice-2.ensures i)) in
    subst AreLight (sym same) (legal-light c.args.units.now.units c.args.units.now.slots c.args.plan.now.places c.requires)

use Rattle.std.proofs.Common.{subst, sym, ap, ◌∙◌}
use Rattle.ec_units.specs.Load.{loads_of}
use Rattle.ec_loads.specs.Held.{no_places}
use Rattle.ec_loads.specs.Line.{line_by}
use Rattle.ec_loads.specs.Search.{IsPartialTree}
use Rattle.ec_cert.specs.IsBestPlan.{value_of}
use Rattle.ec_cert.specs.Shapes.{cert_view, shape_of}
use Rattle.ec_outcome.specs.Searched.{searched_by}
use Rattle.ec_workers.proofs.ResumeLemmas.{goes-on}
use Rattle.ec_workers.proofs.crewed.resume_by_crew.Goals as goal

pub resume-requires-clause-tree : goal.resume-requires-clause-tree
resume-requires-clause-tree g c =
    let us = c.args.units.now in
    let cert = c.args.cert in
    subst (λ r. IsPartialTree (line_by r (loads_of us.units) us.slots) (value_of cert.best) (shape_of cert.tree) (no_places (loads_of us.units)) cert.order)
    (sym (c.rules_by.ensures ∙ ap searched_by c.is_strong-strong.ensures)) (goes-on us.units us.slots (cert_view cert) c.requires.cert)

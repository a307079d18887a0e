use Rattle.std.proofs.Common.{Some, subst, sym}
use Rattle.ec_loads.specs.Search.{IsAtMost}
use Rattle.ec_cert.specs.IsBestPlan.{value_of}
use Rattle.ec_cert.specs.Shapes.{shape_of}
use Rattle.ec_workers.proofs.KeptLemmas.{no_dearer}
use Rattle.ec_workers.proofs.keeping.solve_kept.Goals as goal

pub returns-clause-kept : goal.returns-clause-kept
returns-clause-kept g c =
    let cert = c.in_ok-cert.cert in
    let us = c.args.units.now in
    no_dearer c.solve_from.result us.units us.slots (shape_of cert.tree) (value_of cert.best) c.args.nodes
    (λ ps b own legal at. subst (λ w. IsAtMost (value_of w) (Some b)) (sym c.in_ok-cert.ensures.best) (c.in_ok-best.ensures.value ps b own legal at))
    c.solve_from.ensures.beyond

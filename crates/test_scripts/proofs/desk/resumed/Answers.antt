use Rattle.std.proofs.Common.{◌≡◌, ◌≤◌, ℕ, nat_lt, Bool, true, false, refl, subst, arith}
use Rattle.std.proofs.lemmas.Bool.{ltb-true}
use Rattle.ec_units.specs.Load.{loads_of}
use Rattle.ec_loads.specs.Held.{no_places}
use Rattle.ec_loads.specs.Line.{line_by}
use Rattle.ec_loads.specs.Search.{IsPartialTree}
use Rattle.ec_cert.specs.IsBestPlan.{value_of}
use Rattle.ec_cert.specs.Shapes.{cert_view, shape_of}
use Rattle.ec_outcome.specs.Searched.{searched_by}
use Rattle.ec_workers.proofs.ResumeLemmas.{goes-on}
use Rattle.test_scripts.proofs.desk.resumed.Goals as goal

not_strong : (version : ℕ) → version ≤ 3 → (b : Bool) → nat_lt 3 version ≡ b → b ≡ false
not_strong version few true is = absurd (omega (arith, few, ltb-true 3 version is))
not_strong version few false is = refl

pub resume-requires-clause-tree : goal.resume-requires-clause-tree
resume-requires-clause-tree c =
    let us = c.args.units.now in
    let cert = c.args.cert in
    let is = not_strong cert.version c.requires.version (nat_lt 3 cert.version) refl in
    subst (λ b. IsPartialTree (line_by (searched_by b) (loads_of us.units) us.slots) (value_of cert.best) (shape_of cert.tree) (no_places (loads_of us.units)) cert.order)
    is (goes-on us.units us.slots (cert_view cert) c.requires.partial)

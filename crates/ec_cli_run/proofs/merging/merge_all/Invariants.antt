use Rattle.std.proofs.Common.{◌≡◌}
use Rattle.ec_units.specs.Load.{loads_of}
use Rattle.ec_loads.specs.Held.{no_places}
use Rattle.ec_cert.specs.Shapes.{cert_view}
use Rattle.ec_cert_merge.specs.Certs.{IsProven}
use Rattle.ec_cli_run.proofs.merging.merge_all.Given as goal

abbrev pub invariant-loop-at : goal.invariant-loop-at
invariant-loop-at g l =
    (l.loads ≡ record { loads = loads_of l.fn.units.units; slots = l.fn.units.slots; places = no_places (loads_of l.fn.units.units) })
    × (l.loads ≡ l.fn.loads)
    × IsProven l.fn.units.units l.fn.units.slots (cert_view l.merged)

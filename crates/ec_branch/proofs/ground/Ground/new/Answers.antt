use Rattle.ec_units.specs.Load.{loads_of}
use Rattle.ec_bounds.proofs.HeldLemmas.{empty_rest}
use Rattle.ec_branch.proofs.ground.Ground.new.Goals as goal

pub invariant_of-result : goal.invariant_of-result
invariant_of-result c = record { left = empty_rest (loads_of c.args.units.now.units) c.args.units.now.slots c.in_ok-new.field-0 c.all.result c.in_ok-new.ensures c.all.ensures }

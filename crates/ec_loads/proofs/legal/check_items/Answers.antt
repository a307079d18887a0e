use Rattle.ec_loads.proofs.TestLemmas.{pass_phases, pass_slots}
use Rattle.ec_loads.proofs.legal.check_items.Goals as goal

pub returns-in-None-clause-ok : goal.returns-in-None-clause-ok
returns-in-None-clause-ok c =
    record {
      phases = pass_phases c.args.items.now c.in_default.ensures;
      slots = pass_slots c.args.slots c.args.items.now c.in_default-first_outside.ensures;
      fits = c.in-None.ensures;
    }

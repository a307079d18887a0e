use Rattle.std.proofs.Common.{sym, ◌∙◌, refl, arith}
use Rattle.ec_slave.proofs.IdleLemmas.{idle_frame}
use Rattle.ec_slave.proofs.StepLemmas.{extent_fits}
use Rattle.ec_slave.proofs.idle.leaves.Goals as goal

pub are_idle-requires-clause-short : goal.are_idle-requires-clause-short
are_idle-requires-clause-short c = omega (arith, c.requires.short, extent_fits c.args.frame.now c.in-Ok.parsed ((c.in-Ok.ensures.ok c.in-Ok.parsed).0 refl))

pub returns-in-Ok : goal.returns-in-Ok
returns-in-Ok c = λ idle. idle_frame c.args.memory.now c.args.frame.now c.in-Ok.parsed ((c.in-Ok.ensures.ok c.in-Ok.parsed).0 refl) (sym c.are_idle.ensures ∙ idle)

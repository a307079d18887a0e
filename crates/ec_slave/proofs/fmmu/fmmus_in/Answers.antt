use Rattle.ec_slave.specs.Fmmus.{fmmus_in}
use Rattle.ec_slave.proofs.fmmu.fmmus_in.Goals as goal

pub returns : goal.returns
unfolding fmmus_in
returns c = λ i. record { first = c.fmmu_at.ensures i; second = c.fmmu_at-2.ensures i }

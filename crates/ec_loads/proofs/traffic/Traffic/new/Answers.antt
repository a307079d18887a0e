use Rattle.std.proofs.Common.{◌*◌, refl}
use Rattle.ec_loads.proofs.TrafficLemmas.{holds-none}
use Rattle.ec_loads.proofs.traffic.Traffic.new.Goals as goal

pub returns-clause-empty : goal.returns-clause-empty
returns-clause-empty c = λ n. holds-none n c.args.ticks 29280 (c.args.ticks * 8) _ _ _ _ (c.in_ok-no_counts.ensures) (c.in_ok-zeros.ensures) (c.in_ok-zeros-2.ensures) (c.in_ok-zeros-3.ensures) refl refl

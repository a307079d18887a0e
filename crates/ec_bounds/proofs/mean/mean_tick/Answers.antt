use Rattle.std.proofs.Common.{◌≡◌, ◌<◌, ◌≤◌, refl, subst, ◌∙◌, arith}
use Rattle.ec_hyper.specs.Lcm.{lcm_of}
use Rattle.ec_units.specs.Load.{loads_of, periods_of}
use Rattle.ec_loads.specs.Held.{no_places}
use Rattle.ec_loads.specs.Search.{demand}
use Rattle.ec_loads.proofs.ItemLemmas.{AreLoads-loads_of}
use Rattle.ec_bounds.specs.Left.{demand_of}
use Rattle.ec_bounds.proofs.MeanLemmas.{rounded-up, demand-all, mean-bounds, mean-none}
use Rattle.ec_bounds.proofs.mean.mean_tick.Goals as goal

pub returns-clause-mean : goal.returns-clause-mean
returns-clause-mean c =
    let loads = loads_of c.args.units.now.units in
    let h = lcm_of (periods_of loads) in
    let sent : c.demand.result ≡ demand loads (no_places loads) h =
    c.demand.ensures.value ∙ (λ i. demand_of (c.all-rest.ensures i).loads (c.all-rest.ensures i).unplaced (lcm_of (periods_of (c.all-rest.ensures i).loads))) ∙ demand-all loads h in
    let ticks : c.from-ticks.result ≡ h = c.from-ticks.ensures ∙ c.ticks.ensures.value ∙ c.hyper.ensures.value in
    let some : 0 < h = subst (λ w. 1 ≤ w) c.hyper.ensures.value c.hyper.ensures.range.0 in
    record {
      bytes = rounded-up c.demand.result c.from-ticks.result c.div_ceil-bytes.result h (demand loads (no_places loads) h) sent ticks some c.div_ceil-bytes.ensures;
      frames = rounded-up c.div_ceil-bytes.result 1486 c.div_ceil-frames.result 1486 c.div_ceil-bytes.result refl refl (omega arith) c.div_ceil-frames.ensures;
      cost = refl;
    }

pub returns-clause-bound : goal.returns-clause-bound
returns-clause-bound c = mean-bounds (loads_of c.args.units.now.units) c.args.units.now.slots _ (AreLoads-loads_of c.args.units.now.units) (returns-clause-mean c)

pub returns-clause-none : goal.returns-clause-none
returns-clause-none c = mean-none (loads_of c.args.units.now.units) c.args.units.now.slots _ (AreLoads-loads_of c.args.units.now.units) (returns-clause-mean c)

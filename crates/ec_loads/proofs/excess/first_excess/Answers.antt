use Rattle.std.proofs.Common.{◌+◌, ◌*◌, ◌<◌, ◌≤◌, length, slice_index, ◌∙◌, arith, subst, min, Some, None}
use Rattle.std.proofs.Math.Nat.{add-mod_right}
use Rattle.ec_loads.specs.Excess.{cell_at, IsFirstRaised}
use Rattle.ec_loads.proofs.CellLemmas.{cell_cost-le}
use Rattle.ec_loads.proofs.ExcessLemmas.{next_tick, raised_step, raised_end}
use Rattle.ec_loads.proofs.excess.first_excess.Goals as goal

pub overflow_add-cost : goal.overflow_add-cost
overflow_add-cost c =
    let at = c.loop-tick.tick * 8 + c.args.change.slot in
    let b = cell_cost-le (slice_index c.args.cells.now at + c.args.change.bytes) in
    let low = c.requires.low c.loop-tick.tick (omega arith) in
    let cheap = c.requires.cheap c.loop-tick.tick (omega arith) in
    omega (arith, b, low, cheap, c.requires.bytes, c.cost_of.ensures, c.cost_of-in-loop-tick.ensures)

pub loop-tick-preserved : goal.loop-tick-preserved
loop-tick-preserved c =
    let k = c.loop-tick.tick in
    let p = c.args.change.period in
    let f = c.args.change.phase in
    let s = c.args.change.slot in
    let b = c.args.change.bytes in
    let cells = c.args.cells.now in
    let costs = c.args.costs.now in
    let inv = c.loop-tick.invariant in
    let below : k < length costs = omega arith in
    let within = c.requires.within k below in
    record {
      turn = add-mod_right k p ∙ inv.turn;
      small = omega (arith, below, c.requires.period);
      fits = next_tick (λ i. cell_at cells s i + b ≤ 1498) p f k (length costs) inv.turn inv.fits (omega arith);
      found = raised_step cells costs (length costs) p f s b c.args.value k _ c.loop-tick.found c.first_of-found.result below (omega (arith, c.requires.phase)) inv.turn inv.found
          (omega (arith, within, c.cost_of.ensures, c.cost_of-in-loop-tick.ensures)) c.first_of-found.ensures.kept c.first_of-found.ensures.reached c.first_of-found.ensures.below;
    }

pub returns-in-Some : goal.returns-in-Some
returns-in-Some c =
    let k = c.args.change in
    let inv = c.loop-tick.invariant in
    let h = length c.args.costs.now in
    let found = subst (IsFirstRaised c.args.cells.now c.args.costs.now (min c.loop-tick.tick h) k.period k.phase k.slot k.bytes c.args.value) c.in-Some.is inv.found in
    raised_end c.args.cells.now c.args.costs.now h k.period k.phase k.slot k.bytes c.args.value c.loop-tick.tick (Some c.in-Some.tick) c.loop-tick-test.false inv.fits found

pub returns-in-None : goal.returns-in-None
returns-in-None c =
    let k = c.args.change in
    let inv = c.loop-tick.invariant in
    let h = length c.args.costs.now in
    let found = subst (IsFirstRaised c.args.cells.now c.args.costs.now (min c.loop-tick.tick h) k.period k.phase k.slot k.bytes c.args.value) c.in-None.is inv.found in
    raised_end c.args.cells.now c.args.costs.now h k.period k.phase k.slot k.bytes c.args.value c.loop-tick.tick None c.loop-tick-test.false inv.fits found

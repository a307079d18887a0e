use Rattle.std.proofs.Common.{◌≡◌, ℕ, ◌-◌, ◌%◌, ◌<◌, ◌≤◌}
use Rattle.ec_loads.specs.Cost.{items, raw_cost}
use Rattle.ec_loads.specs.Rooms.{top}
use Rattle.ec_bounds.proofs.tops.top.Given as goal

abbrev pub invariant-loop-tick : goal.invariant-loop-tick
invariant-loop-tick l =
    record {
      turn : l.tick % l.period ≡ l.phase;
      low : 40 ≤ l.most;
      each : (i : ℕ) → i < l.ticks → i < l.tick → i % l.period ≡ l.phase → raw_cost (items l.loads.loads l.loads.places) l.loads.slots i ≤ l.most;
      met : l.most ≤ top (items l.loads.loads l.loads.places) l.loads.slots l.ticks l.period l.phase;
      bound : l.most ≤ 575552;
    }

abbrev pub decreases-loop-tick : goal.decreases-loop-tick
decreases-loop-tick l = l.ticks - l.tick

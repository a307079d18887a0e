use Rattle.std.proofs.Common.{length, ◌-◌, ◌≡◌, ℕ, ◌+◌, ◌%◌, ◌<◌, ◌≤◌, min}
use Rattle.ec_loads.specs.Excess.{cell_at, IsFirstRaised}
use Rattle.ec_loads.proofs.excess.first_excess.Given as goal

abbrev pub invariant-loop-tick : goal.invariant-loop-tick
invariant-loop-tick l =
    record {
      turn : l.tick % l.period ≡ l.phase;
      small : l.tick ≤ length l.costs + 60;
      fits : (i : ℕ) → i < length l.costs → i < l.tick → i % l.period ≡ l.phase → cell_at l.cells l.slot i + l.bytes ≤ 1498;
      found : IsFirstRaised l.cells l.costs (min l.tick (length l.costs)) l.period l.phase l.slot l.bytes l.value l.found;
    }

abbrev pub decreases-loop-tick : goal.decreases-loop-tick
decreases-loop-tick l = length l.costs - l.tick

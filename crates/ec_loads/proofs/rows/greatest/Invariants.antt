use Rattle.std.proofs.Common.{◌≡◌, ℕ, ◌<◌, ◌≤◌, slice_index}
use Rattle.ec_loads.proofs.rows.greatest.Given as goal

abbrev pub invariant-loop-tick : goal.invariant-loop-tick
invariant-loop-tick l =
    record {
      reached : slice_index l.costs l.at ≡ l.most;
      most : (t : ℕ) → t < l.tick → slice_index l.costs t ≤ l.most;
      first : (t : ℕ) → t < l.at → slice_index l.costs t < l.most;
      below : l.at < l.tick;
    }

use Rattle.std.proofs.Common.{ℕ, ◌+◌, ◌*◌, ◌<◌, ◌≤◌, slice_index}
use Rattle.ec_loads.proofs.rows.first_full_cell.Given as goal

abbrev pub invariant-loop-tick : goal.invariant-loop-tick
invariant-loop-tick l = (t s : ℕ) → t < l.tick → s < l.slots → slice_index l.cells (t * 8 + s) ≤ 1498

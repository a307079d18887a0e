use Rattle.std.proofs.Common.{◌≡◌, ◌≤◌, vec_len, vec_capacity}
use Rattle.ec_search_threads.proofs.threads.fn.work_all.scope.Given as goal

abbrev pub invariant-loop-slot : goal.invariant-loop-slot
invariant-loop-slot g l = (vec_len l.handles ≤ l.slot-index) × (vec_capacity l.handles ≡ vec_capacity l.initial.handles)

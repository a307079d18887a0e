use Rattle.std.proofs.Common.{◌≡◌, map, []}
use Rattle.rtrb.specs.Ring.{received}
use Rattle.ec_player_threads.specs.Threads.{Linked}
use Rattle.ec_player_threads.proofs.line.start_all.Given as goal

abbrev pub invariant-loop-slave : goal.invariant-loop-slave
invariant-loop-slave g l =
    Linked l.fn.first.end (map (λ h. h.promise) l.handles.items) l.taken.end × (map (λ h. h.promise.slave.value) l.handles.items ≡ l.yielded) × (received l.taken ≡ [])

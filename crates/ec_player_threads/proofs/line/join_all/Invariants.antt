use Rattle.std.proofs.Common.{◌≡◌, ◌++◌, map}
use Rattle.std.specs.Vec.Iter.{into_iter_items}
use Rattle.rtrb.specs.Ring.{all_sent}
use Rattle.ec_slave.specs.Journey.{line_outs, line_finals}
use Rattle.ec_player.specs.Boxes.{bytes_in}
use Rattle.ec_player_threads.specs.Threads.{Linked}
use Rattle.ec_player_threads.proofs.line.join_all.Given as goal

abbrev pub invariant-loop-handle : goal.invariant-loop-handle
invariant-loop-handle g l =
    let out = g.X.Pass.out in
    let next = g.X.Pass.next in
    let rest = into_iter_items l.handle-iterator in
    Linked l.finished.end (map (λ h. h.promise) rest) l.last.end
    × (l.last ≡ l.fn.last)
    × (line_outs out next (map (λ h. h.promise.slave.value) rest) (bytes_in (all_sent l.finished)) ≡ line_outs out next (map (λ h. h.promise.slave.value) l.fn.handles.items) (bytes_in (all_sent l.fn.first)))
    × (l.slaves.items ++ line_finals out next (map (λ h. h.promise.slave.value) rest) (bytes_in (all_sent l.finished)) ≡ line_finals out next (map (λ h. h.promise.slave.value) l.fn.handles.items) (bytes_in (all_sent l.fn.first)))

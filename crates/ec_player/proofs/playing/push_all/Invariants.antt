use Rattle.std.proofs.Common.{◌≡◌, ◌++◌, map, length}
use Rattle.ec_player.proofs.playing.push_all.Given as goal

abbrev pub invariant-datagrams : goal.invariant-datagrams
invariant-datagrams l = l.counters.items ++ map (λ d. d.counter) l.views ≡ l.initial.counters.items ++ map (λ d. d.counter) l.parsed

abbrev pub decreases-datagrams : goal.decreases-datagrams
decreases-datagrams l = length l.views

use Rattle.std.proofs.Common.{◌≡◌, drop, map}
use Rattle.ec_player.specs.Faults.{first_wrong}
use Rattle.ec_player.proofs.judging.first_wrong.Given as goal

abbrev pub invariant-loop-datagram : goal.invariant-loop-datagram
invariant-loop-datagram l =
    first_wrong l.datagram (drop l.datagram l.wants) (map (λ d. d.counter) l.views)
    ≡ first_wrong 0 l.wants (map (λ d. d.counter) l.parsed)

use Rattle.std.proofs.Common.{map, drop, sym, ap, ◌∙◌}
use Rattle.ec_player.specs.Faults.{first_wrong}
use Rattle.ec_player.proofs.ReplyLemmas.{first_wrong-none}
use Rattle.ec_player.proofs.judging.first_wrong.Goals as goal

pub returns-in-None : goal.returns-in-None
returns-in-None c =
    let left = drop c.loop-datagram.datagram c.args.wants.now in
    sym (first_wrong-none c.loop-datagram.datagram left)
    ∙ ap (λ v. first_wrong c.loop-datagram.datagram left (map (λ d. d.counter) v)) (sym c.in-None.ensures.steps.0)
    ∙ c.loop-datagram.invariant

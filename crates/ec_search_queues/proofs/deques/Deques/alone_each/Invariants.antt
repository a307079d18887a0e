use Rattle.std.proofs.Common.{◌≡◌, vec_len, All}
use Rattle.ec_search_queues.specs.Hands.{IsAlone}
use Rattle.ec_search_queues.proofs.deques.Deques.alone_each.Given as goal

abbrev pub invariant-loop-i : goal.invariant-loop-i
invariant-loop-i l = (vec_len l.all ≡ l._i) × All IsAlone l.all.items

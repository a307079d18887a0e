use Rattle.std.proofs.Common.{◌≡◌, ◌+◌, vec_len, All}
use Rattle.ec_search_queues.specs.Hands.{IsFresh}
use Rattle.ec_search_queues.proofs.deques.Deques.add_thieves.Given as goal

abbrev pub invariant-loop-one : goal.invariant-loop-one
invariant-loop-one l = (vec_len l.others ≡ vec_len l.initial.others + l.one-index) × All IsFresh l.others.items

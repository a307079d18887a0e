use Rattle.std.proofs.Common.{arith, ◌∙◌}
use Rattle.ec_search_queues.proofs.Taking.{joined}
use Rattle.ec_search_queues.proofs.Counting.{takes}
use Rattle.ec_search_queues.proofs.deques.Deques.next.Goals as goal

pub pop_as-requires-clause-fifo : goal.pop_as-requires-clause-fifo
pop_as-requires-clause-fifo c = λ _. takes _ _ 1

pub pop_as-requires-clause-lifo : goal.pop_as-requires-clause-lifo
pop_as-requires-clause-lifo c = λ lifo. let h = c.args.self.now.fifo in absurd (omega arith)

pub returns : goal.returns
returns c = joined c.steal.result _ _ _ _ (c.steal.ensures.own ∙ c.in_default.ensures.rule.0) c.steal.ensures.taken

use Rattle.std.proofs.Common.{rules}
use Rattle.ec_search_queues.proofs.Falling.{begins, splits}
use Rattle.ec_search_queues.proofs.bound.Bound.new.Goals as goal

pub of_words-requires : goal.of_words-requires
of_words-requires c = begins

pub split_seat-another-requires : goal.split_seat-another-requires
split_seat-another-requires c = (c.loop-number.invariant.0, search rules, splits _ _)

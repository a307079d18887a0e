use Rattle.ec_branch.proofs.RoomLeafLemmas.{count_leaf}
use Rattle.ec_branch.proofs.strong_leaf.sized_leaf.Goals as goal

pub returns-then-count_bound_at : goal.returns-then-count_bound_at
returns-then-count_bound_at c =
    count_leaf c.args.loads.now c.args.value c.period_in-period.result c.bytes_in-bytes.result (c.count_bound_at.ensures.holds c.requires.left c.if-count_bound_at.true)
    c.period_in-period.ensures.least c.period_in-period.ensures.most c.bytes_in-bytes.ensures.least c.bytes_in-bytes.ensures.most

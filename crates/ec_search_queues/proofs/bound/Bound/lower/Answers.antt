use Rattle.std.proofs.Common.{rules, ap, sym, ◌∙◌}
use Rattle.ec_search_queues.specs.Lowest.{ReaderView}
use Rattle.ec_search_queues.proofs.Falling.{lowers}
use Rattle.ec_search_queues.proofs.bound.Bound.lower.Goals as goal

pub fetch_min-requires : goal.fetch_min-requires
fetch_min-requires c = (ap (λ (r : ReaderView). r.bound) c.reader.view_is ∙ c.requires.ours ∙ sym c.self.view_is, search rules, lowers _ _ _ _)

pub returns : goal.returns
returns c = search rules

use Rattle.std.proofs.Common.{rules, ap, sym, ◌∙◌}
use Rattle.ec_search_queues.specs.Lowest.{ReaderView}
use Rattle.ec_search_queues.proofs.Falling.{sees}
use Rattle.ec_search_queues.proofs.bound.Bound.read.Goals as goal

pub load-requires : goal.load-requires
load-requires c = (ap (λ (r : ReaderView). r.bound) c.reader.view_is ∙ c.requires ∙ sym c.self.view_is, search rules, sees _ _ _)

pub returns : goal.returns
returns c = search rules

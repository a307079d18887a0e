use Rattle.ec_fmmu.proofs.RankLemmas.{order_is, within_is, no_gap, apart_is}
use Rattle.ec_fmmu.proofs.law.law_addresses_in_order.Goals as goal

pub returns-clause-order : goal.returns-clause-order
returns-clause-order c = order_is

pub returns-clause-within : goal.returns-clause-within
returns-clause-within c = within_is

pub returns-clause-whole : goal.returns-clause-whole
returns-clause-whole c = no_gap

pub returns-clause-apart : goal.returns-clause-apart
returns-clause-apart c = apart_is

use Rattle.ec_unit_text.proofs.OrderLaws.{faults_ordered, first_least}
use Rattle.ec_unit_text.proofs.law.law_faults_in_order.Goals as goal

pub returns-clause-order : goal.returns-clause-order
returns-clause-order c = faults_ordered

pub returns-clause-least : goal.returns-clause-least
returns-clause-least c = first_least

use Rattle.ec_frame_laws.proofs.WireLemmas.{lines-cost, file-cost, row-cost}
use Rattle.ec_frame_laws.proofs.texts.law_wire_is_cost.Goals as goal

pub returns-clause-lines : goal.returns-clause-lines
returns-clause-lines c = lines-cost

pub returns-clause-file : goal.returns-clause-file
returns-clause-file c = file-cost

pub returns-clause-play : goal.returns-clause-play
returns-clause-play c = row-cost

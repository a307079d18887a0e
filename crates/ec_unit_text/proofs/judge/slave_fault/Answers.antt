use Rattle.std.proofs.Common.{rules}
use Rattle.ec_unit_text.proofs.judge.slave_fault.Goals as goal

pub returns-after-has_station_in : goal.returns-after-has_station_in
returns-after-has_station_in c = search rules

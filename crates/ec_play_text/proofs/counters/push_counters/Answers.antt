use Rattle.std.proofs.Common.{rules}
use Rattle.ec_play_text.proofs.counters.push_counters.Goals as goal

pub returns-in-None : goal.returns-in-None
returns-in-None c = search rules

use Rattle.std.proofs.Common.{rules}
use Rattle.ec_cli_run.proofs.reporting.write_report.Goals as goal

pub returns-in-None : goal.returns-in-None
returns-in-None g c = search rules

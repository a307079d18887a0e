use Rattle.std.proofs.Common.{rules}
use Rattle.ec_search_threads.proofs.threads.worse.Goals as goal

pub returns-in-Refused-default-clause-refused : goal.returns-in-Refused-default-clause-refused
returns-in-Refused-default-clause-refused c = search rules

pub returns-in-Refused-default-2-clause-refused : goal.returns-in-Refused-default-2-clause-refused
returns-in-Refused-default-2-clause-refused c = search rules

pub returns-in-Refused-default-3-clause-refused : goal.returns-in-Refused-default-3-clause-refused
returns-in-Refused-default-3-clause-refused c = search rules

use Rattle.std.proofs.Common.{rules}
use Rattle.ec_text_builder.proofs.draft.Draft.finish.Goals as goal

pub returns-else-self : goal.returns-else-self
returns-else-self c = search rules

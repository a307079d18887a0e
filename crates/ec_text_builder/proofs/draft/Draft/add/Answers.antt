use Rattle.std.proofs.Common.{rules}
use Rattle.ec_text_builder.proofs.draft.Draft.add.Goals as goal

pub returns-then-self : goal.returns-then-self
returns-then-self g c = search rules

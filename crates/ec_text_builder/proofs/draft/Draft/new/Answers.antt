use Rattle.std.proofs.Common.{rules}
use Rattle.ec_text_builder.proofs.draft.Draft.new.Goals as goal

pub returns : goal.returns
returns c = search rules

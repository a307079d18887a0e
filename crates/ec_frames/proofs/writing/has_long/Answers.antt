use Rattle.std.specs.Prelude.{nat_lt}
use Rattle.std.proofs.Common.{rules, tests}
use Rattle.std.proofs.lemmas.Iterator.{YieldsList-from_slice}
use Rattle.std.proofs.lemmas.Iterator.Search.{any_from_yields_List}
use Rattle.ec_frames.specs.declared.writing.Datagram.{Datagram}
use Rattle.ec_frames.proofs.writing.has_long.Goals as goal

pub returns : goal.returns
returns c = any_from_yields_List (λ (d : Datagram). nat_lt 1486 d.len) _ _ _ c.any.ensures.ran (YieldsList-from_slice c.args.list.now cc) (λ x b q k. search (rules, tests))

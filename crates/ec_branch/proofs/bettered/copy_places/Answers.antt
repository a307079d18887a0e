use Rattle.ec_branch.proofs.WalkLemmas.{all_some}
use Rattle.ec_branch.proofs.bettered.copy_places.Goals as goal

pub unreachable-requires : goal.unreachable-requires
unreachable-requires c = all_some c.requires.whole.0 c.args.from.now c.loop-i.i c.requires.whole.1 c.loop-i-test.true c.in-None.is

use Rattle.ec_player.proofs.CopyLemmas.{copied}
use Rattle.ec_player.proofs.images.copy_range.Goals as goal

pub returns-then-from-end : goal.returns-then-from-end
returns-then-from-end c =
    λ k. copied c.args.image.now c.args.came.now c.copy_from_slice.new.self c.args.from c.min-end.result c.args.to k c.if-from-end.true c.min-end.ensures c.requires c.copy_from_slice.ensures.after

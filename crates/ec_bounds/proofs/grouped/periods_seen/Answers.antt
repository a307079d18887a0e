use Rattle.std.proofs.Common.{◌||◌, false, get_or, ap}
use Rattle.std.specs.List.{list_any}
use Rattle.std.proofs.lemmas.List.{get_or-replicate}
use Rattle.ec_loads.specs.Rooms.{has_period}
use Rattle.ec_bounds.proofs.StepLemmas.{seen_more, seen_all}
use Rattle.ec_bounds.proofs.grouped.periods_seen.Goals as goal

pub loop-i-init : goal.loop-i-init
loop-i-init c = λ p low. ap (λ w. w || list_any (has_period p) c.args.left.now) (get_or-replicate 61 p false false low)

pub loop-i-preserved : goal.loop-i-preserved
loop-i-preserved c =
    λ p low.
    seen_more c.args.left.now p c.loop-i.i _ (get_or c.loop-i.seen p false) (get_or c.note_period.new.seen p false) c.loop-i-test.true (c.note_period.ensures p low) (c.loop-i.invariant p low)

pub returns : goal.returns
returns c = λ p low. seen_all c.args.left.now p c.loop-i.i (get_or c.loop-i.seen p false) c.loop-i-test.false (c.loop-i.invariant p low)

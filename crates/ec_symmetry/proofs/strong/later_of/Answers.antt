use Rattle.std.proofs.Common.{sym}
use Rattle.ec_symmetry.proofs.LatestLemmas.{later-other, later-same, later-new}
use Rattle.ec_symmetry.proofs.strong.later_of.Goals as goal

pub returns-then-not-is_equal : goal.returns-then-not-is_equal
returns-then-not-is_equal c =
    rw c.in-Some.is (later-other c.args.load c.args.other c.args.latest c.in-Some.place (sym c.if-not-is_equal.ensures))

pub returns-then-not-is_lower : goal.returns-then-not-is_lower
returns-then-not-is_lower c =
    rw c.in-Some.is (later-same c.args.load c.args.other c.args.latest c.in-Some.place (sym c.if-not-is_equal.ensures) (sym c.if-not-is_lower.ensures))

pub returns : goal.returns
returns c =
    rw c.in-Some.is (later-new c.args.load c.args.other c.args.latest c.in-Some.place (sym c.if-not-is_equal.ensures) (sym c.if-not-is_lower.ensures))

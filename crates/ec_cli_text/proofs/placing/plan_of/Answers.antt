use Rattle.std.proofs.Common.{◌≡◌, inl, inr, refl, Some}
use Rattle.ec_cli_text.proofs.PlaceLemmas.{unplaced-here, unplaced_from}
use Rattle.ec_cli_text.proofs.placing.plan_of.Goals as goal

pub returns-in-None-clause-err : goal.returns-in-None-clause-err
returns-in-None-clause-err c =
    let here : unplaced_from 0 c.as_slice-all.result.now ≡ Some c.loop-i.i =
    unplaced-here c.as_slice-all.result.now c.loop-i.i c.index-all-i.result c.loop-i-test.true c.index-all-i.is c.in-None.is c.loop-i.invariant.unplaced in
    inr (inl (c.loop-i.i, (rw (c.as_slice-all.ensures) at here), refl))

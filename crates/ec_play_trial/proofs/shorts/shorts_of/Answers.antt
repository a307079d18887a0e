use Rattle.std.proofs.Common.{Vec, Global, ap, ◌∙◌, rules}
use Rattle.ec_player.specs.declared.faults.Wrong.{Wrong}
use Rattle.ec_play_trial.specs.Shorts.{differ, wrong_at}
use Rattle.ec_play_trial.proofs.TrialLemmas.{wrongs_yes, wrongs_no}
use Rattle.ec_play_trial.proofs.shorts.shorts_of.Goals as goal
use Rattle.ec_play_trial.proofs.shorts.shorts_of.Goals.{then-want-got+in_ok-push, else-want-got}

pub loop-datagram-preserved : goal.loop-datagram-preserved
loop-datagram-preserved c =
    let make = wrong_at c.args.wants.now c.args.gots.now in
    let p = differ c.args.wants.now c.args.gots.now in
    elim c.if-want-got.branch [
      | then-want-got+in_ok-push w ↦
          ap (λ (v : Vec Wrong Global). v.items) w.shorts-is
          ∙ (w.in_ok-push.ensures.items ∙ wrongs_yes make p c.loop-datagram.shorts.items _ c.loop-datagram.datagram (search rules) (search rules) c.loop-datagram.invariant)
      | else-want-got w ↦
          ap (λ (v : Vec Wrong Global). v.items) w.shorts-is
          ∙ wrongs_no make p c.loop-datagram.shorts.items c.loop-datagram.datagram (search rules) c.loop-datagram.invariant
    ]

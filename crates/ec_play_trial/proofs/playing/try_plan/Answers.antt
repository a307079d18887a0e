use Rattle.std.proofs.Common.{◌≡◌, ap, ◌∙◌, rules}
use Rattle.ec_hyper.specs.Lcm.{lcm_of}
use Rattle.ec_units.specs.Load.{loads_of, periods_of}
use Rattle.ec_frame_text.specs.Lines.{zeros}
use Rattle.ec_slave.specs.Step.{frame_after, memory_after}
use Rattle.ec_player.specs.Sent.{start_sents}
use Rattle.ec_player.specs.Lines.{slaves_after}
use Rattle.ec_play_text.specs.Plays.{new_slaves}
use Rattle.ec_play_trial.specs.Members.{members}
use Rattle.ec_play_trial.specs.Trials.{ticks_of, stations_at}
use Rattle.ec_play_trial.proofs.TrialLemmas.{written_back}
use Rattle.ec_play_trial.proofs.playing.try_plan.Goals as goal

pub returns-clause-ticks : goal.returns-clause-ticks
returns-clause-ticks c =
    let us = c.args.units.now in
    let m = c.args.mapping.now in
    let image : c.as_slice-3.result.now ≡ zeros m = c.as_slice-3.ensures.value ∙ c.in_ok-image.ensures in
    let ticks : c.ticks-ticks.result ≡ lcm_of (periods_of (loads_of us.units)) = c.ticks-ticks.ensures.value ∙ c.hyper.ensures.value in
    let stations : c.as_slice-2.result.now ≡ stations_at us = search rules in
    let slaves : c.try_start.new.slaves ≡ slaves_after frame_after memory_after (new_slaves (stations_at us)) (start_sents us m) = search rules in
    let line : c.as_mut_slice-2.result.now ≡ members c.args.lost.now c.as_slice-2.result.now c.try_start.new.slaves = c.as_mut_slice-2.ensures.value ∙ (c.in_ok-line.ensures ∙ ap (members c.args.lost.now c.as_slice-2.result.now)
    (written_back frame_after memory_after c.in_ok-slaves.slaves.len c.try_start.new.slaves c.as_mut_slice.result.now c.in_ok-slaves.slaves.items (start_sents us m) c.in_ok-start.ensures.slaves c.as_mut_slice.ensures.value c.in_ok-slaves.slaves.ok.0)) in
    c.in_ok-tried.ensures.ticks
    ∙ (λ i. ticks_of us m (image i) ((line ∙ (λ j. members c.args.lost.now (stations j) (slaves j))) i) (ticks i))

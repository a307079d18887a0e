use Rattle.std.proofs.Common.{◌≡◌, ℕ, ◌+◌, length, sym, ap, ◌∙◌, arith}
use Rattle.arrayvec.specs.ArrayVec.{ArrayVec}
use Rattle.ec_player.specs.declared.trips.Trip.{Trip}
use Rattle.ec_player.specs.Trips.{sent_in}
use Rattle.ec_play_trial.specs.Captures.{passing}
use Rattle.ec_play_trial.proofs.TrialLemmas.{pairs_more, time_step}
use Rattle.ec_play_trial.proofs.capture.push_round.Goals as goal

pub loop-i-preserved : goal.loop-i-preserved
loop-i-preserved c =
    let trips = c.args.trips.now in
    let i = c.loop-i.i in
    let trip = c.index-trips-i.result in
    let inv = c.loop-i.invariant in
    let items = λ (frame : ArrayVec ℕ). frame.items in
    let same : c.as_slice-sent.result.now ≡ trip.frame.value.items =
    c.as_slice-sent.ensures.value ∙ ap items c.deref.ensures ∙ sym (ap (λ (t : Trip). t.frame.value.items) c.index-trips-i.is) in
    let bytes = ap length same in
    let took : c.passing_ns-ns.result ≡ passing (sent_in trip) = omega (arith, c.passing_ns-ns.ensures, bytes) in
    let rest = time_step trips i trip c.loop-i-test.true in
    let here = ap (λ (t : Trip). passing (sent_in t)) c.index-trips-i.is in
    record {
      most = omega (arith, inv.most, c.passing_ns-ns.ensures, c.as_slice-sent.ensures.fits);
      after = omega (arith, inv.after, rest, here, took);
      records = pairs_more trips c.args.backs.now i c.loop-i.ns _ trip c.index-backs-i.result c.loop-i.file.items c.push_record.new.file.items c.push_record-in-loop-i.new.file.items _ c.as_slice-sent.result.now c.as_slice.result.now
          c.loop-i-test.true c.requires.each c.index-trips-i.is c.index-backs-i.is same (c.as_slice.ensures.value ∙ ap items c.deref-in-loop-i.ensures) (ap (λ w. c.loop-i.ns + w) took) c.in_ok-push_record.ensures c.in_ok-push_record-2.ensures inv.records;
    }

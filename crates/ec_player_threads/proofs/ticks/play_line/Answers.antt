use Rattle.std.proofs.Common.{◌≡◌, List, ◌++◌, length, map, sym, ap, ◌∙◌, subst, arith}
use Rattle.std.proofs.lemmas.List.{length-map}
use Rattle.rtrb.specs.Ring.{sent, received}
use Rattle.ec_frame_builder.specs.Within.{AreWithin}
use Rattle.ec_frame_builder.proofs.WithinLemmas.{records-within}
use Rattle.ec_player.specs.Sent.{Sent, start_sents}
use Rattle.ec_player.specs.Lines.{bytes_of}
use Rattle.ec_player.specs.Trips.{sent_in}
use Rattle.ec_player.proofs.TickLemmas.{either}
use Rattle.ec_player.specs.Boxes.{bytes_in}
use Rattle.ec_player_threads.specs.Rounds.{IsStopped}
use Rattle.ec_player_threads.proofs.RoundLemmas.{start-stopped}
use Rattle.ec_player_threads.proofs.JoinLemmas.{line-played}
use Rattle.ec_player_threads.proofs.ticks.play_line.Goals as goal

pub returns-in-Err-clause-fault : goal.returns-in-Err-clause-fault
returns-in-Err-clause-fault g c =
    let us = c.args.units.now in
    let m = c.args.mapping.now in
    let old = bytes_in (received c.args.last.now) in
    let new = bytes_in (received c.take_all.new.last) in
    let went_out = bytes_in (sent c.send_all.new.first) in
    let all : map sent_in c.as_slice.result.now ≡ start_sents us m = ap (map sent_in) c.as_slice.ensures.value ∙ c.in-Ok.ensures.sents in
    let due : map sent_in c.as_slice-2.result.now ≡ start_sents us m = ap (map sent_in) c.as_slice-2.ensures.value ∙ c.in-Ok.ensures.sents in
    let went : went_out ≡ bytes_of (start_sents us m) = c.in-Ok-send_all.ensures.sent ∙ (λ i. bytes_in (c.requires.new.0 i) ++ bytes_of (all i)) in
    either c.in-Err.ensures.fault
    (λ r. λ slaves front.
    start-stopped g.X.Pass.out g.X.Pass.next us m c.args.image.now slaves c.args.ticks went_out old new c.in-Err.fault (ap bytes_in c.requires.new.1) went
    (subst (λ (w : List Sent). IsStopped 0 w old new c.in-Err.fault) due r) front)

pub image_of-requires-clause-within : goal.image_of-requires-clause-within
image_of-requires-clause-within g c =
    let h = c.requires.layout.1 in
    subst (AreWithin (length c.args.image.now)) (sym (c.as_slice-3.ensures ∙ h.layout.fmmus))
    (records-within c.args.units.now.units c.requires.layout.0 (length c.args.image.now) c.args.units.now.unit_count.1 (c.requires.image ∙ h.layout.total))

pub returns-in-Ok-image_of-clause-played : goal.returns-in-Ok-image_of-clause-played
returns-in-Ok-image_of-clause-played g c = λ slaves k.
    let us = c.args.units.now in
    let m = c.args.mapping.now in
    let many = sym (length-map c.in-Ok.starts.items sent_in) ∙ ap length c.in-Ok.ensures.sents in
    let count : c.len-start.result ≡ length (start_sents us m) = omega (arith, c.len-start.ensures, c.in-Ok.starts.ok.0, many) in
    line-played g.X.Pass.out g.X.Pass.next us m c.args.image.now c.args.ticks slaves c.len-start.result c.in-Ok-played.played.rows.items c.as_slice-4.result.now
    c.in-Ok-played.played.came.items c.in-Ok-image_of.image.items c.as_slice-3.result.now count (c.in-Ok-played.ensures.played slaves k) c.as_slice-4.ensures.value c.as_slice-3.ensures c.in-Ok-image_of.ensures

use Rattle.std.proofs.Common.{◌≡◌, ◌+◌, [], Some, length, map, sym, ap, ◌∙◌, subst, arith}
use Rattle.std.proofs.lemmas.List.{length-map}
use Rattle.ec_frame_builder.specs.Within.{AreWithin}
use Rattle.ec_frame_builder.proofs.WithinLemmas.{records-within}
use Rattle.ec_player.specs.Sent.{start_sents, ticks_sents}
use Rattle.ec_player.specs.Faults.{first_fault}
use Rattle.ec_player.specs.Lines.{came_back, slaves_after, AreRight}
use Rattle.ec_player.specs.Rows.{rows_of}
use Rattle.ec_player.specs.Trips.{sent_in}
use Rattle.ec_player.proofs.LineLemmas.{after-append, right-append, fault-first, fault-later}
use Rattle.ec_player.proofs.TickLemmas.{rows-after, either}
use Rattle.ec_player.proofs.playing.play_line.Goals as goal

pub returns-in-Err-clause-fault : goal.returns-in-Err-clause-fault
returns-in-Err-clause-fault g c =
    let out = g.X.Pass.out in
    let next = g.X.Pass.next in
    let starts = start_sents c.args.units.now c.args.mapping.now in
    let ticks = ticks_sents c.args.units.now c.args.mapping.now c.args.image.now c.args.ticks in
    let sents : map sent_in c.as_slice.result.now ≡ starts = ap (map sent_in) c.as_slice.ensures.value ∙ c.in-Ok.ensures.sents in
    either c.in-Err.ensures.fault
    (λ h. fault-first out next c.args.slaves.now 0 starts ticks c.in-Err.fault (subst (λ w. first_fault 0 w (came_back out next c.args.slaves.now w) ≡ Some c.in-Err.fault) sents h))

pub returns-in-Err-play_ticks-clause-fault : goal.returns-in-Err-play_ticks-clause-fault
returns-in-Err-play_ticks-clause-fault g c =
    let out = g.X.Pass.out in
    let next = g.X.Pass.next in
    let starts = start_sents c.args.units.now c.args.mapping.now in
    let ticks = ticks_sents c.args.units.now c.args.mapping.now c.args.image.now c.args.ticks in
    let sents : map sent_in c.as_slice.result.now ≡ starts = ap (map sent_in) c.as_slice.ensures.value ∙ c.in-Ok.ensures.sents in
    let right = subst (AreRight out next c.args.slaves.now 0) sents c.in-Ok-travel.ensures.right in
    let many = sym (length-map c.in-Ok.trips.items sent_in) ∙ ap length c.in-Ok.ensures.sents in
    let count : c.len-start.result ≡ 0 + length starts = omega (arith, c.len-start.ensures, c.in-Ok.trips.ok.0, many) in
    let line : c.travel.new.slaves ≡ slaves_after out next c.args.slaves.now starts = c.in-Ok-travel.ensures.slaves ∙ ap (slaves_after out next c.args.slaves.now) sents in
    either c.in-Err-play_ticks.ensures.fault
    (λ h. fault-later out next c.args.slaves.now 0 starts ticks c.in-Err-play_ticks.fault right (sym (λ i. first_fault (count i) ticks (came_back out next (line i) ticks)) ∙ h))

pub image_of-requires-clause-within : goal.image_of-requires-clause-within
image_of-requires-clause-within g c =
    let h = c.requires.layout.1 in
    subst (AreWithin (length c.args.image.now)) (sym (c.as_slice-2.ensures ∙ h.layout.fmmus))
    (records-within c.args.units.now.units c.requires.layout.0 (length c.args.image.now) c.args.units.now.unit_count.1 (c.requires.image ∙ h.layout.total))

pub returns-in-Ok-image_of-clause-right : goal.returns-in-Ok-image_of-clause-right
returns-in-Ok-image_of-clause-right g c =
    let out = g.X.Pass.out in
    let next = g.X.Pass.next in
    let starts = start_sents c.args.units.now c.args.mapping.now in
    let ticks = ticks_sents c.args.units.now c.args.mapping.now c.args.image.now c.args.ticks in
    let sents : map sent_in c.as_slice.result.now ≡ starts = ap (map sent_in) c.as_slice.ensures.value ∙ c.in-Ok.ensures.sents in
    let right = subst (AreRight out next c.args.slaves.now 0) sents c.in-Ok-travel.ensures.right in
    let many = sym (length-map c.in-Ok.trips.items sent_in) ∙ ap length c.in-Ok.ensures.sents in
    let count : c.len-start.result ≡ 0 + length starts = omega (arith, c.len-start.ensures, c.in-Ok.trips.ok.0, many) in
    let line : c.travel.new.slaves ≡ slaves_after out next c.args.slaves.now starts = c.in-Ok-travel.ensures.slaves ∙ ap (slaves_after out next c.args.slaves.now) sents in
    right-append out next c.args.slaves.now 0 starts ticks right (sym (λ i. first_fault (count i) ticks (came_back out next (line i) ticks)) ∙ c.in-Ok-play_ticks.ensures.right)

pub returns-in-Ok-image_of-clause-rows : goal.returns-in-Ok-image_of-clause-rows
returns-in-Ok-image_of-clause-rows g c =
    let out = g.X.Pass.out in
    let next = g.X.Pass.next in
    let starts = start_sents c.args.units.now c.args.mapping.now in
    let sents : map sent_in c.as_slice.result.now ≡ starts = ap (map sent_in) c.as_slice.ensures.value ∙ c.in-Ok.ensures.sents in
    let line : c.travel.new.slaves ≡ slaves_after out next c.args.slaves.now starts = c.in-Ok-travel.ensures.slaves ∙ ap (slaves_after out next c.args.slaves.now) sents in
    c.in-Ok-play_ticks.ensures.rows
    ∙ ap (λ w. rows_of out next c.args.units.now c.args.mapping.now c.args.image.now w [] c.args.ticks) line
    ∙ rows-after out next c.args.units.now c.args.mapping.now c.args.image.now c.args.slaves.now starts c.args.ticks

pub returns-in-Ok-image_of-clause-line : goal.returns-in-Ok-image_of-clause-line
returns-in-Ok-image_of-clause-line g c =
    let out = g.X.Pass.out in
    let next = g.X.Pass.next in
    let starts = start_sents c.args.units.now c.args.mapping.now in
    let ticks = ticks_sents c.args.units.now c.args.mapping.now c.args.image.now c.args.ticks in
    let sents : map sent_in c.as_slice.result.now ≡ starts = ap (map sent_in) c.as_slice.ensures.value ∙ c.in-Ok.ensures.sents in
    let line : c.travel.new.slaves ≡ slaves_after out next c.args.slaves.now starts = c.in-Ok-travel.ensures.slaves ∙ ap (slaves_after out next c.args.slaves.now) sents in
    c.in-Ok-play_ticks.ensures.slaves
    ∙ ap (λ w. slaves_after out next w ticks) line
    ∙ sym (after-append out next c.args.slaves.now starts ticks)

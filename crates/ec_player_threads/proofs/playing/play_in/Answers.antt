use Rattle.std.proofs.Common.{ℕ, List, refl, ap, ◌∙◌, subst}
use Rattle.std.proofs.lemmas.List.{length-map}
use Rattle.rtrb.specs.Ring.{sent, received}
use Rattle.ec_slave.specs.Journey.{line_outs, line_finals}
use Rattle.ec_player.specs.Boxes.{Boxed, bytes_in}
use Rattle.ec_player_threads.specs.Frames.{IsFront}
use Rattle.ec_player_threads.proofs.LinkLemmas.{same_ring-back, linked-from, linked-to}
use Rattle.ec_player_threads.proofs.JoinLemmas.{all-came, joined, failed}
use Rattle.ec_player_threads.proofs.playing.play_in.Goals as goal

pub close-requires-after_bounds : goal.close-requires-after_bounds
close-requires-after_bounds g c κs within =
    let rings = c.play_line-outcome.ensures.rings in
    let first = c.play_line-outcome.new.first.end in
    let last = c.in-Ok-start_all.last.end in
    let same = same_ring-back c.in-Ok-new.first.end c.in-Ok-new.taken.end first c.in-Ok-new.ensures.pair rings.0.0 in
    linked-to first last c.play_line-outcome.new.last.end _ (linked-from c.in-Ok-new.taken.end first last _ c.in-Ok-start_all.ensures.linked same) rings.1.0

pub returns-in-Ok-outcome : goal.returns-in-Ok-outcome
returns-in-Ok-outcome g c =
    let out = g.X.Pass.out in
    let next = g.X.Pass.next in
    let us = c.args.units.now in
    let m = c.args.mapping.now in
    let image = c.args.image.now in
    let slaves = c.args.slaves.items in
    let items : Boxed → List ℕ = λ f. f.value.items in
    let came = bytes_in (received c.play_line-outcome.new.last) in
    let went = bytes_in (sent c.play_line-outcome.new.first) in
    let ours = c.in-Ok-start_all.ensures.slaves in
    let e = c.in-Ok-outcome.ensures in
    let front : IsFront came (line_outs out next slaves went) = subst (λ (ss : List g.row.X.Denot). IsFront came (line_outs out next ss went)) ours c.in-Ok-close.ensures.frames in
    let whole = all-came out next us m image c.args.ticks slaves came went front e.went (length-map (received c.play_line-outcome.new.last) items ∙ e.many) in
    record {
      answer = joined out next us m image c.args.ticks slaves _ c.in-Ok-outcome.outcome.start c.in-Ok-outcome.outcome.rows.items c.in-Ok-outcome.outcome.image.items went
          (e.played slaves whole) refl c.new-in-Ok-outcome.ensures refl (c.in-Ok-close.ensures.slaves ∙ ap (λ ss. line_finals out next ss went) ours) e.went;
    }

pub returns : goal.returns
returns g c =
    let out = g.X.Pass.out in
    let next = g.X.Pass.next in
    let slaves = c.args.slaves.items in
    let came = bytes_in (received c.play_line-outcome.new.last) in
    let went = bytes_in (sent c.play_line-outcome.new.first) in
    let front : IsFront came (line_outs out next slaves went) =
    subst (λ (ss : List g.row.X.Denot). IsFront came (line_outs out next ss went)) c.in-Ok-start_all.ensures.slaves c.in-Ok-close.ensures.frames in
    record {
      answer = failed out next c.args.units.now c.args.mapping.now c.args.image.now c.args.ticks slaves c.in-Err-outcome.fault came went c.in-Err-outcome.ensures.fault front;
    }

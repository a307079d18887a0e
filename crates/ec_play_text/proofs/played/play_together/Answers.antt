use Rattle.std.proofs.Common.{rules, length, ap, ◌∙◌}
use Rattle.ec_player_threads.specs.Plays.{IsLack}
use Rattle.ec_play_text.proofs.PlayLemmas.{as_lack, as_many, new_right, only_lacks}
use Rattle.ec_play_text.proofs.played.play_together.Goals as goal

pub play_threads-requires-clause-each : goal.play_threads-requires-clause-each
play_threads-requires-clause-each g c κs within = ap length c.in_ok-image.ensures.slaves ∙ as_many c.args.units.now.units

pub returns-then-len-le-MOST_THREADS-clause-err : goal.returns-then-len-le-MOST_THREADS-clause-err
returns-then-len-le-MOST_THREADS-clause-err g c =
    let line = c.in_ok-image in
    let right = new_right c.law_play_is_right.ensures.right c.args.units.now c.args.mapping.now c.as_slice.result.now _ line.field-0.slaves.items c.requires (c.as_slice.ensures.value ∙ line.ensures.image) line.ensures.slaves in
    only_lacks IsLack c.args.units.now c.args.mapping.now c.as_slice.result.now _ line.field-0.slaves.items c.play_threads.result right c.play_threads.ensures.answer

pub play_plain-requires-clause-each : goal.play_plain-requires-clause-each
play_plain-requires-clause-each g c = ap length c.in_ok-image.ensures.slaves ∙ as_many c.args.units.now.units

pub returns-clause-err : goal.returns-clause-err
returns-clause-err g c =
    let line = c.in_ok-image in
    let right = new_right c.law_play_is_right.ensures.right c.args.units.now c.args.mapping.now c.as_slice-2.result.now _ line.field-0.slaves.items c.requires (c.as_slice-2.ensures.value ∙ line.ensures.image) line.ensures.slaves in
    let answer = as_lack c.args.units.now c.args.mapping.now c.as_slice-2.result.now _ line.field-0.slaves.items c.play_plain.result c.play_plain.ensures.answer in
    only_lacks IsLack c.args.units.now c.args.mapping.now c.as_slice-2.result.now _ line.field-0.slaves.items c.play_plain.result right answer

pub returns-then-len-le-MOST_THREADS-clause-answer : goal.returns-then-len-le-MOST_THREADS-clause-answer
returns-then-len-le-MOST_THREADS-clause-answer g c = search rules

pub play_threads-requires-clause-few : goal.play_threads-requires-clause-few
play_threads-requires-clause-few g c = search rules

use Rattle.std.proofs.Common.{length, ap, ◌∙◌}
use Rattle.ec_player.specs.Lines.{IsMemory}
use Rattle.ec_play_text.proofs.PlayLemmas.{as_many, new_right, only_lacks}
use Rattle.ec_play_text.proofs.played.play_alone.Goals as goal

pub play_plain-requires-clause-each : goal.play_plain-requires-clause-each
play_plain-requires-clause-each c = ap length c.in_ok-image.ensures.slaves ∙ as_many c.args.units.now.units

pub returns-clause-err : goal.returns-clause-err
returns-clause-err c =
    let line = c.in_ok-image in
    let right = new_right c.law_play_is_right.ensures.right c.args.units.now c.args.mapping.now c.as_slice.result.now _ line.field-0.slaves.items c.requires (c.as_slice.ensures.value ∙ line.ensures.image) line.ensures.slaves in
    only_lacks IsMemory c.args.units.now c.args.mapping.now c.as_slice.result.now _ line.field-0.slaves.items c.play_plain.result right c.play_plain.ensures.answer

use Rattle.std.proofs.Common.{map, ap, ◌∙◌}
use Rattle.ec_player.specs.Sent.{start_sents}
use Rattle.ec_player.specs.declared.rows.TickRow.{TickRow}
use Rattle.ec_player.proofs.TickLemmas.{rows-cost}
use Rattle.ec_player.proofs.playing.play_plain.Goals as goal

pub returns-in-Ok-clause-cost : goal.returns-in-Ok-clause-cost
returns-in-Ok-clause-cost g c = λ places h.
    ap (map (λ (r : TickRow). r.bytes)) (c.new.ensures ∙ c.in-Ok.ensures.rows)
    ∙ rows-cost g.X.Pass.out g.X.Pass.next c.args.units.now c.args.mapping.now c.args.image.now _ (start_sents c.args.units.now c.args.mapping.now) places c.args.ticks h c.requires.image

use Rattle.std.proofs.Common.{◌∙◌}
use Rattle.ec_play_text.proofs.PlayLemmas.{told}
use Rattle.ec_play_text.proofs.played.played_together.Goals as goal

pub returns-clause-ok : goal.returns-clause-ok
returns-clause-ok g c =
    let p = c.in_ok-played.ensures.answer in
    c.in_ok-play_text.ensures ∙ told c.args.units.now c.args.mapping.now _ _ p.starts p.rows

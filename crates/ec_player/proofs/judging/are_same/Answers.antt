use Rattle.std.proofs.Common.{◌-◌, take, drop}
use Rattle.std.proofs.lemmas.Bool.Decides.{Decides-eqb}
use Rattle.std.proofs.lemmas.Slice.Eq.{slice_eq-Decides}
use Rattle.ec_player.proofs.ReplyLemmas.{piece-each, each-piece}
use Rattle.ec_player.proofs.judging.are_same.Goals as goal

pub returns-else-end-from : goal.returns-else-end-from
returns-else-end-from c =
    let sent = c.args.sent.now in
    let back = c.args.back.now in
    let from = c.args.from in
    let end = c.min-end.result in
    let decides = slice_eq-Decides Decides-eqb (take (end - from) (drop from sent)) (take (end - from) (drop from back)) c.eq.result c.eq.ensures in (
      λ t. piece-each sent back from end c.args.to c.min-end.ensures c.requires (decides.0 t),
      λ each. decides.1 (each-piece sent back from end c.args.to c.min-end.ensures c.requires each),
    )

use Rattle.std.proofs.Common.{[], length, get_or, refl, sym, ap}
use Rattle.std.proofs.lemmas.Bool.Decides.{Decides-eqb, same_from_decides}
use Rattle.std.proofs.lemmas.List.{ext_get_or}
use Rattle.std.proofs.lemmas.Slice.Eq.{slice_eq-Decides}
use Rattle.ec_player.specs.Faults.{is_reply_of}
use Rattle.ec_player.proofs.ReplyLemmas.{reply-from, reply-length, reply-kept}
use Rattle.ec_player.proofs.judging.is_same.Goals as goal

pub returns : goal.returns
returns c =
    let sent = c.args.sent.now in
    let back = c.args.back.now in
    same_from_decides c.eq.result (is_reply_of [] sent back) (slice_eq-Decides Decides-eqb sent back c.eq.result c.eq.ensures) (
      λ t. ext_get_or 0 sent back (sym (reply-length [] sent back t)) (λ k l. sym (reply-kept [] sent back t k refl)),
      λ e. reply-from [] sent back (sym (ap length e)) (λ k l shut. sym (ap (λ x. get_or x k 0) e)),
    )

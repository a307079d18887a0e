use Rattle.std.proofs.Common.{rules, ℕ, List, ◌≡◌, ◌∙◌, ◌++◌, ◌∷◌, [], ap, sym}
use Rattle.rtrb.specs.Ring.{sent, received}
use Rattle.ec_slave.specs.Journey.{outs, final}
use Rattle.ec_player.specs.Boxes.{Boxed, bytes_in}
use Rattle.ec_player_threads.proofs.LinkLemmas.{map-push}
use Rattle.ec_player_threads.proofs.PassLemmas.{outs-push, final-push}
use Rattle.ec_player_threads.proofs.carrying.carry.Goals as goal

pub loop-preserved : goal.loop-preserved
loop-preserved g c =
    let i = c.loop.invariant in
    let out = g.X.Pass.out in
    let next = g.X.Pass.next in
    let s = c.args.slave in
    let was = received c.loop.taken in
    let x = c.pop_known-came.result in
    let items : Boxed → List ℕ = λ f. f.value.items in
    let more : bytes_in (received c.pop_known-came.new.self) ≡ bytes_in was ++ x.value.items ∷ [] =
    ap bytes_in (c.pop_known-came.ensures.received.0 ∙ ap (λ l. l ++ x ∷ []) c.is_empty.ensures.looked.1) ∙ map-push items was x in
    let put : bytes_in (sent c.put_waiting.new.producer) ≡ bytes_in (sent c.loop.put) ++ c.let_pass-frame.result.value.items ∷ [] =
    ap bytes_in c.put_waiting.ensures.sent ∙ map-push items (sent c.loop.put) c.let_pass-frame.result in
    let o = outs-push out next s (bytes_in was) x.value.items in
    let f = final-push out next s (bytes_in was) x.value.items in
    let frame = c.let_pass-frame.ensures.frame in
    let state = c.let_pass-frame.ensures.state in (
      search rules,
      search rules,
      state ∙ ap (λ z. next z x.value.items) i.2 ∙ sym f ∙ ap (λ l. final out next s l) (sym more),
      put ∙ ap (λ l. l ++ c.let_pass-frame.result.value.items ∷ []) i.3 ∙ ap (λ y. outs out next s (bytes_in was) ++ y ∷ []) (frame ∙ ap (λ z. out z x.value.items) i.2) ∙ sym o ∙ ap (λ l. outs out next s l) (sym more),
    )

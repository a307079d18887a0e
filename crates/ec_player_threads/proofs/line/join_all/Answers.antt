use Rattle.std.proofs.lemmas.Grind.{common_steps}
use Rattle.std.proofs.Common.{arith, rules, ◌≡◌, ◌∙◌, ◌++◌, ◌∷◌, ap, sym, map, List, refl, subst, append_assoc}
use Rattle.std.specs.Prelude.{IfSome}
use Rattle.std.specs.Vec.Iter.{into_iter_items}
use Rattle.rtrb.specs.Ends.{SameRing}
use Rattle.rtrb.specs.Ring.{received, all_sent, known_items}
use Rattle.ec_slave.specs.Journey.{outs, line_outs, line_finals}
use Rattle.ec_player.specs.Boxes.{bytes_in}
use Rattle.ec_player_threads.specs.Threads.{Linked}
use Rattle.ec_player_threads.specs.declared.carrying.Carried.{Carried}
use Rattle.ec_player_threads.specs.declared.carrying.Back.{Back}
use Rattle.std.specs.declared.thread.PromisedHandle.{PromisedHandle}
use Rattle.ec_player_threads.proofs.LinkLemmas.{nothing_left, linked-from, outs-from, finals-from}
use Rattle.ec_player_threads.proofs.line.join_all.Goals as goal

pub loop-handle-preserved : goal.loop-handle-preserved
loop-handle-preserved g c =
    let out = g.X.Pass.out in
    let next = g.X.Pass.next in
    let i = c.loop-handle.invariant in
    let p : Carried g.row.X.Denot = c.in-Some.handle.promise in
    let r = c.join-slave.result in
    let kept = c.join-slave.ensures in
    let items : into_iter_items c.loop-handle.handle-iterator ≡ c.in-Some.handle ∷ into_iter_items c.next.new.self = search rules in
    let put = subst (λ o. IfSome o (λ f. SameRing p.put.value.end f.end × (bytes_in (all_sent f) ≡ outs out next p.slave.value (bytes_in (received r.taken))))) c.in-Some-put.is kept.2 in
    let a = c.slots_after.ensures in
    let took = ap bytes_in (nothing_left (received r.taken) _ _ _ (ap (λ l. l ++ known_items c.slots_after.new.self) (sym a.looked.1) ∙ a.fifo) a.value c.if-slots_after-ne0.false) in
    let Hs = into_iter_items c.next.new.self in
    let slave = λ (h : PromisedHandle (Back g.row.X.Denot) (Carried g.row.X.Denot)). h.promise.slave.value in
    let promise = λ (h : PromisedHandle (Back g.row.X.Denot) (Carried g.row.X.Denot)). h.promise in
    let line : Linked c.loop-handle.finished.end (p ∷ map promise Hs) c.args.last.end = subst (λ (hs : List (PromisedHandle (Back g.row.X.Denot) (Carried g.row.X.Denot))). Linked c.loop-handle.finished.end (map promise hs) c.args.last.end) items i.0 in
    let sent0 = bytes_in (all_sent c.loop-handle.finished) in
    let sent1 = bytes_in (all_sent c.in-Some-put.next) in
    let got = bytes_in (received r.taken) in
    let o = outs-from out next p.slave.value (map slave Hs) got sent0 sent1 took put.1 in
    let f = finals-from out next p.slave.value r.slave (map slave Hs) got sent0 sent1 took put.1 kept.1 in (
      linked-from p.put.value.end c.in-Some-put.next.end c.args.last.end (map promise Hs) line.1 put.0,
      refl,
      o ∙ ap (λ hs. line_outs out next (map slave hs) sent0) (sym items) ∙ i.2,
      rw (c.in-Ok-push.ensures.items, append_assoc) (ap (λ fs. c.loop-handle.slaves.items ++ fs) f ∙ ap (λ hs. c.loop-handle.slaves.items ++ line_finals out next (map slave hs) sent0) (sym items) ∙ i.3),
    )

pub returns-clause-frames : goal.returns-clause-frames
returns-clause-frames g c = grind (arith, common_steps)

use Rattle.std.proofs.Common.{◌∙◌, ◌++◌, ◌∷◌, [], ap, sym, subst}
use Rattle.rtrb.specs.Ends.{SameRing}
use Rattle.ec_player_threads.specs.Frames.{Link}
use Rattle.ec_player_threads.specs.declared.carrying.Carried.{Carried}
use Rattle.ec_player_threads.proofs.LinkLemmas.{linked-push, map-push}
use Rattle.ec_player_threads.proofs.line.start_all.Goals as goal

pub loop-slave-preserved : goal.loop-slave-preserved
loop-slave-preserved g c =
    let i = c.loop-slave.invariant in
    let s = c.in-Some-start.ensures in
    let n = c.in-Ok.ensures in
    let p : Carried g.row.X.Denot = c.in-Some-start.handle.promise in
    let pair : SameRing p.put.value.end c.in-Ok.next.end = subst (λ (e : Link). SameRing e c.in-Ok.next.end) (sym (ap (λ q. q.end) s.2)) n.pair in
    rw c.in-Ok-push.ensures.items (
      rw map-push (linked-push c.args.first.end c.loop-slave.taken.end c.in-Ok.next.end _ p i.0 (ap (λ q. q.end) s.1) pair),
      rw map-push (ap (λ l. l ++ p.slave.value ∷ []) i.1 ∙ ap (λ x. c.loop-slave.yielded ++ x ∷ []) s.0),
      n.consumer.0,
    )

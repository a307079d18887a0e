use Rattle.std.proofs.Common.{List, All, subst, arith, sym}
use Rattle.std.proofs.lemmas.List.{length_push}
use Rattle.std.specs.Vec.Iter.{into_iter_items}
use Rattle.ec_search_queues.specs.Counted.{AreNew}
use Rattle.ec_search_queues.specs.Hands.{IsNew, all_hands}
use Rattle.ec_search_queues.specs.declared.deques.Hand.{Hand}
use Rattle.ec_search_queues.specs.declared.deques.Deques.{Deques}
use Rattle.ec_search_queues.proofs.Rows.{all_head, all_tail, all_push, are_new_of}
use Rattle.ec_search_queues.proofs.tickets.Tickets.new.Goals as goal

pub loop-deques-preserved : goal.loop-deques-preserved
loop-deques-preserved c =
    let n = c.args.workers in
    let P : Deques → Type 0 = λ d. IsNew n d in
    let Q : List Hand → Type 0 = λ hs. AreNew n hs in
    let these = subst (All P) c.in-Some.ensures.steps.0 c.loop-deques.invariant.2 in
    let one = are_new_of n c.in-Some.deques (sym c.in-Some.deques.others.ok.0) (all_head P c.in-Some.deques (into_iter_items c.next.new.self) these) in
    let more = length_push c.loop-deques.yielded c.in-Some.deques in
    let was = c.loop-deques.invariant.0 in
    let len = c.in_ok-push.ensures.len in (
      omega (arith, more, was, len),
      subst (All Q) (sym c.in_ok-push.ensures.items) (all_push Q c.loop-deques.all.items (all_hands c.in-Some.deques) c.loop-deques.invariant.1 one),
      all_tail P c.in-Some.deques (into_iter_items c.next.new.self) these,
    )

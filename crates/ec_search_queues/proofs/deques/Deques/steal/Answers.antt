use Rattle.std.proofs.Common.{rules, ◌∙◌, ◌<◌, length, subst, List}
use Rattle.std.specs.Prelude.{slice_set}
use Rattle.ec_search_queues.specs.declared.deques.Hand.{Hand}
use Rattle.ec_search_queues.specs.Hands.{hands}
use Rattle.ec_search_queues.specs.Counted.{TakenFrom}
use Rattle.ec_search_queues.proofs.Taking.{same_at, taken_at}
use Rattle.ec_search_queues.proofs.deques.Deques.steal.Goals as goal

pub returns-in-Some-clause-taken : goal.returns-in-Some-clause-taken
returns-in-Some-clause-taken c =
    let inv = c.loop-i.invariant in
    let lt : c.loop-i.i < length c.loop-i.self.others.items = search rules in
    let t = taken_at c.loop-i.self.others.items c.loop-i.i c.index_mut-other.result.now c.steal.new.self c.in-Some.n lt (search rules) c.in-Some.ensures in
    subst (λ (old : List Hand). TakenFrom old c.in-Some.n (hands (slice_set c.loop-i.self.others.items c.loop-i.i c.steal.new.self))) inv.1 t

pub loop-i-preserved : goal.loop-i-preserved
loop-i-preserved c =
    let inv = c.loop-i.invariant in
    let lt : c.loop-i.i < length c.loop-i.self.others.items = search rules in
    (inv.0, same_at c.loop-i.self.others.items c.loop-i.i c.index_mut-other.result.now c.steal.new.self lt (search rules) c.in_default.ensures ∙ inv.1)

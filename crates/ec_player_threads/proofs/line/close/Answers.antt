use Rattle.std.proofs.Common.{rules, ℕ, List, map, sym, ap, ◌∙◌}
use Rattle.std.proofs.lemmas.List.{map-append}
use Rattle.std.specs.declared.thread.PromisedHandle.{PromisedHandle}
use Rattle.rtrb.specs.Ring.{received}
use Rattle.ec_slave.specs.Journey.{line_outs}
use Rattle.ec_player.specs.Boxes.{Boxed, bytes_in}
use Rattle.ec_player_threads.specs.declared.carrying.Back.{Back}
use Rattle.ec_player_threads.specs.declared.carrying.Carried.{Carried}
use Rattle.ec_player_threads.proofs.LinkLemmas.{linked-from, linked-to, on_ok_map}
use Rattle.ec_player_threads.proofs.line.close.Goals as goal

pub join_all-requires-after_bounds : goal.join_all-requires-after_bounds
join_all-requires-after_bounds g c κs within =
    linked-to c.in-Some.finished.end c.args.last.end c.drain.new.last.end _
    (linked-from c.args.first.end c.in-Some.finished.end c.args.last.end _ c.requires c.in-Some.ensures.0) c.drain.ensures.ring.0

pub returns-in-Some-clause-frames : goal.returns-in-Some-clause-frames
returns-in-Some-clause-frames g c =
    let items : Boxed → List ℕ = λ f. f.value.items in
    let slave = λ (h : PromisedHandle (Back g.row.X.Denot) (Carried g.row.X.Denot)). h.promise.slave.value in
    let more = c.drain.ensures.more in
    on_ok_map c.join_all.result
    (λ e. (
      bytes_in more.0,
      sym (map-append items (received c.args.last) more.0) ∙ ap bytes_in (sym more.1) ∙ e
          ∙ ap (λ w. line_outs g.X.Pass.out g.X.Pass.next (map slave c.args.handles.items) (bytes_in w)) c.in-Some.ensures.1,
    ))
    c.join_all.ensures.frames

pub returns-in-None-clause-fault : goal.returns-in-None-clause-fault
returns-in-None-clause-fault g c = search rules

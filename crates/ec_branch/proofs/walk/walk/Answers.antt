use Rattle.std.proofs.Common.{reverse, sym, subst, ◌∙◌}
use Rattle.ec_symmetry.specs.Ruled.{line_rules}
use Rattle.ec_branch.specs.Stacks.{IsWithin, state_of}
use Rattle.ec_branch.proofs.StackLemmas.{walk_task, for_walk, on_start, on_within, held_same}
use Rattle.ec_branch.proofs.walk.walk.Goals as goal

pub loop-next-init : goal.loop-next-init
loop-next-init g c =
    let h = c.args.loads.now in
    let frame = g.G.Guide.frame c.args.guide.now in
    let first = state_of c.args.search.now (g.G.Guide.halted c.args.guide.now) (g.G.Guide.known c.args.guide.now) in
    let now = state_of c.ask.new.search (g.G.Guide.halted c.ask.new.guide) (g.G.Guide.known c.ask.new.guide) in
    record {
      frame = c.ask.ensures.frame;
      stays = λ k. c.ask.ensures.stays ∙ k;
      on = on_start (line_rules c.args.rules) h c.args.rest.now c.args.order.now frame first now c.in_ok-levels.levels c.requires.left c.requires.ready c.in_ok-levels.ensures.items c.in_ok-levels.ensures.capacity c.if-not-ask.ensures.asked;
    }

pub returns-in-Ok-Done-clause-same : goal.returns-in-Ok-Done-clause-same
returns-in-Ok-Done-clause-same g c =
    let h = c.args.loads.now in
    let frame = g.G.Guide.frame c.args.guide.now in
    let first = state_of c.args.search.now (g.G.Guide.halted c.args.guide.now) (g.G.Guide.known c.args.guide.now) in
    let is = for_walk (line_rules c.args.rules) h c.args.order.now frame (g.G.Guide.frame c.loop-next.guide) first c.loop-next.invariant.frame c.requires.units c.requires.slots in
    let end = (rw c.in-Ok-Done.field-0-is at c.in-Ok-Done.ensures.on) (walk_task (line_rules c.args.rules) h c.args.order.now frame first) is c.loop-next.invariant.on in
    held_same (line_rules c.args.rules) c.step.new.loads h end.back.line end.back.places

pub returns-in-Ok-Done-clause-left : goal.returns-in-Ok-Done-clause-left
returns-in-Ok-Done-clause-left g c =
    let h = c.args.loads.now in
    let frame = g.G.Guide.frame c.args.guide.now in
    let first = state_of c.args.search.now (g.G.Guide.halted c.args.guide.now) (g.G.Guide.known c.args.guide.now) in
    let is = for_walk (line_rules c.args.rules) h c.args.order.now frame (g.G.Guide.frame c.loop-next.guide) first c.loop-next.invariant.frame c.requires.units c.requires.slots in
    let end = (rw c.in-Ok-Done.field-0-is at c.in-Ok-Done.ensures.on) (walk_task (line_rules c.args.rules) h c.args.order.now frame first) is c.loop-next.invariant.on in
    end.back.rest

pub returns-in-Ok-Done-clause-known : goal.returns-in-Ok-Done-clause-known
returns-in-Ok-Done-clause-known g c =
    let h = c.args.loads.now in
    let frame = g.G.Guide.frame c.args.guide.now in
    let first = state_of c.args.search.now (g.G.Guide.halted c.args.guide.now) (g.G.Guide.known c.args.guide.now) in
    let is = for_walk (line_rules c.args.rules) h c.args.order.now frame (g.G.Guide.frame c.loop-next.guide) first c.loop-next.invariant.frame c.requires.units c.requires.slots in
    let end = (rw c.in-Ok-Done.field-0-is at c.in-Ok-Done.ensures.on) (walk_task (line_rules c.args.rules) h c.args.order.now frame first) is c.loop-next.invariant.on in
    end.explored.follows

pub returns-in-Ok-Done-clause-walked : goal.returns-in-Ok-Done-clause-walked
returns-in-Ok-Done-clause-walked g c =
    let h = c.args.loads.now in
    let frame = g.G.Guide.frame c.args.guide.now in
    let first = state_of c.args.search.now (g.G.Guide.halted c.args.guide.now) (g.G.Guide.known c.args.guide.now) in
    let is = for_walk (line_rules c.args.rules) h c.args.order.now frame (g.G.Guide.frame c.loop-next.guide) first c.loop-next.invariant.frame c.requires.units c.requires.slots in
    let end = (rw c.in-Ok-Done.field-0-is at c.in-Ok-Done.ensures.on) (walk_task (line_rules c.args.rules) h c.args.order.now frame first) is c.loop-next.invariant.on in
    end.explored.walked

pub returns-in-Err-clause-same : goal.returns-in-Err-clause-same
returns-in-Err-clause-same g c =
    let h = c.args.loads.now in
    let first = state_of c.args.search.now (g.G.Guide.halted c.args.guide.now) (g.G.Guide.known c.args.guide.now) in
    let now = state_of c.loop-next.search (g.G.Guide.halted c.loop-next.guide) (g.G.Guide.known c.loop-next.guide) in
    let task = walk_task (line_rules c.args.rules) h c.args.order.now (g.G.Guide.frame c.args.guide.now) first in
    let within = on_within (line_rules c.args.rules) task c.loop-next.levels c.loop-next.loads c.loop-next.rest now c.loop-next.turn c.loop-next.invariant.on in
    let back =
    c.undo.ensures (line_rules c.args.rules) task
    (subst (λ w. IsWithin (line_rules c.args.rules) task (reverse w) c.step.new.loads c.step.new.rest) (sym c.in-Err.ensures.levels)
    (subst (λ w. IsWithin (line_rules c.args.rules) task (reverse c.loop-next.levels.items) w c.step.new.rest) (sym c.in-Err.ensures.loads)
    (subst (λ w. IsWithin (line_rules c.args.rules) task (reverse c.loop-next.levels.items) c.loop-next.loads w) (sym c.in-Err.ensures.rest) within))) in
    held_same (line_rules c.args.rules) c.undo.new.loads h back.line back.places

pub returns-in-Err-clause-left : goal.returns-in-Err-clause-left
returns-in-Err-clause-left g c =
    let h = c.args.loads.now in
    let first = state_of c.args.search.now (g.G.Guide.halted c.args.guide.now) (g.G.Guide.known c.args.guide.now) in
    let now = state_of c.loop-next.search (g.G.Guide.halted c.loop-next.guide) (g.G.Guide.known c.loop-next.guide) in
    let task = walk_task (line_rules c.args.rules) h c.args.order.now (g.G.Guide.frame c.args.guide.now) first in
    let within = on_within (line_rules c.args.rules) task c.loop-next.levels c.loop-next.loads c.loop-next.rest now c.loop-next.turn c.loop-next.invariant.on in
    let back =
    c.undo.ensures (line_rules c.args.rules) task
    (subst (λ w. IsWithin (line_rules c.args.rules) task (reverse w) c.step.new.loads c.step.new.rest) (sym c.in-Err.ensures.levels)
    (subst (λ w. IsWithin (line_rules c.args.rules) task (reverse c.loop-next.levels.items) w c.step.new.rest) (sym c.in-Err.ensures.loads)
    (subst (λ w. IsWithin (line_rules c.args.rules) task (reverse c.loop-next.levels.items) c.loop-next.loads w) (sym c.in-Err.ensures.rest) within))) in
    back.rest

use Rattle.std.proofs.Common.{◌<◌, length, ap, sym, subst, ◌∙◌, arith}
use Rattle.ec_bounds.proofs.HeldLemmas.{flags_count}
use Rattle.ec_symmetry.specs.Ruled.{line_rules}
use Rattle.ec_branch.specs.Stacks.{IsOn, state_of, efforts, effort}
use Rattle.ec_branch.specs.Frames.{Frame}
use Rattle.ec_branch.proofs.StackLemmas.{on_later, on_ready, on_last, on_asked, on_leaf, on_split, on_rise, on_within, within_unit, efforts-push}
use Rattle.ec_branch.proofs.walk.step.Goals as goal

pub slice_bounds-enter-count : goal.slice_bounds-enter-count
slice_bounds-enter-count g c =
    let task = c.requires.on.0 in
    let now = state_of c.args.search.now (g.G.Guide.halted c.args.guide.now) (g.G.Guide.known c.args.guide.now) in
    (on_later (line_rules c.args.rules) task c.args.levels.now c.args.loads.now c.args.rest.now now c.args.turn c.args.order.now c.len.result c.requires.on.2 c.requires.on.1.units (omega (arith, c.len.ensures, c.args.levels.now.ok.0))).0

pub slice_bounds-enter-start : goal.slice_bounds-enter-start
slice_bounds-enter-start g c =
    let task = c.requires.on.0 in
    let now = state_of c.args.search.now (g.G.Guide.halted c.args.guide.now) (g.G.Guide.known c.args.guide.now) in
    (on_later (line_rules c.args.rules) task c.args.levels.now c.args.loads.now c.args.rest.now now c.args.turn c.args.order.now c.len.result c.requires.on.2 c.requires.on.1.units (omega (arith, c.len.ensures, c.args.levels.now.ok.0))).0

pub enter-requires-clause-ready : goal.enter-requires-clause-ready
enter-requires-clause-ready g c =
    let task = c.requires.on.0 in
    let now = state_of c.args.search.now (g.G.Guide.halted c.args.guide.now) (g.G.Guide.known c.args.guide.now) in
    let later = on_later (line_rules c.args.rules) task c.args.levels.now c.args.loads.now c.args.rest.now now c.args.turn c.args.order.now c.len.result c.requires.on.2 c.requires.on.1.units (omega (arith, c.len.ensures, c.args.levels.now.ok.0)) in
    on_ready (line_rules c.args.rules) task c.args.levels.now c.args.loads.now c.args.rest.now now c.args.turn _ c.requires.on.2 later.1

pub enter-requires-clause-last : goal.enter-requires-clause-last
enter-requires-clause-last g c =
    let task = c.requires.on.0 in
    let now = state_of c.args.search.now (g.G.Guide.halted c.args.guide.now) (g.G.Guide.known c.args.guide.now) in
    on_last (line_rules c.args.rules) task c.args.levels.now c.args.loads.now c.args.rest.now now c.args.turn c.last_unit.result c.requires.on.2
    (λ e. c.last_unit.ensures.none (ap length c.as_slice-in-Enter.ensures.value ∙ e)) (λ before l e. c.last_unit.ensures.some before l (c.as_slice-in-Enter.ensures.value ∙ e))

pub enter-requires-clause-asked : goal.enter-requires-clause-asked
enter-requires-clause-asked g c =
    let task = c.requires.on.0 in
    let is = c.requires.on.1 in
    let now = state_of c.args.search.now (g.G.Guide.halted c.args.guide.now) (g.G.Guide.known c.args.guide.now) in
    let on = subst (IsOn (line_rules c.args.rules) task c.args.levels.now c.args.loads.now c.args.rest.now now) c.in-Enter.is c.requires.on.2 in
    (on.from, on_asked (line_rules c.args.rules) task c.args.levels.now c.args.loads.now c.args.rest.now now (g.G.Guide.frame c.args.guide.now).floor on is.floor)

pub next_child-requires : goal.next_child-requires
next_child-requires g c =
    let task = c.requires.on.0 in
    let is = c.requires.on.1 in
    let old = state_of c.args.search.now (g.G.Guide.halted c.args.guide.now) (g.G.Guide.known c.args.guide.now) in
    let now = state_of c.enter.new.search (g.G.Guide.halted c.enter.new.guide) (g.G.Guide.known c.enter.new.guide) in
    let on = subst (IsOn (line_rules c.args.rules) task c.args.levels.now c.args.loads.now c.args.rest.now old) c.in-Enter.is c.requires.on.2 in
    let later = on_later (line_rules c.args.rules) task c.args.levels.now c.args.loads.now c.args.rest.now old _ c.args.order.now c.len.result on is.units (omega (arith, c.len.ensures, c.args.levels.now.ok.0)) in
    let floor = (g.G.Guide.frame c.args.guide.now).floor in
    record {
      paused = (
        task,
        ap (λ (f : Frame). f.floor) c.enter.ensures.frame ∙ is.floor,
        on_split (line_rules c.args.rules) task c.args.levels.now c.args.loads.now c.args.rest.now old now _ floor c.in-Split.level on later.1 is.floor
            ((rw c.in-Split.is at c.in_ok-tree-in-Enter.ensures.entered) on.from (on_asked (line_rules c.args.rules) task c.args.levels.now c.args.loads.now c.args.rest.now old floor on is.floor)),
      );
    }

pub returns-in-Leaf-clause-on : goal.returns-in-Leaf-clause-on
returns-in-Leaf-clause-on g c =
    λ task is was.
    let old = state_of c.args.search.now (g.G.Guide.halted c.args.guide.now) (g.G.Guide.known c.args.guide.now) in
    let now = state_of c.enter.new.search (g.G.Guide.halted c.enter.new.guide) (g.G.Guide.known c.enter.new.guide) in
    let on = subst (IsOn (line_rules c.args.rules) task c.args.levels.now c.args.loads.now c.args.rest.now old) c.in-Enter.is was in
    let later = on_later (line_rules c.args.rules) task c.args.levels.now c.args.loads.now c.args.rest.now old _ c.args.order.now c.len.result on is.units (omega (arith, c.len.ensures, c.args.levels.now.ok.0)) in
    let floor = (g.G.Guide.frame c.args.guide.now).floor in
    on_leaf (line_rules c.args.rules) task c.args.levels.now c.args.loads.now c.args.rest.now old now _ floor c.in-Leaf.tree on later.1 is.floor
    ((rw c.in-Leaf.is at c.in_ok-tree-in-Enter.ensures.entered) on.from (on_asked (line_rules c.args.rules) task c.args.levels.now c.args.loads.now c.args.rest.now old floor on is.floor))

pub returns-in-Split-clause-on : goal.returns-in-Split-clause-on
returns-in-Split-clause-on g c =
    λ task is was.
    let old = state_of c.args.search.now (g.G.Guide.halted c.args.guide.now) (g.G.Guide.known c.args.guide.now) in
    let now = state_of c.enter.new.search (g.G.Guide.halted c.enter.new.guide) (g.G.Guide.known c.enter.new.guide) in
    let on = subst (IsOn (line_rules c.args.rules) task c.args.levels.now c.args.loads.now c.args.rest.now old) c.in-Enter.is was in
    let later = on_later (line_rules c.args.rules) task c.args.levels.now c.args.loads.now c.args.rest.now old _ c.args.order.now c.len.result on is.units (omega (arith, c.len.ensures, c.args.levels.now.ok.0)) in
    let floor = (g.G.Guide.frame c.args.guide.now).floor in
    c.next_child.ensures.on task (ap (λ (f : Frame). f.floor) c.enter.ensures.frame ∙ is.floor)
    (on_split (line_rules c.args.rules) task c.args.levels.now c.args.loads.now c.args.rest.now old now _ floor c.in-Split.level on later.1 is.floor
    ((rw c.in-Split.is at c.in_ok-tree-in-Enter.ensures.entered) on.from (on_asked (line_rules c.args.rules) task c.args.levels.now c.args.loads.now c.args.rest.now old floor on is.floor)))

pub take_back-requires-clause-unit : goal.take_back-requires-clause-unit
take_back-requires-clause-unit g c =
    let now = state_of c.args.search.now (g.G.Guide.halted c.args.guide.now) (g.G.Guide.known c.args.guide.now) in
    within_unit (line_rules c.args.rules) c.requires.on.0 c.args.levels.now.items c.pop.new.self.items c.in-Some.level c.args.loads.now c.args.rest.now
    (on_within (line_rules c.args.rules) c.requires.on.0 c.args.levels.now c.args.loads.now c.args.rest.now now c.args.turn c.requires.on.2) c.in-Some.ensures.items

pub take_back-requires-clause-flag : goal.take_back-requires-clause-flag
take_back-requires-clause-flag g c =
    let now = state_of c.args.search.now (g.G.Guide.halted c.args.guide.now) (g.G.Guide.known c.args.guide.now) in
    subst (λ w. c.in-Some.level.unit < w) (sym (flags_count c.args.loads.now c.args.rest.now c.requires.on.2.rest))
    (within_unit (line_rules c.args.rules) c.requires.on.0 c.args.levels.now.items c.pop.new.self.items c.in-Some.level c.args.loads.now c.args.rest.now
    (on_within (line_rules c.args.rules) c.requires.on.0 c.args.levels.now c.args.loads.now c.args.rest.now now c.args.turn c.requires.on.2) c.in-Some.ensures.items)

pub next_child-requires-in-Up : goal.next_child-requires-in-Up
next_child-requires-in-Up g c =
    let task = c.requires.on.0 in
    let is = c.requires.on.1 in
    let now = state_of c.args.search.now (g.G.Guide.halted c.args.guide.now) (g.G.Guide.known c.args.guide.now) in
    let on = subst (IsOn (line_rules c.args.rules) task c.args.levels.now c.args.loads.now c.args.rest.now now) c.in-Up.is c.requires.on.2 in
    record {
      paused = (
        task,
        is.floor,
        on_rise (line_rules c.args.rules) task c.args.levels.now c.pop.new.self c.args.loads.now c.take_back.new.loads c.args.rest.now c.take_back.new.rest now c.in-Up.tree c.in-Some.level c.push_reserved.new.self
            on c.in-Some.ensures.items c.in-Some.ensures.capacity c.take_back.ensures.loads c.take_back.ensures.rest c.push_reserved.ensures.items c.push_reserved.ensures.capacity,
      );
    }

pub returns-in-Some-clause-on : goal.returns-in-Some-clause-on
returns-in-Some-clause-on g c =
    λ task is was.
    let now = state_of c.args.search.now (g.G.Guide.halted c.args.guide.now) (g.G.Guide.known c.args.guide.now) in
    let on = subst (IsOn (line_rules c.args.rules) task c.args.levels.now c.args.loads.now c.args.rest.now now) c.in-Up.is was in
    c.next_child-in-Up.ensures.on task is.floor
    (on_rise (line_rules c.args.rules) task c.args.levels.now c.pop.new.self c.args.loads.now c.take_back.new.loads c.args.rest.now c.take_back.new.rest now c.in-Up.tree c.in-Some.level c.push_reserved.new.self
    on c.in-Some.ensures.items c.in-Some.ensures.capacity c.take_back.ensures.loads c.take_back.ensures.rest c.push_reserved.ensures.items c.push_reserved.ensures.capacity)

pub returns-in-Some-clause-less : goal.returns-in-Some-clause-less
returns-in-Some-clause-less g c =
    let left = c.args.search.now.left in
    let all = ap efforts c.in-Some.ensures.items ∙ efforts-push c.pop.new.self.items c.in-Some.level in
    let turn = ap (effort left c.args.levels.now.items) c.in-Up.is in
    let less = c.next_child-in-Up.ensures.less in
    omega (arith, all, turn, less)

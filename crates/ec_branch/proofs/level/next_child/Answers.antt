use Rattle.std.proofs.Common.{◌<◌, ◌∷◌, length, None, refl, ap, sym, subst, ◌∙◌, arith}
use Rattle.std.proofs.lemmas.Option.{slice_get_within}
use Rattle.ec_bounds.proofs.HeldLemmas.{flags_count}
use Rattle.ec_symmetry.specs.Ruled.{line_rules}
use Rattle.ec_branch.specs.declared.level.Level.{Level}
use Rattle.ec_branch.specs.Stacks.{state_of, IsAsked, efforts}
use Rattle.ec_branch.proofs.StackLemmas.{paused_among, among_paused, paused_open, paused_next, efforts-push}
use Rattle.ec_branch.proofs.level.next_child.Goals as goal

pub left_open-requires : goal.left_open-requires
left_open-requires g c =
    let task = c.requires.paused.0 in
    let paused = c.requires.paused.2 in
    let floor = (g.G.Guide.frame c.args.guide.now).floor in
    let old = state_of c.args.search.now (g.G.Guide.halted c.args.guide.now) (g.G.Guide.known c.args.guide.now) in
    let passed = c.in-None.ensures.passed paused.later paused.done paused.from (paused_among (line_rules c.args.rules) task c.args.levels.now c.args.loads.now c.args.rest.now old c.args.level floor paused c.requires.paused.1) in
    passed.1.trees

pub place-requires : goal.place-requires
place-requires g c =
    let paused = c.requires.paused.2 in
    subst (λ u. u < length c.args.loads.now.places) (sym c.close_next.ensures.unit) (slice_get_within c.args.loads.now.places c.args.level.unit None paused.ready.0)

pub placed-requires : goal.placed-requires
placed-requires g c =
    let paused = c.requires.paused.2 in
    subst (λ w. c.close_next.new.level.unit < w) (sym (flags_count c.args.loads.now c.args.rest.now paused.rest))
    (subst (λ u. u < length c.args.loads.now.places) (sym c.close_next.ensures.unit) (slice_get_within c.args.loads.now.places c.args.level.unit None paused.ready.0))

pub returns-in-None-clause-on : goal.returns-in-None-clause-on
returns-in-None-clause-on g c =
    λ task floor_is paused.
    let floor = (g.G.Guide.frame c.args.guide.now).floor in
    let old = state_of c.args.search.now (g.G.Guide.halted c.args.guide.now) (g.G.Guide.known c.args.guide.now) in
    let now = state_of c.close_next.new.search (g.G.Guide.halted c.close_next.new.guide) (g.G.Guide.known c.close_next.new.guide) in
    let passed = c.in-None.ensures.passed paused.later paused.done paused.from (paused_among (line_rules c.args.rules) task c.args.levels.now c.args.loads.now c.args.rest.now old c.args.level floor paused floor_is) in
    paused_open (line_rules c.args.rules) task c.args.levels.now c.args.loads.now c.args.rest.now now c.close_next.new.level c.left_open.result
    (among_paused (line_rules c.args.rules) task c.args.levels.now c.args.loads.now c.args.rest.now old now c.args.level c.close_next.new.level floor passed.0 paused floor_is c.close_next.ensures.unit passed.1)
    passed.2 c.left_open.ensures

pub returns-in-Some-clause-on : goal.returns-in-Some-clause-on
returns-in-Some-clause-on g c =
    λ task floor_is paused.
    let floor = (g.G.Guide.frame c.args.guide.now).floor in
    let old = state_of c.args.search.now (g.G.Guide.halted c.args.guide.now) (g.G.Guide.known c.args.guide.now) in
    let now = state_of c.close_next.new.search (g.G.Guide.halted c.close_next.new.guide) (g.G.Guide.known c.close_next.new.guide) in
    let level = c.close_next.new.level in
    let whole : Level = record { unit = level.unit; places = c.in-Some.place ∷ level.places; trees = level.trees; room = level.room; above = level.above } in
    let passed = c.in-Some.ensures.passed paused.later paused.done paused.from (paused_among (line_rules c.args.rules) task c.args.levels.now c.args.loads.now c.args.rest.now old c.args.level floor paused floor_is) in
    paused_next (line_rules c.args.rules) task c.args.levels.now c.push_reserved.new.self c.args.loads.now c.place.new.self c.args.rest.now c.placed.new.self passed.1 now whole c.in-Some.place level.places
    (among_paused (line_rules c.args.rules) task c.args.levels.now c.args.loads.now c.args.rest.now old passed.1 c.args.level whole floor passed.0 paused floor_is c.close_next.ensures.unit passed.3)
    (subst (λ f. IsAsked f passed.1 now) floor_is passed.2) refl c.push_reserved.ensures.items c.push_reserved.ensures.capacity c.place.ensures c.placed.ensures

pub returns-in-Some-clause-less : goal.returns-in-Some-clause-less
returns-in-Some-clause-less g c =
    let more = ap efforts c.push_reserved.ensures.items ∙ efforts-push c.args.levels.now.items c.close_next.new.level in
    let fewer = c.in-Some.ensures.fewer in
    let left = c.close_next.ensures.left in
    omega (arith, more, fewer, left)

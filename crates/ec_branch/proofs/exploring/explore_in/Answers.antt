use Rattle.std.proofs.Common.{length, None, rules}
use Rattle.ec_loads.specs.Held.{no_places}
use Rattle.ec_loads.specs.Line.{line_of}
use Rattle.ec_cert.specs.Shapes.{shape_of}
use Rattle.ec_symmetry.specs.Ruled.{line_rules}
use Rattle.ec_branch.proofs.ReadyLemmas.{children_long, later_units, reached_ready, explored}
use Rattle.ec_branch.proofs.exploring.explore_in.Goals as goal

pub place_all-requires-clause-long : goal.place_all-requires-clause-long
place_all-requires-clause-long g c = let h = c.args.ground.now.loads in children_long (line_of (line_rules c.args.rules) h) (no_places h.loads) c.args.order.now c.args.prefix.now c.requires.reached

pub slice_bounds-later-count : goal.slice_bounds-later-count
slice_bounds-later-count g c = let h = c.args.ground.now.loads in children_long (line_of (line_rules c.args.rules) h) (no_places h.loads) c.args.order.now c.args.prefix.now c.requires.reached

pub slice_bounds-later-start : goal.slice_bounds-later-start
slice_bounds-later-start g c = let h = c.args.ground.now.loads in children_long (line_of (line_rules c.args.rules) h) (no_places h.loads) c.args.order.now c.args.prefix.now c.requires.reached

pub walk-requires-clause-ready : goal.walk-requires-clause-ready
walk-requires-clause-ready g c =
    let h = c.args.ground.now.loads in
    let order = c.args.order.now in
    let prefix = c.args.prefix.now in
    reached_ready (line_rules c.args.rules) h.loads h.slots order prefix c.place_all.new.loads _ c.requires.order c.requires.reached c.place_all.ensures.placed (later_units order (length prefix))

pub returns-clause-least : goal.returns-clause-least
returns-clause-least g c =
    let h = c.args.ground.now.loads in
    let order = c.args.order.now in
    let prefix = c.args.prefix.now in
    let walked =
    explored (line_rules c.args.rules) h.loads h.slots (g.G.Guide.frame c.args.guide.now).floor order prefix c.place_all.new.loads _ None _ c.walk.new.search.value c.walk.new.search.left
    (g.G.Guide.halted c.walk.new.guide) (shape_of c.in_ok-tree.tree) c.place_all.ensures.placed
    (later_units order (length prefix)) c.in_ok-tree.ensures.walked in
    walked.fair (λ x low bounds. tt)

pub returns-clause-known : goal.returns-clause-known
returns-clause-known g c = search rules

pub returns-clause-upper : goal.returns-clause-upper
returns-clause-upper g c = search rules

pub returns-clause-most : goal.returns-clause-most
returns-clause-most g c = search rules

pub returns-clause-exact : goal.returns-clause-exact
returns-clause-exact g c = search rules

use Rattle.std.proofs.Common.{◌≡◌, ◌+◌, ◌-◌, ◌++◌, [], ◌∷◌, length, set, Some, inl, inr, ap, sym, subst, ◌∙◌, arith}
use Rattle.ec_loads.specs.Line.{line_of}
use Rattle.ec_cert.specs.Shapes.{shape_of}
use Rattle.ec_cert.specs.declared.tree.Tree.{OpenLeaf}
use Rattle.ec_symmetry.specs.Ruled.{line_rules}
use Rattle.ec_branch.specs.Frames.{Frame}
use Rattle.ec_branch.specs.Stacks.{state_of, IsAsked, IsSpent, IsAmong, IsExplored}
use Rattle.ec_branch.proofs.StackLemmas.{among_more, among_place, closed_explored, open_explored, shape_of-OpenLeaf}
use Rattle.ec_branch.proofs.level.close_next.Goals as goal

pub push_reserved-requires : goal.push_reserved-requires
push_reserved-requires g c =
    let first = c.requires.among in
    let at = (c.loop-place.invariant.among first.0 first.1 first.2 first.3).1 in
    let fewer = ap length c.in-Some.ensures.steps in
    let room = at.trees in
    omega (arith, fewer, room, c.loop-place.level.trees.ok.0)

pub push_reserved-requires-in-Some : goal.push_reserved-requires-in-Some
push_reserved-requires-in-Some g c =
    let first = c.requires.among in
    let at = (c.loop-place.invariant.among first.0 first.1 first.2 first.3).1 in
    let fewer = ap length c.in-Some.ensures.steps in
    let room = at.trees in
    omega (arith, fewer, room, c.loop-place.level.trees.ok.0)

pub raised_by-requires-clause-phase : goal.raised_by-requires-clause-phase
raised_by-requires-clause-phase g c =
    let first = c.requires.among in
    let at = c.loop-place.invariant.among first.0 first.1 first.2 first.3 in
    (among_place (line_of (line_rules c.args.rules) c.args.loads.now) _ c.args.loads.now.places first.0 at.0 first.2 _ c.loop-place.level c.in-Some.place c.next.new.self at.1 c.in-Some.ensures.steps).0

pub raised_by-requires-clause-slot : goal.raised_by-requires-clause-slot
raised_by-requires-clause-slot g c =
    let first = c.requires.among in
    let at = c.loop-place.invariant.among first.0 first.1 first.2 first.3 in
    (among_place (line_of (line_rules c.args.rules) c.args.loads.now) _ c.args.loads.now.places first.0 at.0 first.2 _ c.loop-place.level c.in-Some.place c.next.new.self at.1 c.in-Some.ensures.steps).1

pub returns-then-not-ask-clause-passed : goal.returns-then-not-ask-clause-passed
returns-then-not-ask-clause-passed g c =
    λ later done from h.
    let line = line_of (line_rules c.args.rules) c.args.loads.now in
    let floor = (g.G.Guide.frame c.args.guide.now).floor in
    let ps = c.args.loads.now.places in
    let u = c.loop-place.level.unit in
    let p = c.in-Some.place in
    let old = state_of c.loop-place.search (g.G.Guide.halted c.loop-place.guide) (g.G.Guide.known c.loop-place.guide) in
    let at = c.loop-place.invariant.among later done from h in
    let refused = c.if-not-ask.ensures.asked in
    let leaf = subst (IsExplored line floor (set ps u (Some p)) later old old) (sym shape_of-OpenLeaf) (open_explored line floor (set ps u (Some p)) later old refused.0) in
    let more = among_more line floor ps later at.0 from old old c.loop-place.level p c.next.new.self OpenLeaf c.push_reserved.new.self at.1 c.in-Some.ensures.steps leaf c.push_reserved.ensures.items c.push_reserved.ensures.capacity in (
      at.0 ++ p ∷ [],
      subst (λ s. IsAmong line floor ps later (at.0 ++ p ∷ []) from s (record { unit = u; places = c.next.new.self; trees = c.push_reserved.new.self; room = c.loop-place.level.room; above = c.loop-place.level.above })) (sym refused.1) more,
      inr (subst IsSpent (sym refused.1) refused.0),
    )

pub returns-in_default-raised_by-clause-passed : goal.returns-in_default-raised_by-clause-passed
returns-in_default-raised_by-clause-passed g c =
    λ later done from h.
    let line = line_of (line_rules c.args.rules) c.args.loads.now in
    let floor = (g.G.Guide.frame c.args.guide.now).floor in
    let ps = c.args.loads.now.places in
    let level = c.loop-place.level in
    let old = state_of c.loop-place.search (g.G.Guide.halted c.loop-place.guide) (g.G.Guide.known c.loop-place.guide) in
    let now = state_of c.ask.new.search (g.G.Guide.halted c.ask.new.guide) (g.G.Guide.known c.ask.new.guide) in
    let at = c.loop-place.invariant.among later done from h in (
      at.0,
      old,
      subst (λ f. IsAsked f old now) (ap (λ (f : Frame). f.floor) c.loop-place.invariant.frame) c.if-not-ask.ensures.asked,
      subst (λ w. IsAmong line floor ps later at.0 from old (record { unit = level.unit; places = w; trees = level.trees; room = level.room; above = level.above })) c.in-Some.ensures.steps at.1,
    )

pub loop-place-preserved : goal.loop-place-preserved
loop-place-preserved g c =
    let old = state_of c.loop-place.search (g.G.Guide.halted c.loop-place.guide) (g.G.Guide.known c.loop-place.guide) in
    let now = state_of c.ask.new.search (g.G.Guide.halted c.ask.new.guide) (g.G.Guide.known c.ask.new.guide) in
    let inv = c.loop-place.invariant in
    let fewer = ap length c.in-Some.ensures.steps in
    let asked = subst (λ f. IsAsked f old now) (ap (λ (f : Frame). f.floor) inv.frame) c.if-not-ask.ensures.asked in
    let spent : c.ask.new.search.left - 1 + 1 ≡ c.ask.new.search.left = let some = asked.some in let same = asked.left in omega (arith, some, same) in
    record {
      frame = c.ask.ensures.frame ∙ inv.frame;
      stays = c.ask.ensures.stays ∙ inv.stays;
      unit = inv.unit;
      left = omega (arith, c.ask.ensures.left, inv.left);
      fewer = omega (arith, fewer, inv.fewer);
      among = λ later done from h.
          let line = line_of (line_rules c.args.rules) c.args.loads.now in
          let floor = (g.G.Guide.frame c.args.guide.now).floor in
          let ps = c.args.loads.now.places in
          let p = c.in-Some.place in
          let at = inv.among later done from h in
          let leaf = closed_explored line floor (set ps c.loop-place.level.unit (Some p)) later old now (c.ask.new.search.left - 1) (shape_of c.in-Some-raised_by.leaf) asked spent c.in-Some-raised_by.ensures in (
            at.0 ++ p ∷ [],
            among_more line floor ps later at.0 from old (record { value = now.value; left = c.ask.new.search.left - 1; halted = now.halted; known = now.known }) c.loop-place.level p c.next.new.self
                c.in-Some-raised_by.leaf c.push_reserved-in-Some.new.self at.1 c.in-Some.ensures.steps leaf c.push_reserved-in-Some.ensures.items c.push_reserved-in-Some.ensures.capacity,
          );
    }

pub returns-clause-passed : goal.returns-clause-passed
returns-clause-passed g c =
    λ later done from h.
    let line = line_of (line_rules c.args.rules) c.args.loads.now in
    let floor = (g.G.Guide.frame c.args.guide.now).floor in
    let ps = c.args.loads.now.places in
    let level = c.loop-place.level in
    let now = state_of c.loop-place.search (g.G.Guide.halted c.loop-place.guide) (g.G.Guide.known c.loop-place.guide) in
    let at = c.loop-place.invariant.among later done from h in
    let none = c.in_default.ensures.steps in (
      at.0,
      subst (λ w. IsAmong line floor ps later at.0 from now (record { unit = level.unit; places = w; trees = level.trees; room = level.room; above = level.above })) (none.0 ∙ sym none.1) at.1,
      inl (ap length none.1),
    )

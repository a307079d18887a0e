use Rattle.std.proofs.Common.{refl, arith}
use Rattle.ec_loads.specs.Cost.{items}
use Rattle.ec_loads.specs.Rooms.{IsNeededBy}
use Rattle.ec_bounds.proofs.StepLemmas.{zip_length, zip_first, zip_join, zip_done}
use Rattle.ec_bounds.proofs.grouped.all_needed.Goals as goal

pub returns-then-periods-pairs : goal.returns-then-periods-pairs
returns-then-periods-pairs g c =
    let held = c.args.loads.now in (
      λ said. absurd cc,
      λ all. absurd (c.if-periods-pairs.true (zip_length (IsNeededBy (items held.loads held.places) (g.T.Tops.tops c.args.tops.now) c.args.value c.args.left.now) c.args.periods.now c.args.pairs.now all)),
    )

pub loop-i-preserved : goal.loop-i-preserved
loop-i-preserved g c =
    let held = c.args.loads.now in
    let needed = IsNeededBy (items held.loads held.places) (g.T.Tops.tops c.args.tops.now) c.args.value c.args.left.now in
    let periods = c.args.periods.now in
    let pairs = c.args.pairs.now in
    let inv = c.loop-i.invariant in
    let within = c.loop-i-test.true in
    record {
      front = λ all. (zip_first needed periods pairs c.loop-i.i 0 (record { count = 0; room = 0 }) within (omega (arith, within, c.if-periods-pairs.false)) (inv.front all)).1;
      back = λ rest. inv.back (zip_join needed periods pairs c.loop-i.i 0 (record { count = 0; room = 0 }) within (omega (arith, within, c.if-periods-pairs.false)) (c.is_needed.ensures.0 c.if-not-is_needed.false) rest);
    }

pub returns-then-not-is_needed : goal.returns-then-not-is_needed
returns-then-not-is_needed g c =
    let held = c.args.loads.now in
    let needed = IsNeededBy (items held.loads held.places) (g.T.Tops.tops c.args.tops.now) c.args.value c.args.left.now in
    let within = c.loop-i-test.true in (
      λ said. absurd cc,
      λ all.
          let here = zip_first needed c.args.periods.now c.args.pairs.now c.loop-i.i 0 (record { count = 0; room = 0 }) within (omega (arith, within, c.if-periods-pairs.false)) (c.loop-i.invariant.front all) in
          let said = c.is_needed.ensures.1 here.0 in
          absurd cc,
    )

pub returns : goal.returns
returns g c =
    let held = c.args.loads.now in
    let needed = IsNeededBy (items held.loads held.places) (g.T.Tops.tops c.args.tops.now) c.args.value c.args.left.now in
    (λ said. c.loop-i.invariant.back (zip_done needed c.args.periods.now c.args.pairs.now c.loop-i.i c.loop-i-test.false c.if-periods-pairs.false), λ all. refl)

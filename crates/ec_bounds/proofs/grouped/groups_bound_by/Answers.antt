use Rattle.std.proofs.Common.{◌≡◌, ◌<◌, length, take, refl, sym, ap, ◌∙◌, subst, arith, length-take}
use Rattle.std.specs.List.{AllZip}
use Rattle.ec_hyper.specs.Lcm.{lcm_of}
use Rattle.ec_units.specs.Load.{periods_of}
use Rattle.ec_loads.specs.Cost.{items}
use Rattle.ec_loads.specs.Rooms.{unplaced, periods_in, group_bytes, sent_bytes, IsNeededBy}
use Rattle.ec_bounds.specs.Left.{demand_of}
use Rattle.ec_bounds.proofs.LeftLemmas.{demand-flags}
use Rattle.ec_bounds.proofs.GroupLemmas.{sent-demand}
use Rattle.ec_bounds.proofs.StepLemmas.{left_of, groups-iff, groups-need, zip_length}
use Rattle.ec_bounds.proofs.grouped.groups_bound_by.Goals as goal

pub returns-then-count-eq0 : goal.returns-then-count-eq0
returns-then-count-eq0 g c = λ rest.
    let held = c.args.loads.now in
    let left = take c.fill_left-count.result c.fill_left-count.new.table in
    let units : left ≡ unplaced held.loads held.places = c.fill_left-count.ensures.left ∙ left_of c.args.rest.now held rest in
    let size = length-take c.fill_left-count.result c.fill_left-count.new.table in (
      λ said. absurd cc,
      λ holds.
          let need = groups-need held.loads held.slots (g.T.Tops.tops c.args.tops.now) c.args.value held.places c.args.pairs.now left c.in-Some.value c.in-Some.is units holds in
          absurd (omega (arith, need.0, size, c.if-count-eq0.true)),
    )

pub returns-then-not-all_needed : goal.returns-then-not-all_needed
returns-then-not-all_needed g c = λ rest.
    let held = c.args.loads.now in
    let left = take c.fill_left-count.result c.fill_left-count.new.table in
    let units : left ≡ unplaced held.loads held.places = c.fill_left-count.ensures.left ∙ left_of c.args.rest.now held rest in (
      λ said. absurd cc,
      λ holds.
          let need = groups-need held.loads held.slots (g.T.Tops.tops c.args.tops.now) c.args.value held.places c.args.pairs.now left c.in-Some.value c.in-Some.is units holds in
          let all = c.all_needed.ensures.1 (subst (λ qs. AllZip (IsNeededBy (items held.loads held.places) (g.T.Tops.tops c.args.tops.now) c.in-Some.value left) qs c.args.pairs.now) (sym c.fill_periods-few.ensures.periods) need.1) in
          absurd cc,
    )

pub group_bytes-requires-clause-each : goal.group_bytes-requires-clause-each
group_bytes-requires-clause-each g c =
    let held = c.args.loads.now in
    let left = take c.fill_left-count.result c.fill_left-count.new.table in
    let periods = take c.fill_periods-few.result c.fill_periods-few.new.table in
    sym (zip_length (IsNeededBy (items held.loads held.places) (g.T.Tops.tops c.args.tops.now) c.in-Some.value left) periods c.args.pairs.now (c.all_needed.ensures.0 c.if-not-all_needed.false))

pub returns : goal.returns
returns g c = λ rest.
    let held = c.args.loads.now in
    let h = lcm_of (periods_of held.loads) in
    let pairs = c.args.pairs.now in
    let left = take c.fill_left-count.result c.fill_left-count.new.table in
    let units : left ≡ unplaced held.loads held.places = c.fill_left-count.ensures.left ∙ left_of c.args.rest.now held rest in
    let size = length-take c.fill_left-count.result c.fill_left-count.new.table in
    let some : 0 < length left = omega (arith, size, c.fill_left-count.array_long, c.if-count-eq0.false) in
    let periods = c.fill_periods-few.ensures.periods in
    let needed = subst (λ qs. AllZip (IsNeededBy (items held.loads held.places) (g.T.Tops.tops c.args.tops.now) c.in-Some.value left) qs pairs) periods (c.all_needed.ensures.0 c.if-not-all_needed.false) in
    let ticks = c.ticks-ticks.ensures.value in
    let sent : c.demand.result ≡ sent_bytes h left =
    c.demand.ensures.value ∙ (λ i. demand_of (rest.loads i) (rest.unplaced i) (lcm_of (periods_of (rest.loads i)))) ∙ demand-flags held.loads held.places h
    ∙ sym (sent-demand held.loads held.places h) ∙ ap (sent_bytes h) (sym units) in
    let groups : c.group_bytes.result ≡ group_bytes h (periods_in left) pairs = c.group_bytes.ensures.value ∙ (λ i. group_bytes (ticks i) (periods i) pairs) in
    groups-iff held.loads held.slots (g.T.Tops.tops c.args.tops.now) c.args.value held.places pairs left c.in-Some.value h c.from.result c.from-2.result c.from-3.result c.in-Some.is refl units some needed
    (c.from.ensures ∙ c.saturating_sub.ensures) (c.from-2.ensures ∙ ticks) (omega (arith, c.from-3.ensures, c.raw_total.ensures.value, sent, groups))

use Rattle.std.proofs.Common.{◌≡◌, ◌<◌, length, get_or, arith, subst, ap, ◌∙◌}
use Rattle.std.proofs.lemmas.Grind.{get_or_default_zero}
use Rattle.ec_loads.specs.Cost.{item}
use Rattle.ec_loads.specs.Table.{group_at}
use Rattle.ec_loads.proofs.ExcessLemmas.{excess_of}
use Rattle.ec_loads.proofs.TrafficLemmas.{cells-low, cost-holds, costs-low, small_cost}
use Rattle.ec_loads.proofs.traffic.Traffic.excess.Goals as goal
use Rattle.ec_loads.proofs.traffic.Traffic.excess.Goals.{then-index-eq0, else-index-eq0}

pub first_excess-requires-clause-low : goal.first_excess-requires-clause-low
first_excess-requires-clause-low c = λ t h.
    let s = c.args.self.now in
    let k = c.requires.table in
    let h' = subst (λ w. t < length w) c.as_slice-2.ensures.value h in
    rw (c.as_slice.ensures.value, c.change_at.ensures)
    (let l = cells-low k.0 c.args.slots (length s.costs.items) 47 s.counts.items s.cells.items s.costs.items s.raws.items s.total s.payload s.cost k.1 k.2 k.3 t c.args.place.slot h' c.requires.slot in omega (arith, l))

pub first_excess-requires-clause-within : goal.first_excess-requires-clause-within
first_excess-requires-clause-within c = λ t h.
    let s = c.args.self.now in
    let k = c.requires.table in
    let h' = subst (λ w. t < length w) c.as_slice-2.ensures.value h in
    rw (c.as_slice.ensures.value, c.as_slice-2.ensures.value, c.change_at.ensures)
    (cost-holds k.0 c.args.slots (length s.costs.items) s.counts.items s.cells.items s.costs.items s.raws.items s.total s.payload s.cost k.1 t c.args.place.slot h' c.requires.slot)

pub first_excess-requires-clause-cheap : goal.first_excess-requires-clause-cheap
first_excess-requires-clause-cheap c = λ t h.
    let s = c.args.self.now in
    let k = c.requires.table in
    let h' = subst (λ w. t < length w) c.as_slice-2.ensures.value h in
    rw c.as_slice-2.ensures.value
    (let l = small_cost _ c.args.slots 8 70490 (costs-low k.0 c.args.slots (length s.costs.items) 47 s.counts.items s.cells.items s.costs.items s.raws.items s.total s.payload s.cost k.1 k.2 k.3 t h') c.requires.slots in omega (arith, l))

pub returns : goal.returns
returns c = λ xs ys m k.
    let s = c.args.self.now in
    let group = group_at c.args.load.period c.args.place.phase c.args.place.slot in
    let z = k.size.0 in
    let count_is : c.index.result.now ≡ get_or s.counts.items group 0 =
    c.index.ensures ∙ get_or_default_zero s.counts.items c.group_of-group.result c.index.result.now (let b = c.group_of-group.ensures.bound in omega (arith, b, z))
    ∙ ap (λ w. get_or s.counts.items w 0) c.group_of-group.ensures.value in
    let told = rw (c.as_slice.ensures.value, c.as_slice-2.ensures.value, c.change_at.ensures) at c.first_excess.ensures in
    excess_of (item c.args.load c.args.place) c.args.slots (length s.costs.items) c.if-index-eq0.head c.args.value s.counts.items s.cells.items s.costs.items s.raws.items s.total s.payload s.cost c.first_excess.result
    k m c.requires.load.1 c.requires.phase c.requires.slot
    (λ w. elim c.if-index-eq0.branch [ then-index-eq0 b ↦ b.head-is | else-index-eq0 b ↦ absurd (b.if-index-eq0.false (count_is ∙ w)) ])
    (λ w. elim c.if-index-eq0.branch [ then-index-eq0 b ↦ let e = b.if-index-eq0.true in absurd (omega (arith, e, count_is, w)) | else-index-eq0 b ↦ b.head-is ])
    told

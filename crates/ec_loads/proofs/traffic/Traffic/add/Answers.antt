use Rattle.std.proofs.Common.{◌≡◌, ◌+◌, ◌<◌, length, get_or, set, arith, subst, ap, ◌∙◌}
use Rattle.ec_loads.specs.Cost.{item}
use Rattle.ec_loads.specs.Table.{group_at}
use Rattle.ec_loads.proofs.TrafficLemmas.{written, holds_is, holds-more, cells-low, cost-holds, costs-low, raws-low, counts-low, total-low, small_cost}
use Rattle.std.proofs.lemmas.Grind.{get_or_default_zero}
use Rattle.ec_loads.proofs.traffic.Traffic.add.Goals as goal
use Rattle.ec_loads.proofs.traffic.Traffic.add.Goals.{then-count-eq0, else-count-eq0}

pub overflow_add-count : goal.overflow_add-count
overflow_add-count c =
    let s = c.args.self.now in
    let k = c.requires.table in
    let l = counts-low k.0 c.args.slots (length s.costs.items) s.counts.items s.cells.items s.costs.items s.raws.items s.total s.payload s.cost k.1 c.args.load.period c.args.place.phase c.args.place.slot c.requires.load.1 c.requires.phase c.requires.slot in
    let at = ap (λ w. get_or s.counts.items w 0) c.group_of-group.ensures.value in
    let z = k.1.size.0 in
    let same = c.index-count.ensures ∙ get_or_default_zero s.counts.items c.group_of-group.result c.index-count.result.now (let b = c.group_of-group.ensures.bound in omega (arith, b, z)) in
    let few = k.3 in
    omega (arith, l, at, same, few)

pub add_bytes-growth-requires-clause-low : goal.add_bytes-growth-requires-clause-low
add_bytes-growth-requires-clause-low c = λ t h.
    let s = c.args.self.now in
    let k = c.requires.table in
    let h' = subst (λ w. t < length w) c.as_mut_slice-2.ensures.value h in
    rw (c.as_mut_slice.ensures.value, c.change_at.ensures)
    (let l = cells-low k.0 c.args.slots (length s.costs.items) 47 s.counts.items s.cells.items s.costs.items s.raws.items s.total s.payload s.cost k.1 k.2 k.3 t c.args.place.slot h' c.requires.slot in omega (arith, l))

pub add_bytes-growth-requires-clause-within : goal.add_bytes-growth-requires-clause-within
add_bytes-growth-requires-clause-within c = λ t h.
    let s = c.args.self.now in
    let k = c.requires.table in
    let h' = subst (λ w. t < length w) c.as_mut_slice-2.ensures.value h in
    rw (c.as_mut_slice.ensures.value, c.as_mut_slice-2.ensures.value, c.change_at.ensures)
    (cost-holds k.0 c.args.slots (length s.costs.items) s.counts.items s.cells.items s.costs.items s.raws.items s.total s.payload s.cost k.1 t c.args.place.slot h' c.requires.slot)

pub add_bytes-growth-requires-clause-cheap : goal.add_bytes-growth-requires-clause-cheap
add_bytes-growth-requires-clause-cheap c = λ t h.
    let s = c.args.self.now in
    let k = c.requires.table in
    let h' = subst (λ w. t < length w) c.as_mut_slice-2.ensures.value h in
    rw c.as_mut_slice-2.ensures.value
    (let l = small_cost _ c.args.slots 8 70490 (costs-low k.0 c.args.slots (length s.costs.items) 47 s.counts.items s.cells.items s.costs.items s.raws.items s.total s.payload s.cost k.1 k.2 k.3 t h') c.requires.slots in omega (arith, l))

pub add_bytes-growth-requires-clause-raw : goal.add_bytes-growth-requires-clause-raw
add_bytes-growth-requires-clause-raw c = λ t h.
    let s = c.args.self.now in
    let k = c.requires.table in
    let h' = subst (λ w. t < length w) c.as_mut_slice-2.ensures.value h in
    rw c.as_mut_slice-3.ensures.value
    (let l = small_cost _ c.args.slots 8 70446 (raws-low k.0 c.args.slots (length s.costs.items) 47 s.counts.items s.cells.items s.costs.items s.raws.items s.total s.payload s.cost k.1 k.2 k.3 t h') c.requires.slots in omega (arith, l))

pub overflow_add-self : goal.overflow_add-self
overflow_add-self c =
    let s = c.args.self.now in
    let k = c.requires.table in
    let l = total-low k.0 c.args.slots (length s.costs.items) 563568 s.counts.items s.cells.items s.costs.items s.raws.items s.total s.payload s.cost k.1
    (λ t h. let e = small_cost _ c.args.slots 8 70446 (raws-low k.0 c.args.slots (length s.costs.items) 47 s.counts.items s.cells.items s.costs.items s.raws.items s.total s.payload s.cost k.1 k.2 k.3 t h) c.requires.slots in omega (arith, e)) in
    let few = c.requires.ticks in
    let small = c.add_bytes-growth.ensures.small.2 in
    omega (arith, l, few, small)

pub returns-clause-table : goal.returns-clause-table
returns-clause-table c = λ xs ys m k.
    let s = c.args.self.now in
    let g = c.add_bytes-growth in
    let group = group_at c.args.load.period c.args.place.phase c.args.place.slot in
    let sent = rw (c.as_mut_slice.ensures.value, c.as_mut_slice-2.ensures.value, c.change_at.ensures) at g.ensures.sent in
    let idle = rw (c.as_mut_slice.ensures.value, c.as_mut_slice-2.ensures.value, c.change_at.ensures) at g.ensures.idle in
    let slots = rw (c.as_mut_slice.ensures.value, c.change_at.ensures) at g.ensures.slots in
    let costs = rw (c.as_mut_slice.ensures.value, c.as_mut_slice-2.ensures.value, c.change_at.ensures) at g.ensures.costs in
    let raws = rw (c.as_mut_slice.ensures.value, c.as_mut_slice-2.ensures.value, c.as_mut_slice-3.ensures.value, c.change_at.ensures) at g.ensures.raws in
    let total = rw c.as_mut_slice-3.ensures.value at g.ensures.total in
    let payloads = rw (c.as_mut_slice-2.ensures.value, c.change_at.ensures) at g.ensures.payloads in
    let most = rw c.as_mut_slice-2.ensures.value at g.ensures.most in
    let size_cells = g.ensures.size.0 ∙ ap length c.as_mut_slice.ensures.value in
    let size_costs = g.ensures.size.1 ∙ ap length c.as_mut_slice-2.ensures.value in
    let size_raws = g.ensures.size.2 ∙ ap length c.as_mut_slice-3.ensures.value in
    let wc = written s.cells.len g.new.cells s.cells.items size_cells (g.ensures.size.0 ∙ c.as_mut_slice.ensures.len) in
    let wk = written s.costs.len g.new.costs s.costs.items size_costs (g.ensures.size.1 ∙ c.as_mut_slice-2.ensures.len) in
    let wr = written s.raws.len g.new.raws s.raws.items size_raws (g.ensures.size.2 ∙ c.as_mut_slice-3.ensures.len) in
    let z = k.size.0 in
    let count_is : c.index-count.result.now ≡ get_or s.counts.items group 0 =
    c.index-count.ensures ∙ get_or_default_zero s.counts.items c.group_of-group.result c.index-count.result.now (let b = c.group_of-group.ensures.bound in omega (arith, b, z))
    ∙ ap (λ w. get_or s.counts.items w 0) c.group_of-group.ensures.value in
    rw c.group_of-group.ensures.value
    (holds_is ys c.args.slots (length s.costs.items) (set s.counts.items group (c.index-count.result.now + 1)) g.new.cells g.new.costs g.new.raws _ _ _ _ (s.total + g.result.raw) g.result.payload g.result.cost
    (holds-more (item c.args.load c.args.place) c.args.slots (length s.costs.items) c.if-count-eq0.head s.counts.items s.cells.items s.costs.items s.raws.items s.total s.payload s.cost g.new.cells g.new.costs g.new.raws g.result.raw (c.index-count.result.now + 1) g.result.payload g.result.cost
    k m c.requires.slots c.requires.load.1 c.requires.phase c.requires.slot
    (λ w. elim c.if-count-eq0.branch [ then-count-eq0 b ↦ b.head-is | else-count-eq0 b ↦ absurd (b.if-count-eq0.false (count_is ∙ w)) ])
    (λ w. elim c.if-count-eq0.branch [ then-count-eq0 b ↦ let e = b.if-count-eq0.true in absurd (omega (arith, e, count_is, w)) | else-count-eq0 b ↦ b.head-is ])
    (ap (λ w. w + 1) count_is)
    (size_cells, size_costs, size_raws)
    (record { sent = sent; idle = idle; slots = slots })
    costs raws total payloads most g.ensures.grown.0)
    (ap length wk ∙ size_costs) wc wk wr)

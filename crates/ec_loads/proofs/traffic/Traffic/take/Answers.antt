use Rattle.std.proofs.Common.{◌≡◌, ◌<◌, length, ◌-◌, get_or, set, arith, sym, subst, ap, ◌∙◌}
use Rattle.ec_loads.specs.Cost.{item}
use Rattle.ec_loads.specs.Table.{group_at}
use Rattle.ec_loads.proofs.TrafficLemmas.{written, holds_is, holds-less, cost-holds, raw-holds, more-enough, counts-some, less-payload, less-cost}
use Rattle.std.proofs.lemmas.Grind.{get_or_default_zero}
use Rattle.ec_loads.proofs.traffic.Traffic.take.Goals as goal
use Rattle.ec_loads.proofs.traffic.Traffic.take.Goals.{then-count-eq1, else-count-eq1}

pub overflow_sub-count : goal.overflow_sub-count
overflow_sub-count c =
    let s = c.args.self.now in
    let k = c.requires.table in
    let group = group_at c.args.load.period c.args.place.phase c.args.place.slot in
    let z = k.3.size.0 in
    let count_is : c.index-count.result.now ≡ get_or s.counts.items group 0 =
    c.index-count.ensures ∙ get_or_default_zero s.counts.items c.group_of-group.result c.index-count.result.now (let b = c.group_of-group.ensures.bound in omega (arith, b, z))
    ∙ ap (λ w. get_or s.counts.items w 0) c.group_of-group.ensures.value in
    let l = counts-some (item c.args.load c.args.place) c.args.slots (length s.costs.items) s.counts.items s.cells.items s.costs.items s.raws.items s.total s.payload s.cost k.3 k.2 c.requires.load.1 c.requires.phase c.requires.slot in
    omega (arith, count_is, l)

pub take_bytes-fall-requires-clause-enough : goal.take_bytes-fall-requires-clause-enough
take_bytes-fall-requires-clause-enough c = λ t h on.
    let s = c.args.self.now in
    let k = c.requires.table in
    let group = group_at c.args.load.period c.args.place.phase c.args.place.slot in
    let z = k.3.size.0 in
    let count_is : c.index-count.result.now ≡ get_or s.counts.items group 0 =
    c.index-count.ensures ∙ get_or_default_zero s.counts.items c.group_of-group.result c.index-count.result.now (let b = c.group_of-group.ensures.bound in omega (arith, b, z))
    ∙ ap (λ w. get_or s.counts.items w 0) c.group_of-group.ensures.value in
    let h' = subst (λ w. t < length w) c.as_mut_slice-2.ensures.value h in
    let on' = rw (c.change_at.ensures) at on in
    rw (c.as_mut_slice.ensures.value, c.change_at.ensures)
    (more-enough (item c.args.load c.args.place) c.args.slots (length s.costs.items) c.if-count-eq1.head s.counts.items s.cells.items s.costs.items s.raws.items s.total s.payload s.cost k.3 k.2 c.requires.load.1 c.requires.phase c.requires.slot
    (λ w. elim c.if-count-eq1.branch [ then-count-eq1 b ↦ b.head-is | else-count-eq1 b ↦ absurd (b.if-count-eq1.false (count_is ∙ w)) ])
    (λ w. elim c.if-count-eq1.branch [ then-count-eq1 b ↦ let e = b.if-count-eq1.true in absurd (omega (arith, e, count_is, w)) | else-count-eq1 b ↦ b.head-is ])
    t h' on')

pub take_bytes-fall-requires-clause-within : goal.take_bytes-fall-requires-clause-within
take_bytes-fall-requires-clause-within c = λ t h.
    let s = c.args.self.now in
    let k = c.requires.table in
    let h' = subst (λ w. t < length w) c.as_mut_slice-2.ensures.value h in
    rw (c.as_mut_slice.ensures.value, c.as_mut_slice-2.ensures.value, c.change_at.ensures)
    (cost-holds k.1 c.args.slots (length s.costs.items) s.counts.items s.cells.items s.costs.items s.raws.items s.total s.payload s.cost k.3 t c.args.place.slot h' c.requires.slot)

pub take_bytes-fall-requires-clause-raw : goal.take_bytes-fall-requires-clause-raw
take_bytes-fall-requires-clause-raw c = λ t h.
    let s = c.args.self.now in
    let k = c.requires.table in
    let h' = subst (λ w. t < length w) c.as_mut_slice-2.ensures.value h in
    rw (c.as_mut_slice.ensures.value, c.as_mut_slice-3.ensures.value, c.change_at.ensures)
    (raw-holds k.1 c.args.slots (length s.costs.items) s.counts.items s.cells.items s.costs.items s.raws.items s.total s.payload s.cost k.3 t c.args.place.slot h' c.requires.slot)

pub returns-clause-table : goal.returns-clause-table
returns-clause-table c = λ xs ys m k.
    let s = c.args.self.now in
    let g = c.take_bytes-fall in
    let group = group_at c.args.load.period c.args.place.phase c.args.place.slot in
    let sent = rw (c.as_mut_slice.ensures.value, c.as_mut_slice-2.ensures.value, c.change_at.ensures) at g.ensures.sent in
    let idle = rw (c.as_mut_slice.ensures.value, c.as_mut_slice-2.ensures.value, c.change_at.ensures) at g.ensures.idle in
    let slots = rw (c.as_mut_slice.ensures.value, c.change_at.ensures) at g.ensures.slots in
    let costs = rw (c.as_mut_slice.ensures.value, c.as_mut_slice-2.ensures.value, c.change_at.ensures) at g.ensures.costs in
    let raws = rw (c.as_mut_slice.ensures.value, c.as_mut_slice-2.ensures.value, c.as_mut_slice-3.ensures.value, c.change_at.ensures) at g.ensures.raws in
    let total = rw c.as_mut_slice-3.ensures.value at g.ensures.total in
    let size_cells = g.ensures.size.0 ∙ ap length c.as_mut_slice.ensures.value in
    let size_costs = g.ensures.size.1 ∙ ap length c.as_mut_slice-2.ensures.value in
    let size_raws = g.ensures.size.2 ∙ ap length c.as_mut_slice-3.ensures.value in
    let wc = written s.cells.len g.new.cells s.cells.items size_cells (g.ensures.size.0 ∙ c.as_mut_slice.ensures.len) in
    let wk = written s.costs.len g.new.costs s.costs.items size_costs (g.ensures.size.1 ∙ c.as_mut_slice-2.ensures.len) in
    let wr = written s.raws.len g.new.raws s.raws.items size_raws (g.ensures.size.2 ∙ c.as_mut_slice-3.ensures.len) in
    let z = k.size.0 in
    let count_is : c.index-count.result.now ≡ get_or s.counts.items group 0 =
    c.index-count.ensures ∙ get_or_default_zero s.counts.items c.group_of-group.result c.index-count.result.now (let b = c.group_of-group.ensures.bound in omega (arith, b, z))
    ∙ ap (λ w. get_or s.counts.items w 0) c.group_of-group.ensures.value in
    rw c.group_of-group.ensures.value
    (holds_is xs c.args.slots (length s.costs.items) (set s.counts.items group (c.index-count.result.now - 1)) g.new.cells g.new.costs g.new.raws _ _ _ _ (s.total - g.result) s.payload s.cost
    (holds-less (item c.args.load c.args.place) c.args.slots (length s.costs.items) c.if-count-eq1.head s.counts.items s.cells.items s.costs.items s.raws.items s.total s.payload s.cost g.new.cells g.new.costs g.new.raws g.result (c.index-count.result.now - 1)
    k m c.requires.slots c.requires.load.1 c.requires.phase c.requires.slot
    (λ w. elim c.if-count-eq1.branch [ then-count-eq1 b ↦ b.head-is | else-count-eq1 b ↦ absurd (b.if-count-eq1.false (count_is ∙ w)) ])
    (λ w. elim c.if-count-eq1.branch [ then-count-eq1 b ↦ let e = b.if-count-eq1.true in absurd (omega (arith, e, count_is, w)) | else-count-eq1 b ↦ b.head-is ])
    (let l = counts-some (item c.args.load c.args.place) c.args.slots (length s.costs.items) s.counts.items s.cells.items s.costs.items s.raws.items s.total s.payload s.cost k m c.requires.load.1 c.requires.phase c.requires.slot in omega (arith, l, count_is))
    (size_cells, size_costs, size_raws)
    (record { sent = sent; idle = λ t h ne. sym (idle t h ne); slots = λ t r b ne. sym (slots t r b ne) })
    costs raws total
    (less-payload (item c.args.load c.args.place) c.args.slots (length s.costs.items) s.counts.items s.cells.items s.costs.items s.raws.items s.total s.payload s.cost k m)
    (less-cost (item c.args.load c.args.place) c.args.slots (length s.costs.items) s.counts.items s.cells.items s.costs.items s.raws.items s.total s.payload s.cost k m c.requires.slot))
    (ap length wk ∙ size_costs) wc wk wr)

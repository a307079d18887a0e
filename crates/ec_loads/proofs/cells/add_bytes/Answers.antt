use Rattle.std.proofs.Common.{◌≡◌, ℕ, ◌+◌, ◌*◌, ◌%◌, ◌<◌, length, slice_index, ◌-◌, set, arith, sym, subst, ap, ◌∙◌, inl, inr}
use Rattle.std.proofs.Math.Nat.{add-mod_right}
use Rattle.std.proofs.lemmas.List.{length-set}
use Rattle.std.proofs.lemmas.List.Sums.{sum_by-set}
use Rattle.ec_loads.specs.Table.{cell_cost, cell_raw}
use Rattle.ec_loads.proofs.CellLemmas.{one_remainder, cell_cost-le, cell_cost-ge, cell_raw-more, cell_raw-grows}
use Rattle.ec_loads.proofs.StepLemmas.{lt_or_le, other_tick, this_tick, other_slot, column_step, cells_step, ticks_step}
use Rattle.ec_loads.proofs.cells.add_bytes.Goals as goal

pub overflow_add-cost : goal.overflow_add-cost
overflow_add-cost c =
    let at = c.loop-tick.tick * 8 + c.args.change.slot in
    let now = slice_index c.loop-tick.cells at in
    let b = cell_cost-le (now + c.args.change.bytes) in
    let p : now ≡ slice_index c.args.cells.now at = c.loop-tick.invariant.later c.loop-tick.tick (omega arith) (omega arith) in
    let q = c.requires.payloads c.loop-tick.tick (omega arith) in
    let k = c.loop-tick.invariant.costs c.loop-tick.tick (omega arith) in
    let same = ap cell_cost p in
    let m = c.requires.costs c.loop-tick.tick (omega arith) in
    let e = c.cost_of-in-loop-tick.ensures in
    omega (arith, b, p, q, k, same, m, e, c.requires.payload, c.requires.cost, c.requires.bytes)

pub overflow_sub-more : goal.overflow_sub-more
overflow_sub-more c = rw (c.raw_of.ensures, c.raw_of-in-loop-tick.ensures) (cell_raw-more _ _)

pub overflow_add-raws : goal.overflow_add-raws
overflow_add-raws c =
    let at = c.loop-tick.tick * 8 + c.args.change.slot in
    let now = slice_index c.loop-tick.cells at in
    let b = cell_raw-grows now c.args.change.bytes in
    let p : now ≡ slice_index c.args.cells.now at = c.loop-tick.invariant.later c.loop-tick.tick (omega arith) (omega arith) in
    let k = c.loop-tick.invariant.raws c.loop-tick.tick (omega arith) in
    let same = ap cell_raw p in
    let m = c.requires.raw c.loop-tick.tick (omega arith) in
    omega (arith, b, k, same, m, c.raw_of.ensures, c.raw_of-in-loop-tick.ensures, c.requires.bytes)

pub loop-tick-preserved : goal.loop-tick-preserved
loop-tick-preserved c =
    let k = c.loop-tick.tick in
    let p = c.args.change.period in
    let s = c.args.change.slot in
    let n = length c.loop-tick.costs in
    let cells = c.loop-tick.cells in
    let olds = c.args.cells.now in
    let v = slice_index cells (k * 8 + s) + c.args.change.bytes in
    let inv = c.loop-tick.invariant in
    let room : k * 8 + s < length cells = omega arith in
    let within : k < length c.loop-tick.costs = omega arith in
    let inside : k < length c.loop-tick.raws = omega arith in
    let shorter : (t : ℕ) → t < length (set c.loop-tick.costs k (slice_index c.loop-tick.costs k - c.cost_of.result + c.cost_of-in-loop-tick.result)) → t < n = λ t h. subst (λ w. t < w) (length-set c.loop-tick.costs k _) h in
    let same : slice_index cells (k * 8 + s) ≡ slice_index olds (k * 8 + s) = inv.later k within (omega arith) in
    let grows = cell_raw-more (slice_index cells (k * 8 + s)) c.args.change.bytes in
    let most = cell_raw-grows (slice_index cells (k * 8 + s)) c.args.change.bytes in
    let len = length-set c.loop-tick.costs k (slice_index c.loop-tick.costs k - c.cost_of.result + c.cost_of-in-loop-tick.result) in
    let low = c.requires.low k (omega arith) in
    let cheap = c.requires.cheap k (omega arith) in
    let below = cell_cost-ge (slice_index cells (k * 8 + s)) in
    let above = cell_cost-le (slice_index cells (k * 8 + s) + c.args.change.bytes) in
    let cost_at = inv.costs k within in
    let least = c.requires.within k (omega arith) in
    let cost_same = ap cell_cost same in
    record {
      turn = add-mod_right k p ∙ inv.turn;
      later = λ t h far. other_tick cells t k s v (omega arith) ∙ inv.later t (shorter t h) (omega arith);
      sent = λ t h low on. elim (lt_or_le t k) [
        | inl lt ↦ other_tick cells t k s v (omega arith) ∙ inv.sent t (shorter t h) lt on
        | inr le ↦
            let is : k ≡ t = one_remainder p k t (inv.turn ∙ sym on) le low in
            this_tick cells t k s v (sym is) room
            ∙ ap (λ w. slice_index cells (w * 8 + s) + c.args.change.bytes) is
            ∙ ap (λ w. w + c.args.change.bytes) (inv.later t (shorter t h) le)
      ];
      idle = λ t h off. other_tick cells t k s v (λ e. off (ap (λ w. w % p) e ∙ inv.turn)) ∙ inv.idle t (shorter t h) off;
      slots = λ t r below ne. other_slot cells t k s r v c.requires.slot below ne ∙ inv.slots t r below ne;
      costs = λ t h. column_step cell_cost olds cells c.args.costs.now c.loop-tick.costs n k s v _ room within inv.costs same
          (omega (arith, cost_at, least, cost_same, c.cost_of.ensures, c.cost_of-in-loop-tick.ensures)) t (shorter t h);
      raws = λ t h. column_step cell_raw olds cells c.args.raws.now c.loop-tick.raws n k s v _ room inside inv.raws same
          (omega (arith, grows, c.raw_of.ensures, c.raw_of-in-loop-tick.ensures)) t (shorter t h);
      total =
          let e = sum_by-set (λ r. r) c.loop-tick.raws k (slice_index c.loop-tick.raws k + (c.raw_of.result - c.raw_of-in-loop-tick.result)) 0 inside in
          omega (arith, e, inv.total, c.from.ensures);
      small = (
        omega (arith, inv.small.0, most, c.raw_of.ensures, c.raw_of-in-loop-tick.ensures, c.from.ensures, c.requires.bytes, c.requires.phase),
        omega (arith, within, len, c.requires.period),
        omega (arith, inv.small.2, low, same, c.max.ensures, c.requires.bytes),
        omega (arith, inv.small.3, cheap, cost_at, cost_same, same, below, above, c.max-in-loop-tick.ensures, c.requires.bytes, c.cost_of.ensures, c.cost_of-in-loop-tick.ensures),
      );
      payloads = λ t h. cells_step cells n k s v c.loop-tick.growth.payload _ room inv.payloads (omega (arith, c.max.ensures)) (omega (arith, c.max.ensures)) t (shorter t h);
      most = λ t h. ticks_step c.loop-tick.costs n k _ c.loop-tick.growth.cost _ within inv.most (omega (arith, c.max-in-loop-tick.ensures)) (omega (arith, c.max-in-loop-tick.ensures)) t (shorter t h);
      grown = (omega (arith, inv.grown.0, c.max.ensures), omega (arith, inv.grown.1, c.max-in-loop-tick.ensures));
    }

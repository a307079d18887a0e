use Rattle.std.proofs.Common.{◌≡◌, ℕ, ◌+◌, ◌*◌, ◌%◌, ◌<◌, length, slice_index, ◌-◌, set, arith, sym, subst, ap, ◌∙◌, inl, inr}
use Rattle.std.proofs.Math.Nat.{add-mod_right}
use Rattle.std.proofs.lemmas.List.{length-set}
use Rattle.std.proofs.lemmas.List.Sums.{sum_by-set}
use Rattle.ec_loads.specs.Table.{cell_cost, cell_raw}
use Rattle.ec_loads.proofs.CellLemmas.{one_remainder, cell_cost-le, cell_raw-grows, cell_raw-less}
use Rattle.ec_loads.proofs.StepLemmas.{lt_or_le, other_tick, this_tick, other_slot, column_step}
use Rattle.ec_loads.proofs.cells.take_bytes.Goals as goal

pub overflow_sub-new : goal.overflow_sub-new
overflow_sub-new c =
    let k = c.loop-tick.tick in
    let p = c.loop-tick.invariant.later k (omega arith) (omega arith) in
    let e = c.requires.enough k (omega arith) c.loop-tick.invariant.turn in
    omega (arith, p, e)

pub overflow_sub-cost : goal.overflow_sub-cost
overflow_sub-cost c =
    let k = c.loop-tick.tick in
    let p = ap cell_cost (c.loop-tick.invariant.later k (omega arith) (omega arith)) in
    let q = c.loop-tick.invariant.costs k (omega arith) in
    let e = c.requires.within k (omega arith) in
    omega (arith, p, q, e, c.cost_of.ensures)

pub overflow_add-cost : goal.overflow_add-cost
overflow_add-cost c =
    let k = c.loop-tick.tick in
    let at = k * 8 + c.args.change.slot in
    let l = c.loop-tick.invariant.later k (omega arith) (omega arith) in
    let p = ap cell_cost l in
    let q = c.loop-tick.invariant.costs k (omega arith) in
    let m = c.requires.costs k (omega arith) in
    let b = cell_cost-le (slice_index c.loop-tick.cells at - c.args.change.bytes) in
    let r = c.requires.payloads k (omega arith) in
    omega (arith, l, p, q, m, b, r, c.cost_of.ensures, c.cost_of-in-loop-tick.ensures)

pub overflow_sub-less : goal.overflow_sub-less
overflow_sub-less c =
    let k = c.loop-tick.tick in
    let l = c.loop-tick.invariant.later k (omega arith) (omega arith) in
    let e = c.requires.enough k (omega arith) c.loop-tick.invariant.turn in
    rw (c.raw_of.ensures, c.raw_of-in-loop-tick.ensures) (cell_raw-less _ _)

pub overflow_sub-raws : goal.overflow_sub-raws
overflow_sub-raws c =
    let k = c.loop-tick.tick in
    let l = c.loop-tick.invariant.later k (omega arith) (omega arith) in
    let p = ap cell_raw l in
    let q = c.loop-tick.invariant.raws k (omega arith) in
    let m = c.requires.raw k (omega arith) in
    omega (arith, p, q, m, c.raw_of.ensures)

pub loop-tick-preserved : goal.loop-tick-preserved
loop-tick-preserved c =
    let k = c.loop-tick.tick in
    let p = c.args.change.period in
    let s = c.args.change.slot in
    let n = length c.loop-tick.costs in
    let cells = c.loop-tick.cells in
    let olds = c.args.cells.now in
    let v = slice_index cells (k * 8 + s) - c.args.change.bytes in
    let inv = c.loop-tick.invariant in
    let room : k * 8 + s < length cells = omega arith in
    let within : k < length c.loop-tick.costs = omega arith in
    let inside : k < length c.loop-tick.raws = omega arith in
    let shorter : (t : ℕ) → t < length (set c.loop-tick.costs k (slice_index c.loop-tick.costs k - c.cost_of.result + c.cost_of-in-loop-tick.result)) → t < n = λ t h. subst (λ w. t < w) (length-set c.loop-tick.costs k _) h in
    let same : slice_index cells (k * 8 + s) ≡ slice_index olds (k * 8 + s) = inv.later k within (omega arith) in
    let enough = c.requires.enough k (omega arith) inv.turn in
    let back : slice_index cells (k * 8 + s) ≡ v + c.args.change.bytes = omega (arith, same, enough) in
    let fewer = cell_raw-less (slice_index cells (k * 8 + s)) c.args.change.bytes in
    let most = ap cell_raw back in
    let grows = cell_raw-grows v c.args.change.bytes in
    let raw_at = inv.raws k within in
    let raw_least = c.requires.raw k (omega arith) in
    let raw_same = ap cell_raw same in
    let cost_at = inv.costs k within in
    let least = c.requires.within k (omega arith) in
    let cost_same = ap cell_cost same in
    record {
      turn = add-mod_right k p ∙ inv.turn;
      later = λ t h far. other_tick cells t k s v (omega arith) ∙ inv.later t (shorter t h) (omega arith);
      sent = λ t h low on. elim (lt_or_le t k) [
        | inl lt ↦ inv.sent t (shorter t h) lt on ∙ ap (λ w. w + c.args.change.bytes) (sym (other_tick cells t k s v (omega arith)))
        | inr le ↦
            let is : k ≡ t = one_remainder p k t (inv.turn ∙ sym on) le low in
            let new = this_tick cells t k s v (sym is) room in
            let here = ap (λ w. slice_index cells (w * 8 + s)) is in
            let old = inv.later t (shorter t h) le in
            omega (arith, new, here, old, back)
      ];
      idle = λ t h off. other_tick cells t k s v (λ e. off (ap (λ w. w % p) e ∙ inv.turn)) ∙ inv.idle t (shorter t h) off;
      slots = λ t r below ne. other_slot cells t k s r v c.requires.slot below ne ∙ inv.slots t r below ne;
      costs = λ t h. column_step cell_cost olds cells c.args.costs.now c.loop-tick.costs n k s v _ room within inv.costs same
          (omega (arith, cost_at, least, cost_same, c.cost_of.ensures, c.cost_of-in-loop-tick.ensures)) t (shorter t h);
      raws = λ t h. column_step cell_raw olds cells c.args.raws.now c.loop-tick.raws n k s v _ room inside inv.raws same
          (omega (arith, fewer, raw_at, raw_least, raw_same, c.raw_of.ensures, c.raw_of-in-loop-tick.ensures)) t (shorter t h);
      total =
          let e = sum_by-set (λ r. r) c.loop-tick.raws k (slice_index c.loop-tick.raws k - (c.raw_of.result - c.raw_of-in-loop-tick.result)) 0 inside in
          omega (arith, e, inv.total, raw_at, raw_least, raw_same, fewer, c.raw_of.ensures, c.raw_of-in-loop-tick.ensures, c.from-fall.ensures);
      small = omega (arith, inv.small, most, grows, c.raw_of.ensures, c.raw_of-in-loop-tick.ensures, c.from-fall.ensures, c.requires.bytes, c.requires.phase);
    }

pub returns-clause-sent : goal.returns-clause-sent
returns-clause-sent c = λ t h on. c.loop-tick.invariant.sent t (omega arith) (omega arith) on

pub returns-clause-idle : goal.returns-clause-idle
returns-clause-idle c = λ t h off. c.loop-tick.invariant.idle t (omega arith) off

pub returns-clause-slots : goal.returns-clause-slots
returns-clause-slots c = c.loop-tick.invariant.slots

pub returns-clause-costs : goal.returns-clause-costs
returns-clause-costs c = λ t h. c.loop-tick.invariant.costs t (omega arith)

pub returns-clause-raws : goal.returns-clause-raws
returns-clause-raws c = λ t h. c.loop-tick.invariant.raws t (omega arith)

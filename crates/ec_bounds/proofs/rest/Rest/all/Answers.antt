use Rattle.std.proofs.lemmas.Grind.{common_steps}
use Rattle.ec_units.specs.declared.unit.Load.{Load}
use Rattle.std.proofs.Common.{rules, ◌+◌, ◌<◌, get_or, ◌≡◌, ap, length, sym, ◌∙◌, refl, arith}
use Rattle.std.proofs.lemmas.List.{length-map, length-set}
use Rattle.ec_hyper.specs.Lcm.{lcm_of}
use Rattle.ec_units.specs.Load.{load_of, loads_of, periods_of}
use Rattle.ec_loads.proofs.ItemLemmas.{AreLoads-loads_of}
use Rattle.ec_bounds.proofs.LeftLemmas.{all-unplaced, left, table-done}
use Rattle.ec_bounds.proofs.RestLemmas.{all-running, demand_step, sent_step}
use Rattle.ec_bounds.proofs.rest.Rest.all.Goals as goal

pub invariant_of-result : goal.invariant_of-result
invariant_of-result c =
    let us = c.args.units.now.units in
    let is = table-done c.as_slice-all.result.now us c.loop-i.table c.loop-i.i c.as_slice-all.ensures c.loop-i-test.false c.loop-i.auto.i-end c.loop-i.invariant.copied in
    let few : length c.as_slice-all.result.now ≡ length us = ap length c.as_slice-all.ensures in
    record {
      few = omega (arith, c.args.units.now.unit_count.1);
      table = c.loop-i.invariant.room;
      flags = refl;
      units = rw is (AreLoads-loads_of us);
      whole = c.hyper-hyper.ensures.value ∙ sym (ap (λ w. lcm_of (periods_of w)) is);
      products = λ k below. c.loop-i.invariant.products k (omega (arith, below));
      running = all-running c.hyper-hyper.result c.loop-i.i (length c.as_slice-all.result.now) c.loop-i.table c.loop-i.demand (omega arith) (omega (arith, few, c.args.units.now.unit_count.1)) (omega (arith, few, c.loop-i.invariant.room, c.args.units.now.unit_count.1)) c.loop-i.invariant.running;
      room = c.loop-i.invariant.space;
    }

pub returns : goal.returns
returns c =
    let us = c.args.units.now.units in
    let is = table-done c.as_slice-all.result.now us c.loop-i.table c.loop-i.i c.as_slice-all.ensures c.loop-i-test.false c.loop-i.auto.i-end c.loop-i.invariant.copied in
    let few : length c.as_slice-all.result.now ≡ length us = ap length c.as_slice-all.ensures in
    let flags = all-unplaced (loads_of us) (length c.as_slice-all.result.now) (length-map us load_of ∙ sym few) (omega (arith, c.args.units.now.unit_count.1)) in
    (λ i. left (is i) (flags i))

pub loop-i-preserved : goal.loop-i-preserved
loop-i-preserved c =
    let inv = c.loop-i.invariant in
    let l : Load = record { bytes = c.bytes_of.result; period = (get_or c.as_slice-all.result.now c.loop-i.i c.index-all-i-in-loop-i.result).period } in
    let size = length-set c.loop-i.table c.loop-i.i l in
    let len = length-set c.loop-i.sent c.loop-i.i c.sent_by-bytes.result in
    let few : length c.as_slice-all.result.now ≡ length c.args.units.now.units = ap length c.as_slice-all.ensures in
    let room : c.loop-i.i < length c.loop-i.table = omega (arith, c.loop-i-test.true, few, inv.room, c.args.units.now.unit_count.1) in
    let space : c.loop-i.i < length c.loop-i.sent = omega (arith, c.loop-i-test.true, few, inv.space, c.args.units.now.unit_count.1) in
    let more = demand_step c.loop-i.table c.loop-i.i c.hyper-hyper.result c.sent_by-bytes.result l c.loop-i.demand room c.sent_by-bytes.ensures.value inv.running in
    record {
      room = omega (arith, size, inv.room);
      space = omega (arith, len, inv.space);
      copied = first_of (search rules, grind (arith, common_steps));
      products = sent_step c.hyper-hyper.result c.loop-i.i c.sent_by-bytes.result c.loop-i.table c.loop-i.sent l room space c.sent_by-bytes.ensures.value inv.products;
      running = ap (λ w. c.loop-i.demand + w) c.from-demand.ensures ∙ more;
      bound = omega (arith, inv.bound, c.from-demand.ensures, c.sent_by-bytes.ensures.bound);
    }

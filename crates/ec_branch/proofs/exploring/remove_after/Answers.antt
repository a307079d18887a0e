use Rattle.std.proofs.Common.{◌≡◌, ◌-◌, ◌<◌, inl, inr, length, set, get_or, slice_get, None, Some, ap, sym, subst, ◌∙◌, arith}
use Rattle.std.proofs.lemmas.Bool.{cases_eq}
use Rattle.std.proofs.lemmas.List.{length-set}
use Rattle.ec_loads.specs.Held.{Held}
use Rattle.ec_loads.specs.Search.{Prefix}
use Rattle.ec_bounds.proofs.HeldLemmas.{rest_follows}
use Rattle.ec_branch.proofs.PlacingLemmas.{own_place, other_place, none_stays}
use Rattle.ec_branch.proofs.TurnLemmas.{apart_at}
use Rattle.ec_branch.proofs.exploring.remove_after.Goals as goal

pub loop-i-preserved : goal.loop-i-preserved
loop-i-preserved c =
    let inv = c.loop-i.invariant in
    let u = c.from-unit.result in
    let is = c.from-unit.ensures in
    let i = c.loop-i.i in
    let order = c.args.order.now in
    let before = c.loop-i.loads.places in
    let made = c.take_back.ensures.loads in
    let after = ap (λ (w : Held). w.places) made in
    let low : u < length before =
    subst (λ w. w < length before) (sym is) (subst (λ n. get_or order (i - 1) 0 < n) (sym (inv.count ∙ c.requires.each)) (c.requires.order.below (i - 1) 0 (omega (arith, inv.within, c.loop-i-test.true)))) in
    record {
      loads = ap (λ (w : Held). w.loads) made ∙ inv.loads;
      slots = ap (λ (w : Held). w.slots) made ∙ inv.slots;
      count = ap length after ∙ length-set before u None ∙ inv.count;
      low = omega (arith, c.loop-i-test.true);
      within = omega (arith, inv.within);
      left = rest_follows c.loop-i.loads c.take_back.new.loads c.loop-i.rest c.take_back.new.rest u None inv.left made c.take_back.ensures.rest;
      free =
          λ j from within.
          subst (λ (ps : Prefix). slice_get ps (get_or order j 0) ≡ Some None) (sym after)
          (elim (cases_eq j (i - 1)) [
            | inl same ↦ subst (λ w. slice_get (set before u None) w ≡ Some None) (is ∙ ap (λ k. get_or order k 0) (sym same)) (own_place before u None low)
            | inr apart ↦ none_stays before u (get_or order j 0) (inv.free j (omega (arith, from, apart)) within)
          ]);
      stand =
          λ j less.
          ap (λ (ps : Prefix). slice_get ps (get_or order j 0)) after
          ∙ other_place before u (get_or order j 0) None (λ same. apart_at order j (i - 1) c.requires.order.once (omega (arith, less, c.loop-i-test.true)) (omega (arith, inv.within, c.loop-i-test.true)) (sym (sym is ∙ same)))
          ∙ inv.stand j less;
    }

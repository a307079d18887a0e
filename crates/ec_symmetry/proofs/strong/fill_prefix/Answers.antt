use Rattle.std.proofs.Common.{◌∙◌, ℕ, ◌<◌, take, length, sym, arith, refl, rules}
use Rattle.std.proofs.lemmas.List.Elements.{All-get_or}
use Rattle.ec_symmetry.proofs.PrefixLemmas.{prefix_step, prefix_end}
use Rattle.ec_symmetry.proofs.strong.fill_prefix.Goals as goal

pub loop-i-preserved : goal.loop-i-preserved
loop-i-preserved c =
    let order = c.args.order.now in
    let i = c.loop-i.i in
    let inv = c.loop-i.invariant in
    let within : i < length order = omega arith in
    let low = All-get_or (λ (u : ℕ). u < c.args.units) order i 0 within c.requires.below in
    record {
      room = search rules;
      left = prefix_step c.loop-i.table order c.args.before.now i c.args.units c.from.result _ _ within c.loop-i-test.true (rw c.from.ensures low) c.from.ensures refl ∙ inv.left;
    }

pub returns : goal.returns
returns c = sym (prefix_end (take c.args.units c.loop-i.table) c.args.order.now c.args.before.now c.loop-i.i c.loop-i-test.false) ∙ c.loop-i.invariant.left

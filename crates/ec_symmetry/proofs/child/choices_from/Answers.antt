use Rattle.std.proofs.Common.{◌-◌, ◌∙◌, refl, sym, arith, inl, inr}
use Rattle.ec_symmetry.proofs.SuffixLemmas.{suffix, next-row, none-left, suffix-none}
use Rattle.ec_symmetry.proofs.child.choices_from.Goals as goal

pub returns-then-width-eq0 : goal.returns-then-width-eq0
returns-then-width-eq0 c =
    let first = c.args.first in
    let w = c.width_of-width.result in
    let left = c.args.phases - first.phase in
    elim c.then-width-eq0.either [
      | inl none ↦ sym (suffix-none first c.args.slots c.args.used c.args.phases w c.width_of-width.ensures none)
      | inr late ↦ sym (suffix first c.args.slots c.args.used c.args.phases w left c.width_of-width.ensures refl ∙ none-left w first.phase first.slot left (omega (arith, late.1)))
    ]

pub returns-then-first-width : goal.returns-then-first-width
returns-then-first-width c =
    sym (suffix c.args.first c.args.slots c.args.used c.args.phases c.width_of-width.result (c.args.phases - c.args.first.phase) c.width_of-width.ensures refl)

pub returns : goal.returns
returns c =
    let first = c.args.first in
    let w = c.width_of-width.result in
    let left = c.args.phases - first.phase in
    sym (suffix first c.args.slots c.args.used c.args.phases w left c.width_of-width.ensures refl ∙ next-row w first.phase first.slot left c.if-first-width.false)

use Rattle.std.proofs.Common.{◌≡◌, ◌∙◌, sym, ap, arith, min, suc, if◌then◌else◌}
use Rattle.ec_loads.specs.Search.{places_for}
use Rattle.ec_symmetry.specs.Choices.{places_left}
use Rattle.ec_symmetry.proofs.ChoiceLemmas.{left_all, left_none}
use Rattle.ec_symmetry.proofs.child.choices.Goals as goal
use Rattle.ec_symmetry.proofs.child.choices.Goals.{then-used-slots, else-used-slots, in-0-default, in_default-true, in_default-false}

pub returns : goal.returns
returns c =
    let k = c.args.used in
    let w = c.if-used-slots.result in
    let n = c.args.slots in
    let width : w ≡ min (suc k) n = elim c.if-used-slots.branch [
      | then-used-slots b ↦ omega arith
      | else-used-slots b ↦ omega arith
    ] in
    elim c.match-slots.branch [
      | in-0-default b ↦
          ap (places_left w 0 0) b.result-is ∙ sym (left_none k (if c.args.turned then 1 else c.args.period))
          ∙ ap (λ m. places_for (if c.args.turned then 1 else c.args.period) m k) (sym b.in-0-default.is-0)
      | in_default-true b ↦
          ap (places_left w 0 0) b.result-is ∙ left_all n k 1 w width ∙ ap (λ q. places_for (if q then 1 else c.args.period) n k) (sym b.in_default-true.is-1)
      | in_default-false b ↦
          ap (places_left w 0 0) b.result-is ∙ left_all n k c.args.period w width ∙ ap (λ q. places_for (if q then 1 else c.args.period) n k) (sym b.in_default-false.is-1)
    ]

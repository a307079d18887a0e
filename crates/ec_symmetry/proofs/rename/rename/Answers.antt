use Rattle.std.proofs.Common.{◌+◌, ◌∙◌, sym, arith, drop}
use Rattle.ec_symmetry.specs.Renamed.{renamed}
use Rattle.ec_symmetry.proofs.RenameLemmas.{rename_old, rename_new, rename_done}
use Rattle.ec_symmetry.proofs.rename.rename.Goals as goal
use Rattle.ec_symmetry.proofs.rename.rename.Goals.{then-from-used, else-from-used}

pub loop-unit-preserved : goal.loop-unit-preserved
loop-unit-preserved c =
    let order = c.args.order.now in
    let i = c.loop-unit.unit-index in
    let k = c.loop-unit.used in
    let plan = c.loop-unit.places in
    let slot = c.slot_of-slot.ensures in
    elim c.if-from-used.branch [
      | then-from-used w ↦
          record {
            left =
                (λ j. renamed (w.used-is j) (drop (i + 1) order) ((w.places-is ∙ w.swap_slots.ensures) j))
                ∙ rename_new k c.slot_of-slot.result c.from.result i order plan (omega arith) c.from.ensures slot (omega arith)
                ∙ c.loop-unit.invariant.left;
            few = omega arith;
          }
      | else-from-used w ↦
          record {
            left =
                (λ j. renamed (w.used-is j) (drop (i + 1) order) (w.places-is j))
                ∙ rename_old k c.from.result i order plan (omega arith) c.from.ensures (omega arith)
                ∙ c.loop-unit.invariant.left;
            few = omega arith;
          }
    ]

pub returns : goal.returns
returns c = sym (rename_done c.loop-unit.used c.loop-unit.unit-index c.args.order.now c.loop-unit.places (omega arith)) ∙ c.loop-unit.invariant.left

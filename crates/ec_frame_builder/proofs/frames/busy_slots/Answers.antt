use Rattle.std.proofs.Common.{ℕ, ◌≤◌, List, Vec, Global, All, sym, ap, ◌∙◌, subst, refl}
use Rattle.ec_fmmu.specs.declared.group.Group.{Group}
use Rattle.ec_frame_builder.specs.Frames.{carries}
use Rattle.ec_frame_builder.proofs.FrameLemmas.{busy-yes, busy-no}
use Rattle.ec_frame_builder.proofs.WithinLemmas.{groups-within}
use Rattle.ec_frame_builder.proofs.frames.busy_slots.Goals as goal
use Rattle.ec_frame_builder.proofs.frames.busy_slots.Goals.{then-is_carrying+in_ok-push, else-is_carrying}

pub is_carrying-requires : goal.is_carrying-requires
is_carrying-requires c =
    let h = c.requires.1 in
    subst (λ (gs : List Group). All (λ (g : Group). 1 ≤ g.period) gs) (sym c.as_slice-groups.ensures)
    (λ k d l. (groups-within c.args.units.now.units c.requires.0 c.args.mapping.now.groups _ h.layout.groups refl k d l).0)

pub loop-slot-preserved : goal.loop-slot-preserved
loop-slot-preserved c =
    let p = carries c.as_slice-groups.result.now c.args.tick in
    elim c.if-is_carrying.branch [
      | then-is_carrying+in_ok-push w ↦
          ap (λ (v : Vec ℕ Global). v.items) w.slots-is
          ∙ (w.in_ok-push.ensures.items ∙ busy-yes p c.loop-slot.slots.items c.loop-slot.slot (sym c.is_carrying.ensures ∙ w.if-is_carrying.true) c.loop-slot.invariant)
      | else-is_carrying w ↦
          ap (λ (v : Vec ℕ Global). v.items) w.slots-is
          ∙ busy-no p c.loop-slot.slots.items c.loop-slot.slot (sym c.is_carrying.ensures ∙ w.if-is_carrying.false) c.loop-slot.invariant
    ]

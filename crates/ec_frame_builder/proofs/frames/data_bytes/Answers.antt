use Rattle.std.proofs.Common.{length, length-take, length-drop, ap, arith}
use Rattle.std.proofs.lemmas.Grind.{common_steps}
use Rattle.ec_fmmu.specs.declared.group.Group.{Group}
use Rattle.ec_frame_builder.proofs.FrameLemmas.{data-room}
use Rattle.ec_frame_builder.proofs.frames.data_bytes.Goals as goal

pub prove-unreachable-requires : goal.prove-unreachable-requires
prove-unreachable-requires c =
    let none : Group = record { slot = 0; period = 0; phase = 0; start = 0; len = 0; counter = 0 } in
    let room = data-room c.args.bytes.now c.args.groups.now c.loop-group.group-index none c.loop-group-test.true in
    let had = ap length c.loop-group.invariant in
    grind (arith, common_steps, c.try_extend_from_slice-done.ensures.variant, c.requires.room, room, had, length-take, length-drop)

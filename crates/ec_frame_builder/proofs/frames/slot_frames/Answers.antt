use Rattle.std.proofs.Common.{ℕ}
use Rattle.arrayvec.specs.ArrayVec.{ArrayVec}
use Rattle.ec_frame_builder.specs.Frames.{going, carries, frame_of}
use Rattle.ec_frame_builder.proofs.FrameLemmas.{slots-more}
use Rattle.ec_frame_builder.proofs.frames.slot_frames.Goals as goal

pub loop-slot-preserved : goal.loop-slot-preserved
loop-slot-preserved c =
    slots-more (λ (frame : ArrayVec ℕ). frame.items) _ _ _ (λ s. frame_of (going c.args.groups.now c.args.tick s) c.args.bytes.now) (carries c.args.groups.now c.args.tick)
    c.loop-slot.slot c.in_ok-found.ensures c.in_ok-push_frame.ensures c.loop-slot.invariant

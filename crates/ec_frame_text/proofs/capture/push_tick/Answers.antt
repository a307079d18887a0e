use Rattle.std.proofs.Common.{ℕ}
use Rattle.arrayvec.specs.ArrayVec.{ArrayVec}
use Rattle.ec_frame_builder.specs.Frames.{carries, going, sent, slot_frame}
use Rattle.ec_frame_text.specs.Lines.{slots_of}
use Rattle.ec_frame_text.proofs.LineLemmas.{few_frames, frame_long, long_frames}
use Rattle.ec_frame_text.proofs.capture.push_tick.Goals as goal

pub push_records-requires-clause-few : goal.push_records-requires-clause-few
push_records-requires-clause-few c =
    let m = c.args.mapping.now in
    few_frames (λ (frame : ArrayVec ℕ). frame.items) c.as_slice.result.now c.in-Ok.frames.items (slot_frame m c.args.image.now c.args.tick) (carries m.groups c.args.tick) c.args.units.now.slots c.args.units.now.slot_range.1 c.as_slice.ensures.value c.in-Ok.ensures.frames

pub push_records-requires-clause-long : goal.push_records-requires-clause-long
push_records-requires-clause-long c =
    let m = c.args.mapping.now in
    long_frames (λ (frame : ArrayVec ℕ). frame.items) c.as_slice.result.now c.in-Ok.frames.items (slot_frame m c.args.image.now c.args.tick) (slots_of m c.args.units.now.slots c.args.tick)
    (λ s. frame_long (going m.groups c.args.tick s) (sent m.fmmus c.args.image.now)) c.as_slice.ensures.value c.in-Ok.ensures.frames

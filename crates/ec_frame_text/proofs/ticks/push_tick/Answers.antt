use Rattle.std.proofs.Common.{◌≡◌, ℕ, List, map, ap, ◌∙◌}
use Rattle.arrayvec.specs.ArrayVec.{ArrayVec}
use Rattle.ec_frame_builder.specs.Frames.{going, sent, slot_frame, frames_of}
use Rattle.ec_frame_text.specs.Lines.{zeros, slots_of}
use Rattle.ec_frame_text.proofs.LineLemmas.{frame_long, long_frames, tick_text}
use Rattle.ec_frame_text.proofs.ticks.push_tick.Goals as goal

pub push_frames-requires-clause-long : goal.push_frames-requires-clause-long
push_frames-requires-clause-long c =
    let m = c.args.mapping.now in
    long_frames (λ (frame : ArrayVec ℕ). frame.items) c.as_slice-2.result.now c.in-Ok-tick_frames.frames.items (slot_frame m c.args.image.now c.args.tick) (slots_of m c.args.units.now.slots c.args.tick)
    (λ s. frame_long (going m.groups c.args.tick s) (sent m.fmmus c.args.image.now)) c.as_slice-2.ensures.value c.in-Ok-tick_frames.ensures.frames

pub returns : goal.returns
returns c =
    let m = c.args.mapping.now in
    tick_text (λ (frame : ArrayVec ℕ). frame.items) _ _ c.as_slice.result.now (slots_of m c.args.units.now.slots c.args.tick) c.as_slice-2.result.now c.in-Ok-tick_frames.frames.items (slot_frame m (zeros m) c.args.tick) c.args.tick
    c.in_ok-push_frames.ensures (c.as_slice.ensures.value ∙ c.in-Ok.ensures) c.as_slice-2.ensures.value
    (c.in-Ok-tick_frames.ensures.frames ∙ ap (λ (image : List ℕ). frames_of m image c.args.units.now.slots c.args.tick) c.requires.image)

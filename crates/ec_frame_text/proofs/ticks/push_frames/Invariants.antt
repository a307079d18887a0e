use Rattle.std.proofs.Common.{◌≡◌, ◌≤◌, ◌++◌, drop, length, map, All, string_bytes}
use Rattle.ec_frame_text.specs.Lines.{frame_lines}
use Rattle.ec_frame_text.proofs.ticks.push_frames.Given as goal

abbrev pub invariant-loop-i : goal.invariant-loop-i
invariant-loop-i l =
    record {
      count : length l.frames ≡ length l.slots;
      long : All (λ frame. 60 ≤ length frame.items) l.frames;
      lines : string_bytes l.text ++ frame_lines l.tick (drop l.i l.slots) (map (λ frame. frame.items) (drop l.i l.frames))
          ≡ string_bytes l.initial.text ++ frame_lines l.tick l.slots (map (λ frame. frame.items) l.frames);
    }

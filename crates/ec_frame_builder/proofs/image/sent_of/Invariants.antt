use Rattle.std.proofs.Common.{◌≡◌, ℕ, ◌+◌, cond, get_or, take, length}
use Rattle.ec_frame_builder.specs.Frames.{is_input}
use Rattle.ec_frame_builder.proofs.image.sent_of.Given as goal

abbrev pub invariant-loop-pair : goal.invariant-loop-pair
invariant-loop-pair l =
    record {
      len : length l.bytes.items ≡ length l.image;
      each : (k : ℕ) → get_or l.bytes.items k 0 ≡ cond (is_input (take l.pair-index l.fmmus) (65536 + k)) 0 (get_or l.image k 0);
    }

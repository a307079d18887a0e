use Rattle.std.proofs.Common.{◌≡◌, ◌++◌, drop, length, string_bytes}
use Rattle.ec_frame_text.specs.Lines.{fmmu_lines}
use Rattle.ec_frame_text.proofs.stations.push_fmmus.Given as goal

abbrev pub invariant-loop-i : goal.invariant-loop-i
invariant-loop-i l =
    record {
      count : length l.fmmus ≡ length l.stations;
      lines : string_bytes l.text ++ fmmu_lines (drop l.i l.stations) (drop l.i l.fmmus) ≡ string_bytes l.initial.text ++ fmmu_lines l.stations l.fmmus;
    }

use Rattle.std.proofs.Common.{◌≡◌, ◌++◌, drop, length, string_bytes}
use Rattle.ec_cli_text.specs.Lines.{unit_lines}
use Rattle.ec_cli_text.proofs.outcome.push_units.Given as goal

abbrev pub invariant-loop-i : goal.invariant-loop-i
invariant-loop-i l =
    record {
      count : length l.places ≡ length l.all;
      lines : string_bytes l.text ++ unit_lines (drop l.i l.all) (drop l.i l.places) ≡ string_bytes l.initial.text ++ unit_lines l.all l.places;
    }

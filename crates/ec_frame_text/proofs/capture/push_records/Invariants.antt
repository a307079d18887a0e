use Rattle.std.proofs.Common.{◌≡◌, ◌≤◌, ◌*◌, ◌++◌, [], take, get_or, length, map, sum_by}
use Rattle.std.specs.List.{flat_map, range_with_len}
use Rattle.ec_frame_text.specs.Lines.{wire_bytes}
use Rattle.ec_frame_text.specs.Captures.{stamp, frame_record}
use Rattle.ec_frame_text.proofs.capture.push_records.Given as goal

abbrev pub invariant-loop-i : goal.invariant-loop-i
invariant-loop-i l =
    record {
      most : l.before ≤ 1538 * l.i;
      before : l.before ≡ sum_by wire_bytes (take l.i (map (λ frame. frame.items) l.frames));
      records : l.file.items ≡ l.initial.file.items
          ++ flat_map (λ i. frame_record (stamp l.start (map (λ frame. frame.items) l.frames) i) (get_or (map (λ frame. frame.items) l.frames) i [])) (range_with_len 0 l.i);
    }

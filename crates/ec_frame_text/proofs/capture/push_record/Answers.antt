use Rattle.std.proofs.Common.{arith}
use Rattle.ec_frame_text.proofs.LineLemmas.{record_parts}
use Rattle.ec_frame_text.proofs.capture.push_record.Goals as goal

pub returns : goal.returns
returns c =
    record_parts c.args.ns c.args.file.now.items _ _ _ _ _ c.args.frame.now _ _ _ _ c.in_ok-push_four.ensures c.in_ok-push_four-2.ensures c.in_ok-push_four-3.ensures c.in_ok-push_four-4.ensures c.in_ok-extend_from_slice.ensures.items
    (omega arith) (omega arith) (omega arith) (omega arith)

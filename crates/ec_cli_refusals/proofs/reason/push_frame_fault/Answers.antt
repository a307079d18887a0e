use Rattle.std.proofs.Common.{ℕ, ◌++◌, codes, ap, ◌∙◌}
use Rattle.std.specs.Fmt.{decimal}
use Rattle.ec_cli_refusals.proofs.reason.push_frame_fault.Goals as goal

pub returns-in-FrameType-clause-items : goal.returns-in-FrameType-clause-items
returns-in-FrameType-clause-items c = rw c.in-FrameType.is (c.push_one.ensures.items ∙ ap (λ (n : ℕ). c.args.line.now.items ++ (codes "F6 FrameType " ++ decimal n)) c.from.ensures)

pub returns-in-UnknownCommand-clause-items : goal.returns-in-UnknownCommand-clause-items
returns-in-UnknownCommand-clause-items c =
    rw c.in-UnknownCommand.is (c.push_one-in-UnknownCommand.ensures.items ∙ ap (λ (n : ℕ). c.args.line.now.items ++ (codes "F8 UnknownCommand " ++ decimal n)) c.from-in-UnknownCommand.ensures)

pub returns-in-MoreAtEnd-clause-items : goal.returns-in-MoreAtEnd-clause-items
returns-in-MoreAtEnd-clause-items c = rw c.in-MoreAtEnd.is c.push_bytes-in-MoreAtEnd.ensures.items

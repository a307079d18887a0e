use Rattle.std.proofs.Common.{rules, codes}
use Rattle.std.specs.Fmt.{decimal}
use Rattle.ec_cli_refusals.proofs.KeyLemmas.{behind_two, behind_six}
use Rattle.ec_cli_refusals.proofs.reason.push_play.Goals as goal

pub returns-in-Counter-clause-items : goal.returns-in-Counter-clause-items
returns-in-Counter-clause-items c =
    let f = c.in-Counter in
    rw f.is (behind_six c.args.line.now.items (codes "P2 Counter ") (decimal f.tick) (codes " ") (decimal f.slot) (codes " ") (decimal f.datagram) _ c.push_datagram.new.line.items _ c.push_datagram.ensures.items c.push_pair.ensures.items)

pub returns-in-StartCounter-clause-items : goal.returns-in-StartCounter-clause-items
returns-in-StartCounter-clause-items c =
    let f = c.in-StartCounter in
    rw f.is (behind_two c.args.line.now.items (codes "P6 StartCounter ") (decimal f.frame) _ c.push_one.new.line.items _ c.push_one.ensures.items c.push_pair-in-StartCounter.ensures.items)

pub returns-in-Ring-clause-items : goal.returns-in-Ring-clause-items
returns-in-Ring-clause-items c = search rules

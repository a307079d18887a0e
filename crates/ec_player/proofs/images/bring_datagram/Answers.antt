use Rattle.std.proofs.Common.{◌+◌, ◌-◌, ◌&&◌, nat_le, nat_lt, length, get_or, ◌∙◌}
use Rattle.ec_player.proofs.CopyLemmas.{brought, byte-if}
use Rattle.ec_player.proofs.images.bring_datagram.Goals as goal

pub returns-then-from-to-clause-bytes : goal.returns-then-from-to-clause-bytes
returns-then-from-to-clause-bytes c =
    λ k l.
    let address = c.args.view.now.address in
    let bytes = c.args.view.now.bytes.now in
    brought c.args.came.now bytes c.copy_from_slice.new.self address c.max-from.result c.min-to.result k c.max-from.ensures c.min-to.ensures c.if-from-to.true c.copy_from_slice.ensures.after l
    ∙ byte-if (nat_le address (65536 + k) && nat_lt (65536 + k) (address + length bytes)) (get_or bytes (65536 + k - address) 0) (get_or c.args.came.now k 0)

use Rattle.std.proofs.Common.{arith}
use Rattle.ec_book_shared.proofs.Holding.{at_most}
use Rattle.ec_book_shared.proofs.receipts.Receipts.room_to_end.Goals as goal

pub returns-clause-room : goal.returns-clause-room
returns-clause-room c = λ is. let most = at_most c.make_room.new.self.held.items c.args.piece in let room = c.make_room.ensures.room is in omega (arith, most, room)

pub returns-clause-held : goal.returns-clause-held
returns-clause-held c = let most = at_most c.make_room.new.self.held.items c.args.piece in omega (arith, most)

use Rattle.ec_bounds.proofs.RoomLemmas.{rooms-bound}
use Rattle.ec_bounds.proofs.law.law_room_suffices.Goals as goal

pub returns : goal.returns
returns c = rooms-bound

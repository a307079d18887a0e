use Rattle.std.proofs.Common.{◌≡◌, take}
use Rattle.std.specs.List.{list_all}
use Rattle.ec_cert_text.specs.Reading.{is_room}
use Rattle.ec_cert_text.proofs.groups.are_rooms.Given as goal

abbrev pub invariant-loop-pair : goal.invariant-loop-pair
invariant-loop-pair l = l.all ≡ list_all is_room (take l.pair-index l.pairs)

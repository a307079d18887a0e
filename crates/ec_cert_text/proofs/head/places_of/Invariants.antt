use Rattle.std.proofs.Common.{◌≡◌, ◌-◌}
use Rattle.ec_cert_text.specs.Reading.{with_front, many_from, place_at}
use Rattle.ec_cert_text.specs.Views.{at_view}
use Rattle.ec_cert_text.proofs.head.places_of.Given as goal

abbrev pub invariant-places : goal.invariant-places
invariant-places l =
    with_front l.places.items (many_from place_at (l.count - l.counter) (at_view l.rest)) ≡ many_from place_at l.count (at_view l.place)

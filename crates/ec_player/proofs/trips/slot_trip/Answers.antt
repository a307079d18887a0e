use Rattle.std.proofs.Common.{◌≤◌, List, All, refl, sym, subst}
use Rattle.ec_fmmu.specs.declared.group.Group.{Group}
use Rattle.ec_frame_builder.proofs.WithinLemmas.{groups-within}
use Rattle.ec_player.proofs.trips.slot_trip.Goals as goal

pub wants_of-requires : goal.wants_of-requires
wants_of-requires c =
    let h = c.requires.layout.1 in
    subst (λ (gs : List Group). All (λ (g : Group). 1 ≤ g.period) gs) (sym c.as_slice.ensures)
    (λ k d l. (groups-within c.args.units.now.units c.requires.layout.0 c.args.mapping.now.groups _ h.layout.groups refl k d l).0)

use Rattle.std.proofs.Common.{◌+◌, ◌<◌, ◌≤◌, List, All, length, map, refl, sym, ap, subst, ◌∙◌}
use Rattle.std.proofs.lemmas.List.Elements.{All-filter}
use Rattle.ec_frames.specs.Written.{total_of}
use Rattle.ec_fmmu.specs.declared.group.Group.{Group}
use Rattle.ec_frame_builder.specs.Frames.{goes, going, datagram_of}
use Rattle.ec_frame_builder.specs.Within.{GroupsWithin}
use Rattle.ec_frame_builder.proofs.FrameLemmas.{carried-some}
use Rattle.ec_frame_builder.proofs.GoingLemmas.{going-payload}
use Rattle.ec_frame_builder.proofs.WithinLemmas.{groups-within}
use Rattle.ec_frame_builder.proofs.frames.rewrite_frame.Goals as goal

pub going_of-requires : goal.going_of-requires
going_of-requires c =
    let h = c.requires.layout.1 in
    subst (λ (gs : List Group). All (λ (g : Group). 1 ≤ g.period) gs) (sym c.as_slice.ensures)
    (λ k d l. (groups-within c.args.units.now.units c.requires.layout.0 c.args.mapping.now.groups _ h.layout.groups refl k d l).0)

pub write_groups-requires-clause-some : goal.write_groups-requires-clause-some
write_groups-requires-clause-some c =
    let there = c.as_slice-2.ensures.value ∙ c.in_ok-there.ensures ∙ ap (λ gs. going gs c.args.tick c.args.slot) c.as_slice.ensures in
    subst (λ gs. 0 < length gs) (sym there) (carried-some c.args.tick c.args.slot c.args.mapping.now.groups c.requires.carried)

pub write_groups-requires-clause-within : goal.write_groups-requires-clause-within
write_groups-requires-clause-within c =
    let h = c.requires.layout.1 in
    let n = length c.args.sent.now in
    let there = c.as_slice-2.ensures.value ∙ c.in_ok-there.ensures ∙ ap (λ gs. going gs c.args.tick c.args.slot) c.as_slice.ensures in
    subst (GroupsWithin n) (sym there)
    (All-filter (goes c.args.tick c.args.slot) (λ g. (1 ≤ g.period) × (65536 ≤ g.start) × (g.start + g.len ≤ 65536 + n)) c.args.mapping.now.groups
    (groups-within c.args.units.now.units c.requires.layout.0 c.args.mapping.now.groups n h.layout.groups (c.requires.sent ∙ h.layout.total)))

pub write_groups-requires-clause-room : goal.write_groups-requires-clause-room
write_groups-requires-clause-room c =
    let h = c.requires.layout.1 in
    let there = c.as_slice-2.ensures.value ∙ c.in_ok-there.ensures ∙ ap (λ gs. going gs c.args.tick c.args.slot) c.as_slice.ensures in
    subst (λ gs. total_of (map datagram_of gs) ≤ 1498) (sym there)
    (subst (λ n. n ≤ 1498) (sym (going-payload c.args.units.now.units c.requires.layout.0 c.args.mapping.now.groups c.args.tick c.args.slot h.layout.groups)) (h.legal.fits c.args.tick c.args.slot c.requires.slot))

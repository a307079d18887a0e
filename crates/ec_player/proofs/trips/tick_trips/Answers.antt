use Rattle.std.proofs.Common.{◌≡◌, ◌<◌, true, All, filter, length, map, sym, ap, ◌∙◌, subst, arith}
use Rattle.std.specs.List.{range_with_len}
use Rattle.std.proofs.lemmas.List.{length-map}
use Rattle.std.proofs.lemmas.List.Elements.{All-filter, filter_passes}
use Rattle.std.proofs.lemmas.List.FromFn.{length-map-range_with_len}
use Rattle.ec_frame_builder.specs.Frames.{carries, sent, sent_byte}
use Rattle.ec_frame_builder.specs.Within.{AreWithin}
use Rattle.ec_frame_builder.proofs.WithinLemmas.{records-within}
use Rattle.ec_player.specs.Trips.{sent_in, slot_from}
use Rattle.ec_player.proofs.TripLemmas.{few-slots, range-below}
use Rattle.ec_player.proofs.trips.tick_trips.Goals as goal

pub sent_of-requires : goal.sent_of-requires
sent_of-requires c =
    let h = c.requires.layout.1 in
    subst (AreWithin (length c.args.image.now)) (sym (c.as_slice.ensures ∙ h.layout.fmmus))
    (records-within c.args.units.now.units c.requires.layout.0 (length c.args.image.now) c.args.units.now.unit_count.1 (c.requires.image ∙ h.layout.total))

pub trips_of_slots-requires-clause-sent : goal.trips_of_slots-requires-clause-sent
trips_of_slots-requires-clause-sent c =
    ap length (c.as_slice-2.ensures.value ∙ c.in_ok-sent.ensures)
    ∙ length-map-range_with_len (sent_byte c.as_slice.result.now c.args.image.now) 0 (length c.args.image.now)
    ∙ c.requires.image

pub trips_of_slots-requires-clause-below : goal.trips_of_slots-requires-clause-below
trips_of_slots-requires-clause-below c =
    let n = c.args.units.now.slots in
    let p = carries c.args.mapping.now.groups c.args.tick in
    subst (All (λ s. s < n)) (sym (c.as_slice-3.ensures.value ∙ c.in_ok-slots.ensures)) (All-filter p (λ s. s < n) (range_with_len 0 n) (range-below n))

pub trips_of_slots-requires-clause-carried : goal.trips_of_slots-requires-clause-carried
trips_of_slots-requires-clause-carried c =
    let p = carries c.args.mapping.now.groups c.args.tick in
    subst (All (λ s. p s ≡ true)) (sym (c.as_slice-3.ensures.value ∙ c.in_ok-slots.ensures)) (filter_passes p (range_with_len 0 c.args.units.now.slots))

pub returns-clause-sents : goal.returns-clause-sents
returns-clause-sents c =
    let slots = c.as_slice-3.ensures.value ∙ c.in_ok-slots.ensures in
    let bytes = c.as_slice-2.ensures.value ∙ c.in_ok-sent.ensures ∙ ap (λ w. sent w c.args.image.now) c.as_slice.ensures in
    c.in_ok-trips.ensures ∙ (λ i. map (slot_from c.args.mapping.now.groups (bytes i) c.args.tick) (slots i))

pub returns-clause-few : goal.returns-clause-few
returns-clause-few c =
    let slots = c.as_slice-3.ensures.value ∙ c.in_ok-slots.ensures in
    let groups = c.args.mapping.now.groups in
    let busy = filter (carries groups c.args.tick) (range_with_len 0 c.args.units.now.slots) in
    let e = c.in_ok-trips.ensures ∙ ap (map (slot_from groups c.as_slice-2.result.now c.args.tick)) slots in
    let n = sym (length-map c.in_ok-trips.trips.items sent_in) ∙ ap length e ∙ length-map busy (slot_from groups c.as_slice-2.result.now c.args.tick) in
    omega (arith, n, few-slots groups c.args.tick c.args.units.now.slots, c.args.units.now.slot_range.1)

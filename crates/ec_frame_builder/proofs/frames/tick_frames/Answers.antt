use Rattle.std.proofs.Common.{ℕ, ◌≤◌, length, map, sym, ap, subst, ◌∙◌}
use Rattle.std.proofs.lemmas.List.FromFn.{length-map-range_with_len}
use Rattle.arrayvec.specs.ArrayVec.{ArrayVec}
use Rattle.ec_units.specs.Views.{unit_view}
use Rattle.ec_frames.specs.Written.{total_of}
use Rattle.ec_fmmu.specs.Seats.{seats_of}
use Rattle.ec_fmmu.specs.Layout.{AreGroups}
use Rattle.ec_frame_builder.specs.Frames.{going, datagram_of, sent_byte}
use Rattle.ec_frame_builder.specs.Within.{AreWithin, GroupsWithin}
use Rattle.ec_frame_builder.proofs.GoingLemmas.{going-payload, carries-busy}
use Rattle.ec_frame_builder.proofs.FrameLemmas.{tick-wire}
use Rattle.ec_frame_builder.proofs.WithinLemmas.{groups-within, records-within}
use Rattle.ec_frame_builder.proofs.frames.tick_frames.Goals as goal

pub sent_of-requires : goal.sent_of-requires
sent_of-requires c =
    let h = c.requires.layout.1 in
    subst (AreWithin (length c.args.image.now)) (sym (c.as_slice-records.ensures ∙ h.layout.fmmus))
    (records-within c.args.units.now.units c.requires.layout.0 (length c.args.image.now) c.args.units.now.unit_count.1 (c.requires.image ∙ h.layout.total))

pub slot_frames-requires-clause-within : goal.slot_frames-requires-clause-within
slot_frames-requires-clause-within c =
    let h = c.requires.layout.1 in
    subst (GroupsWithin (length c.as_slice.result.now)) (sym c.as_slice-groups.ensures)
    (groups-within c.args.units.now.units c.requires.layout.0 c.args.mapping.now.groups (length c.as_slice.result.now) h.layout.groups
    (ap length (c.as_slice.ensures.value ∙ c.in_ok-bytes.ensures)
    ∙ length-map-range_with_len (sent_byte c.as_slice-records.result.now c.args.image.now) 0 (length c.args.image.now)
    ∙ c.requires.image ∙ h.layout.total))

pub slot_frames-requires-clause-room : goal.slot_frames-requires-clause-room
slot_frames-requires-clause-room c = λ s l.
    let h = c.requires.layout.1 in
    subst (λ gs. total_of (map datagram_of (going gs c.args.tick s)) ≤ 1498) (sym c.as_slice-groups.ensures)
    (subst (λ n. n ≤ 1498) (sym (going-payload c.args.units.now.units c.requires.layout.0 c.args.mapping.now.groups c.args.tick s h.layout.groups)) (h.legal.fits c.args.tick s l))

pub returns-clause-carries : goal.returns-clause-carries
returns-clause-carries c = λ places h s. carries-busy c.args.units.now.units places c.args.mapping.now.groups c.args.tick s h.layout.groups

pub returns-clause-cost : goal.returns-clause-cost
returns-clause-cost c = λ places h.
    let own = c.requires.layout.1 in
    tick-wire (λ (frame : ArrayVec ℕ). frame.items) c.in_ok-frames.frames.items c.args.units.now.units places c.as_slice-groups.result.now c.as_slice.result.now c.args.units.now.slots c.args.tick
    (subst (AreGroups (seats_of (map unit_view c.args.units.now.units) places)) (sym c.as_slice-groups.ensures) h.layout.groups)
    (subst (GroupsWithin (length c.as_slice.result.now)) (sym c.as_slice-groups.ensures)
    (groups-within c.args.units.now.units c.requires.layout.0 c.args.mapping.now.groups (length c.as_slice.result.now) own.layout.groups
    (ap length (c.as_slice.ensures.value ∙ c.in_ok-bytes.ensures)
    ∙ length-map-range_with_len (sent_byte c.as_slice-records.result.now c.args.image.now) 0 (length c.args.image.now)
    ∙ c.requires.image ∙ own.layout.total)))
    c.in_ok-frames.ensures

pub returns-in_err-bytes-clause-carries : goal.returns-in_err-bytes-clause-carries
returns-in_err-bytes-clause-carries c = λ places h s. carries-busy c.args.units.now.units places c.args.mapping.now.groups c.args.tick s h.layout.groups

pub returns-in_err-frames-clause-carries : goal.returns-in_err-frames-clause-carries
returns-in_err-frames-clause-carries c = λ places h s. carries-busy c.args.units.now.units places c.args.mapping.now.groups c.args.tick s h.layout.groups

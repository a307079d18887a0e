use Rattle.std.proofs.Common.{◌+◌, ◌≤◌, ◌==◌, length, sym, ap, subst, ◌∙◌}
use Rattle.std.proofs.lemmas.Bool.{eqb-true}
use Rattle.std.proofs.lemmas.List.Elements.{All-filter}
use Rattle.ec_frame_builder.specs.Frames.{goes, frame_of}
use Rattle.ec_frame_builder.specs.Within.{GroupsWithin}
use Rattle.ec_frame_builder.proofs.FrameLemmas.{none-carried, some-carried, pos-from}
use Rattle.ec_frame_builder.proofs.frames.slot_frame.Goals as goal

pub returns-then-is_empty : goal.returns-then-is_empty
returns-then-is_empty c =
    none-carried c.args.tick c.args.slot c.args.groups.now
    (ap length (sym (c.as_slice-list.ensures.value ∙ c.in_ok-there.ensures)) ∙ eqb-true (length c.as_slice-list.result.now) 0 (sym c.is_empty.ensures ∙ c.if-is_empty.true))

pub write_groups-requires-clause-within : goal.write_groups-requires-clause-within
write_groups-requires-clause-within c =
    subst (GroupsWithin (length c.args.bytes.now)) (sym (c.as_slice-list.ensures.value ∙ c.in_ok-there.ensures))
    (All-filter (goes c.args.tick c.args.slot) (λ g. (1 ≤ g.period) × (65536 ≤ g.start) × (g.start + g.len ≤ 65536 + length c.args.bytes.now)) c.args.groups.now c.requires.within)

pub returns : goal.returns
returns c = (
  some-carried c.args.tick c.args.slot c.args.groups.now
      (pos-from _ (ap (λ w. length w == 0) (sym (c.as_slice-list.ensures.value ∙ c.in_ok-there.ensures)) ∙ sym c.is_empty.ensures ∙ c.if-is_empty.false)),
  c.in_ok-write_groups.ensures.frame ∙ ap (λ w. frame_of w c.args.bytes.now) (c.as_slice-list.ensures.value ∙ c.in_ok-there.ensures),
)

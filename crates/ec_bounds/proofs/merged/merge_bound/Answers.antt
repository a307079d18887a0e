use Rattle.std.proofs.Common.{ap, ◌∙◌, rules}
use Rattle.std.specs.List.{list_any}
use Rattle.ec_loads.specs.Rooms.{is_above_slot_0}
use Rattle.ec_bounds.proofs.StepLemmas.{merge-iff}
use Rattle.ec_bounds.proofs.merged.merge_bound.Goals as goal

pub returns : goal.returns
returns c =
    merge-iff c.args.value c.args.loads.now.places c.in-Some.value c.has_later_slot.result c.in-Some.is c.if-value-gt-MOST_MERGED.false
    (c.has_later_slot.ensures ∙ ap (list_any is_above_slot_0) c.places.ensures.value)

pub returns-then-value-gt-MOST_MERGED : goal.returns-then-value-gt-MOST_MERGED
returns-then-value-gt-MOST_MERGED c = search rules

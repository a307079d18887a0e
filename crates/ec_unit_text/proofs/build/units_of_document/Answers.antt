use Rattle.std.proofs.Common.{◌≡◌, ◌∙◌, map, ap}
use Rattle.toml.specs.View.{table_view}
use Rattle.ec_unit_text.specs.declared.fault.Key.TheVariants as key
use Rattle.ec_unit_text.specs.AtKey.{items_at, tables_in}
use Rattle.ec_units.specs.Views.{unit_view}
use Rattle.ec_unit_text.specs.Said.{unit_of}
use Rattle.ec_unit_text.proofs.Alone.{names_apart, stations_apart}
use Rattle.ec_unit_text.proofs.Built.{tick_within, slots_within, count_of_units, short, slots_below}
use Rattle.ec_unit_text.proofs.Faultless.{units_fit}
use Rattle.ec_unit_text.proofs.build.units_of_document.Goals as goal

pub units_of-requires : goal.units_of-requires
units_of-requires c = rw c.values_at.ensures (units_fit (table_view c.args.top.now) c.requires)

pub tick_of-requires : goal.tick_of-requires
tick_of-requires c = tick_within (table_view c.args.top.now) c.requires

pub slots_of-requires : goal.slots_of-requires
slots_of-requires c = slots_within (table_view c.args.top.now) c.requires

pub invariant_of-result : goal.invariant_of-result
invariant_of-result c =
    let ms = table_view c.args.top.now in
    let said : map unit_view c.new.result ≡ map unit_of (tables_in (items_at key.Unit ms)) =
    ap (map unit_view) c.new.ensures ∙ c.in_ok-units.ensures ∙ ap (λ d. map unit_of (tables_in d)) c.values_at.ensures in
    let tick = tick_within ms c.requires in
    let slots = slots_within ms c.requires in
    record {
      tick_range = rw c.tick_of.ensures (tick.least, tick.most);
      slot_range = rw c.slots_of.ensures (slots.least, slots.most);
      unit_count = count_of_units c.new.result ms c.requires said;
      names_apart = names_apart c.new.result ms c.requires said;
      stations_apart = stations_apart c.new.result ms c.requires said;
      short = short c.new.result ms c.requires said;
      slots_below = rw c.slots_of.ensures (slots_below c.new.result ms c.requires said);
    }

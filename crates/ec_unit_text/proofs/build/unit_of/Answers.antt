use Rattle.std.proofs.Common.{◌≡◌, length, map, w16, Fits-lit, refl, ap, ◌∙◌}
use Rattle.toml.specs.View.{table_view}
use Rattle.ec_units.specs.Bytes.{bytes_of_slaves}
use Rattle.ec_units.specs.Views.{slave_view}
use Rattle.ec_unit_text.specs.declared.fault.Key.TheVariants as key
use Rattle.ec_unit_text.specs.AtKey.{integer_at, text_at, items_at, tables_in, item_count}
use Rattle.ec_unit_text.specs.UnitText.{bytes_in}
use Rattle.ec_unit_text.specs.Said.{slave_of}
use Rattle.ec_unit_text.proofs.Fitting.{within, small}
use Rattle.ec_unit_text.proofs.build.unit_of.Goals as goal

pub slaves_of-requires : goal.slaves_of-requires
slaves_of-requires c = rw c.values_at.ensures c.requires.slaves

pub overflow_cast-result : goal.overflow_cast-result
overflow_cast-result c =
    let period = within 1 60 (integer_at key.Period (table_view c.args.unit.now)) c.requires.period in
    let (same, fits) = small w16 _ period.whole period.most (Fits-lit tt) in
    rw (c.integer_at.ensures, same) fits

pub invariant_of-result : goal.invariant_of-result
invariant_of-result c =
    let period = within 1 60 (integer_at key.Period (table_view c.args.unit.now)) c.requires.period in
    let (same, _) = small w16 _ period.whole period.most (Fits-lit tt) in
    let name : c.new.result ≡ text_at key.Name (table_view c.args.unit.now) = c.new.ensures ∙ c.in_ok-name.ensures.ok ∙ c.text_at.ensures in
    let count : length c.new-2.result ≡ item_count (items_at key.Slave (table_view c.args.unit.now)) = ap length c.new-2.ensures ∙ c.in_ok-slaves.ensures.count ∙ ap item_count c.values_at.ensures in
    let bytes : bytes_of_slaves c.new-2.result ≡ bytes_in (items_at key.Slave (table_view c.args.unit.now)) = ap bytes_of_slaves c.new-2.ensures ∙ c.in_ok-slaves.ensures.bytes ∙ ap bytes_in c.values_at.ensures in
    record {
      named = rw name c.requires.name;
      period_range = rw (c.integer_at.ensures, same) (period.least, period.most);
      slave_count = rw count c.requires.count;
      size = rw bytes c.requires.size;
      place_range = rw (c.integer_at.ensures, same) c.place_of.ensures.phase;
    }

pub returns : goal.returns
returns c =
    let period = within 1 60 (integer_at key.Period (table_view c.args.unit.now)) c.requires.period in
    let (same, _) = small w16 _ period.whole period.most (Fits-lit tt) in
    let name : c.new.result ≡ text_at key.Name (table_view c.args.unit.now) = c.new.ensures ∙ c.in_ok-name.ensures.ok ∙ c.text_at.ensures in
    let slaves : map slave_view c.new-2.result ≡ map slave_of (tables_in (items_at key.Slave (table_view c.args.unit.now))) =
    ap (map slave_view) c.new-2.ensures ∙ c.in_ok-slaves.ensures.slaves ∙ ap (λ d. map slave_of (tables_in d)) c.values_at.ensures in
    rw (name, c.integer_at.ensures, same, slaves, c.place_of.ensures.value) refl

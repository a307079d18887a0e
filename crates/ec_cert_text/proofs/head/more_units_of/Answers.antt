use Rattle.std.proofs.Common.{◌≡◌, ◌++◌, ◌∷◌, [], length, true, false, ap, arith, rules}
use Rattle.std.proofs.lemmas.Result.{err_from_is_err_and}
use Rattle.std.proofs.lemmas.List.{length_push}
use Rattle.ec_cert_text.specs.Views.{at_view}
use Rattle.ec_cert_text.specs.Reading.{with_front, units_from, is_unit_next}
use Rattle.ec_cert_text.proofs.ManyLemmas.{units_go_on, units_fail, units_stop, units_end}
use Rattle.ec_cert_text.proofs.head.more_units_of.Goals as goal

pub returns-then-not-starts_with-clause-exact : goal.returns-then-not-starts_with-clause-exact
returns-then-not-starts_with-clause-exact c =
    let no : is_unit_next (at_view c.units.rest) ≡ false = search rules in
    units_stop c.units.units.items c.args.more c.units.counter (at_view c.units.rest) (with_front c.args.first.items (units_from c.args.more (at_view c.args.place))) c.units-test.true no c.units.invariant.read

pub returns-in_err-unit-clause-exact : goal.returns-in_err-unit-clause-exact
returns-in_err-unit-clause-exact c =
    let yes : is_unit_next (at_view c.units.rest) ≡ true = search rules in
    let p = err_from_is_err_and c.from_residual.result c.from_residual.ensures.1 in
    rw (p.1, p.2) (units_fail c.in_err-unit.field-0.0 c.units.units.items c.args.more c.units.counter (at_view c.units.rest) (with_front c.args.first.items (units_from c.args.more (at_view c.args.place))) c.units-test.true yes c.in_err-unit.ensures c.units.invariant.read)

pub units-preserved : goal.units-preserved
units-preserved c =
    let yes : is_unit_next (at_view c.units.rest) ≡ true = search rules in
    let e : c.push.new.self.items ≡ c.units.units.items ++ c.in_ok-unit.unit ∷ [] = c.in_ok-push.ensures.items in
    let more = length_push c.units.units.items c.in_ok-unit.unit in
    record {
      read = rw e (units_go_on c.units.units.items c.args.more c.units.counter (at_view c.units.rest) c.in_ok-unit.unit (at_view c.in_ok-unit.after) (with_front c.args.first.items (units_from c.args.more (at_view c.args.place))) c.units-test.true yes c.in_ok-unit.ensures c.units.invariant.read);
      count = omega (arith, ap length e, more, c.units.invariant.count);
    }

pub returns-clause-exact : goal.returns-clause-exact
returns-clause-exact c = units_end c.units.units.items c.args.more c.units.counter (at_view c.units.rest) (with_front c.args.first.items (units_from c.args.more (at_view c.args.place))) c.units-test.false c.units.invariant.read

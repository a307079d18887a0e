use Rattle.std.proofs.Common.{◌≡◌, get_or, rules}
use Rattle.ec_cert_text.specs.Text.{unit_line}
use Rattle.ec_cert_text.proofs.WriteLemmas.{written_none, written_more, written_front, written_all, front_all}
use Rattle.ec_cert_text.proofs.writing.write_units.Goals as goal

pub units-init : goal.units-init
units-init g c = record {
  text = written_none unit_line c.args.units.now;
  same = search rules;
}

pub returns-in_err-write-clause-front : goal.returns-in_err-write-clause-front
returns-in_err-write-clause-front g c =
    let text : c.as_slice.result.now ≡ unit_line (get_or c.args.units.now c.units.unit-index c.unit-item.result) = search rules in
    written_front unit_line c.args.units.now c.units.unit-index c.unit-item.result _ c.units-test.true text c.units.invariant.text c.write.ensures.front

pub units-preserved : goal.units-preserved
units-preserved g c =
    let text : c.as_slice.result.now ≡ unit_line (get_or c.args.units.now c.units.unit-index c.unit-item.result) = search rules in
    record {
      text = written_more unit_line c.args.units.now c.units.unit-index c.unit-item.result _ c.units-test.true text c.units.invariant.text c.in_ok-write.ensures.all;
      same = search rules;
    }

pub returns-clause-all : goal.returns-clause-all
returns-clause-all g c = written_all unit_line c.args.units.now c.units.unit-index c.units-test.false c.units.invariant.text

pub returns-clause-front : goal.returns-clause-front
returns-clause-front g c = front_all (written_all unit_line c.args.units.now c.units.unit-index c.units-test.false c.units.invariant.text)

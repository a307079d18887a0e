use Rattle.std.proofs.Common.{◌≡◌, get_or, rules}
use Rattle.ec_cert_text.specs.Text.{place_line}
use Rattle.ec_cert_text.proofs.WriteLemmas.{written_none, written_more, written_front, written_all, front_all}
use Rattle.ec_cert_text.proofs.writing.write_places.Goals as goal

pub places-init : goal.places-init
places-init g c = record {
  text = written_none place_line c.args.places.now;
  same = search rules;
}

pub returns-in_err-write-clause-front : goal.returns-in_err-write-clause-front
returns-in_err-write-clause-front g c =
    let text : c.as_slice.result.now ≡ place_line (get_or c.args.places.now c.places.place-index (record { phase = 0; slot = 0 })) = search rules in
    written_front place_line c.args.places.now c.places.place-index (record { phase = 0; slot = 0 }) _ c.places-test.true text c.places.invariant.text c.write.ensures.front

pub places-preserved : goal.places-preserved
places-preserved g c =
    let text : c.as_slice.result.now ≡ place_line (get_or c.args.places.now c.places.place-index (record { phase = 0; slot = 0 })) = search rules in
    record {
      text = written_more place_line c.args.places.now c.places.place-index (record { phase = 0; slot = 0 }) _ c.places-test.true text c.places.invariant.text c.in_ok-write.ensures.all;
      same = search rules;
    }

pub returns-clause-all : goal.returns-clause-all
returns-clause-all g c = written_all place_line c.args.places.now c.places.place-index c.places-test.false c.places.invariant.text

pub returns-clause-front : goal.returns-clause-front
returns-clause-front g c = front_all (written_all place_line c.args.places.now c.places.place-index c.places-test.false c.places.invariant.text)

use Rattle.std.proofs.Common.{◌≡◌, sym, ap, rules}
use Rattle.std.specs.List.{flat_map}
use Rattle.ec_cert_text.specs.Text.{best_lines, value_line, place_line}
use Rattle.ec_cert_text.proofs.WriteLemmas.{front_as, all_as, more_as, then_as, all_then, on_ok}
use Rattle.ec_cert_text.proofs.writing.write_best.Goals as goal

pub returns-in-None-clause-all : goal.returns-in-None-clause-all
returns-in-None-clause-all g c = on_ok c.write.result _ _ (all_as (sym (ap best_lines c.in-None.is))) c.write.ensures.all

pub returns-in-None-clause-front : goal.returns-in-None-clause-front
returns-in-None-clause-front g c = front_as (sym (ap best_lines c.in-None.is)) c.write.ensures.front

pub returns-in_err-write-in-Some-clause-front : goal.returns-in_err-write-in-Some-clause-front
returns-in_err-write-in-Some-clause-front g c =
    let line : c.as_slice.result.now ≡ value_line c.in-Some.best.busiest = search rules in
    front_as (sym (ap best_lines c.in-Some.is)) (more_as _ line c.write-in-Some.ensures.front)

pub returns-in_ok-write-in-Some-clause-front : goal.returns-in_ok-write-in-Some-clause-front
returns-in_ok-write-in-Some-clause-front g c =
    let line : c.as_slice.result.now ≡ value_line c.in-Some.best.busiest = search rules in
    let places : c.as_slice-places.result.now ≡ c.in-Some.best.plan.places = search rules in
    front_as (sym (ap best_lines c.in-Some.is)) (then_as line c.in_ok-write-in-Some.ensures.all (front_as (ap (flat_map place_line) places) c.write_places.ensures.front))

pub returns-in_ok-write-in-Some-clause-all : goal.returns-in_ok-write-in-Some-clause-all
returns-in_ok-write-in-Some-clause-all g c =
    let line : c.as_slice.result.now ≡ value_line c.in-Some.best.busiest = search rules in
    let places : c.as_slice-places.result.now ≡ c.in-Some.best.plan.places = search rules in
    on_ok c.write_places.result _ _ (λ q. all_as (sym (ap best_lines c.in-Some.is)) (all_then line c.in_ok-write-in-Some.ensures.all (all_as (ap (flat_map place_line) places) q))) c.write_places.ensures.all

use Rattle.std.proofs.Common.{◌≡◌, ap, rules, refl, ◌∙◌}
use Rattle.std.specs.List.{flat_map}
use Rattle.ec_cert_text.specs.Text.{version_line, slots_line, unit_line, order_line}
use Rattle.ec_cert_text.proofs.WriteLemmas.{more_as, then_as, all_then, on_ok}
use Rattle.ec_cert_text.proofs.writing.write_lines.Goals as goal

pub returns-in_err-write-clause-front : goal.returns-in_err-write-clause-front
returns-in_err-write-clause-front g c =
    let e_version : c.as_slice-version.result.now ≡ version_line c.args.cert.now.version = search rules in
    more_as _ e_version c.write.ensures.front

pub returns-in_err-write-2-clause-front : goal.returns-in_err-write-2-clause-front
returns-in_err-write-2-clause-front g c =
    let e_version : c.as_slice-version.result.now ≡ version_line c.args.cert.now.version = search rules in
    let e_slots : c.as_slice-slots.result.now ≡ slots_line c.args.cert.now.slots = search rules in
    then_as e_version c.in_ok-write.ensures.all (more_as _ e_slots c.write-2.ensures.front)

pub returns-in_err-write_units-clause-front : goal.returns-in_err-write_units-clause-front
returns-in_err-write_units-clause-front g c =
    let e_version : c.as_slice-version.result.now ≡ version_line c.args.cert.now.version = search rules in
    let e_slots : c.as_slice-slots.result.now ≡ slots_line c.args.cert.now.slots = search rules in
    let e_units : c.as_slice-units.result.now ≡ c.args.cert.now.units = search rules in
    then_as e_version c.in_ok-write.ensures.all (then_as e_slots c.in_ok-write-2.ensures.all (more_as _ (ap (flat_map unit_line) e_units) c.write_units.ensures.front))

pub returns-in_err-write_order-clause-front : goal.returns-in_err-write_order-clause-front
returns-in_err-write_order-clause-front g c =
    let e_version : c.as_slice-version.result.now ≡ version_line c.args.cert.now.version = search rules in
    let e_slots : c.as_slice-slots.result.now ≡ slots_line c.args.cert.now.slots = search rules in
    let e_units : c.as_slice-units.result.now ≡ c.args.cert.now.units = search rules in
    let e_order : c.as_slice-order.result.now ≡ c.args.cert.now.order = search rules in
    then_as e_version c.in_ok-write.ensures.all (then_as e_slots c.in_ok-write-2.ensures.all (then_as (ap (flat_map unit_line) e_units) c.in_ok-write_units.ensures.all (more_as _ (ap order_line e_order) c.write_order.ensures.front)))

pub returns-in_err-write_best-clause-front : goal.returns-in_err-write_best-clause-front
returns-in_err-write_best-clause-front g c =
    let e_version : c.as_slice-version.result.now ≡ version_line c.args.cert.now.version = search rules in
    let e_slots : c.as_slice-slots.result.now ≡ slots_line c.args.cert.now.slots = search rules in
    let e_units : c.as_slice-units.result.now ≡ c.args.cert.now.units = search rules in
    let e_order : c.as_slice-order.result.now ≡ c.args.cert.now.order = search rules in
    then_as e_version c.in_ok-write.ensures.all (then_as e_slots c.in_ok-write-2.ensures.all (then_as (ap (flat_map unit_line) e_units) c.in_ok-write_units.ensures.all (then_as (ap order_line e_order) c.in_ok-write_order.ensures.all (more_as _ refl c.write_best.ensures.front))))

pub returns-in_err-write_level-clause-front : goal.returns-in_err-write_level-clause-front
returns-in_err-write_level-clause-front g c =
    let e_version : c.as_slice-version.result.now ≡ version_line c.args.cert.now.version = search rules in
    let e_slots : c.as_slice-slots.result.now ≡ slots_line c.args.cert.now.slots = search rules in
    let e_units : c.as_slice-units.result.now ≡ c.args.cert.now.units = search rules in
    let e_order : c.as_slice-order.result.now ≡ c.args.cert.now.order = search rules in
    then_as e_version c.in_ok-write.ensures.all (then_as e_slots c.in_ok-write-2.ensures.all (then_as (ap (flat_map unit_line) e_units) c.in_ok-write_units.ensures.all (then_as (ap order_line e_order) c.in_ok-write_order.ensures.all (then_as refl c.in_ok-write_best.ensures.all (more_as _ refl c.write_level.ensures.front)))))

pub returns-clause-front : goal.returns-clause-front
returns-clause-front g c =
    let e_version : c.as_slice-version.result.now ≡ version_line c.args.cert.now.version = search rules in
    let e_slots : c.as_slice-slots.result.now ≡ slots_line c.args.cert.now.slots = search rules in
    let e_units : c.as_slice-units.result.now ≡ c.args.cert.now.units = search rules in
    let e_order : c.as_slice-order.result.now ≡ c.args.cert.now.order = search rules in
    then_as e_version c.in_ok-write.ensures.all (then_as e_slots c.in_ok-write-2.ensures.all (then_as (ap (flat_map unit_line) e_units) c.in_ok-write_units.ensures.all (then_as (ap order_line e_order) c.in_ok-write_order.ensures.all (then_as refl c.in_ok-write_best.ensures.all (then_as refl c.in_ok-write_level.ensures.all c.write_tree.ensures.front)))))

pub returns-clause-all : goal.returns-clause-all
returns-clause-all g c =
    let e_version : c.as_slice-version.result.now ≡ version_line c.args.cert.now.version = search rules in
    let e_slots : c.as_slice-slots.result.now ≡ slots_line c.args.cert.now.slots = search rules in
    let e_units : c.as_slice-units.result.now ≡ c.args.cert.now.units = search rules in
    let e_order : c.as_slice-order.result.now ≡ c.args.cert.now.order = search rules in
    on_ok c.write_tree.result _ _ (λ q. all_then e_version c.in_ok-write.ensures.all (all_then e_slots c.in_ok-write-2.ensures.all (all_then (ap (flat_map unit_line) e_units) c.in_ok-write_units.ensures.all (all_then (ap order_line e_order) c.in_ok-write_order.ensures.all (all_then refl c.in_ok-write_best.ensures.all (all_then refl c.in_ok-write_level.ensures.all q)))))) c.write_tree.ensures.all

pub returns-clause-ok : goal.returns-clause-ok
returns-clause-ok g c =
    let first = c.in_ok-write_order.ensures.ok ∙ c.in_ok-write_units.ensures.ok ∙ c.in_ok-write-2.ensures.ok ∙ c.in_ok-write.ensures.ok in
    on_ok c.write_tree.result _ _ (λ q. q ∙ c.in_ok-write_level.ensures.ok ∙ c.in_ok-write_best.ensures.ok ∙ first) c.write_tree.ensures.ok

pub returns-clause-err : goal.returns-clause-err
returns-clause-err g c = c.write_tree.ensures.err

use Rattle.std.proofs.Common.{count_by, ap, ◌∙◌, arith}
use Rattle.ec_loads.specs.Rooms.{is_large}
use Rattle.ec_bounds.proofs.StepLemmas.{left_of, count-iff}
use Rattle.ec_bounds.proofs.counted.count_bound_by.Goals as goal

pub returns-then-count-eq0 : goal.returns-then-count-eq0
returns-then-count-eq0 g c = λ rest.
    let units = c.fill_left-units.ensures.left ∙ left_of c.args.rest.now c.args.loads.now rest in
    let count = c.count_large-count.ensures ∙ ap (λ ls. count_by (is_large c.args.period c.args.bytes) ls) units in
    (λ said. absurd cc, λ holds. absurd (omega (arith, holds.3, count, c.if-count-eq0.true)))

pub returns : goal.returns
returns g c = λ rest.
    let held = c.args.loads.now in
    let units = c.fill_left-units.ensures.left ∙ left_of c.args.rest.now held rest in
    let count = c.count_large-count.ensures ∙ ap (λ ls. count_by (is_large c.args.period c.args.bytes) ls) units in
    count-iff held.loads (g.T.Tops.tops c.args.tops.now) c.args.value held.places c.args.period c.args.bytes c.in-Some.value c.count_large-count.result c.left_over.result c.in-Some.is
    (omega (arith, c.if-bytes-eq0.false)) count c.left_over.ensures

use Rattle.std.proofs.Common.{◌≡◌, ◌++◌, ◌∷◌, []}
use Rattle.std.proofs.lemmas.Result.{err_from_is_err_and}
use Rattle.ec_cert_text.specs.Views.{at_view}
use Rattle.ec_cert_text.specs.Reading.{place_at, many_from}
use Rattle.ec_cert_text.proofs.ManyLemmas.{goes_on, ends, many_begin, many_end}
use Rattle.ec_cert_text.proofs.head.places_of.Goals as goal

pub returns-in_err-given : goal.returns-in_err-given
returns-in_err-given c =
    let p = err_from_is_err_and c.from_residual.result c.from_residual.ensures.1 in
    rw (p.1, p.2) (ends place_at c.in_err-given.field-0.0 c.places.places.items c.args.count c.places.counter (at_view c.places.rest) (many_from place_at c.args.count (at_view c.args.place)) c.places-test.true c.in_err-given.ensures c.places.invariant)

pub places-preserved : goal.places-preserved
places-preserved c =
    let e : c.push.new.self.items ≡ c.places.places.items ++ c.in_ok-given.given ∷ [] = c.in_ok-push.ensures.items in
    rw e (goes_on place_at c.places.places.items c.args.count c.places.counter (at_view c.places.rest) c.in_ok-given.given (at_view c.in_ok-given.after) (many_from place_at c.args.count (at_view c.args.place)) c.places-test.true c.in_ok-given.ensures c.places.invariant)

pub places-init : goal.places-init
places-init c = many_begin place_at c.new-places.result.items c.args.count (at_view c.args.place) c.new-places.ensures.items

pub returns : goal.returns
returns c = rw c.new.ensures (many_end place_at c.places.places.items c.args.count c.places.counter (at_view c.places.rest) (many_from place_at c.args.count (at_view c.args.place)) c.places-test.false c.places.invariant)

use Rattle.std.proofs.Common.{◌≡◌, ◌<◌, ℕ, List, ◌++◌, ◌∷◌, [], length, sym, ap, ◌∙◌, arith}
use Rattle.arrayvec.specs.ArrayVec.{ArrayVec}
use Rattle.rtrb.specs.Ring.{sent}
use Rattle.ec_player.specs.declared.trips.Trip.{Trip}
use Rattle.ec_player.specs.Trips.{sent_in}
use Rattle.ec_player.specs.Boxes.{Boxed, bytes_in}
use Rattle.ec_player_threads.proofs.FrontLemmas.{sent-next}
use Rattle.ec_player_threads.proofs.LinkLemmas.{map-push}
use Rattle.ec_player_threads.proofs.rounds.send_next.Goals as goal

pub returns-clause-sent : goal.returns-clause-sent
returns-clause-sent c = λ base k.
    let items : Boxed → List ℕ = λ f. f.value.items in
    let frame = c.in_ok-frame.frame in
    let within : c.args.count < length c.args.trips.now = omega (arith, c.requires, c.if-count-trips.false) in
    let pushed : bytes_in (sent c.push_reserved.new.self) ≡ bytes_in (sent c.args.first.now) ++ frame.value.items ∷ [] =
    ap bytes_in (c.push_reserved.ensures.sent.0 ∙ ap (λ w. w ++ frame ∷ []) c.is_full.ensures.looked.1) ∙ map-push items (sent c.args.first.now) frame in
    let same : frame.value.items ≡ c.index-trips-count.result.frame.value.items =
    c.in_ok-frame.ensures ∙ ap (λ (f : ArrayVec ℕ). f.items) c.deref.ensures ∙ ap (λ (t : Trip). t.frame.value.items) (sym c.index-trips-count.is) in
    sent-next sent_in c.args.trips.now c.index-trips-count.result c.args.count base _ _ frame.value.items within c.index-trips-count.is same pushed k

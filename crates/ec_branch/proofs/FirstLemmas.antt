-- Units that are given places, and the best plan so far.
use Rattle.std.proofs.Common.{◌≡◌, ℕ, zero, suc, ◌+◌, ◌<◌, ◌≤◌, inl, inr, List, [], ◌∷◌, map, length, set, get_or, slice_get, replicate, Option, Some, None, IfSome, IsSome, IsSomeAnd, MatchOption, refl, ap, sym, subst, ◌∙◌, arith, set-set}
use Rattle.std.proofs.lemmas.Bool.{cases_eq}
use Rattle.std.proofs.lemmas.List.{length-set, get_or_default, length-map, length-replicate, get_or-replicate}
use Rattle.std.proofs.lemmas.List.Elements.{All-nil, All-cons, All-get_or}
use Rattle.ec_units.specs.declared.slave.Place.{Place}
use Rattle.ec_units.specs.declared.unit.Load.{Load}
use Rattle.ec_units.specs.declared.unit.Unit.{Unit as SyncUnit}
use Rattle.ec_units.specs.Load.{load_of, loads_of}
use Rattle.ec_loads.specs.Cost.{items, item, plan_items, IsBusiest, IsFirstBusiest}
use Rattle.ec_loads.specs.declared.plan.Plan.{Plan}
use Rattle.ec_loads.specs.Held.{Held, items_of, no_places}
use Rattle.ec_loads.specs.Legal.{Fits, IsLegal}
use Rattle.ec_loads.specs.Search.{Prefix, nobody, nowhere}
use Rattle.ec_loads.proofs.ItemLemmas.{AreLoads-loads_of}
use Rattle.ec_loads.proofs.MoreLemmas.{set_free}
use Rattle.ec_symmetry.proofs.CanonLemmas.{phase_at, slot_at}
use Rattle.ec_bounds.proofs.HeldLemmas.{with_place}
use Rattle.ec_branch.specs.FirstPlans.{first_place, IsWithinRange, AreWithinRanges, HasPlace, ArePlaced, AreAllPlaced, IsBestSoFar, IsNoDearer}
use Rattle.ec_branch.specs.Greedy.{IsGreedyPlan, HasNoGreedyPlan}
use Rattle.ec_branch.specs.Walks.{IsReadyFor}
use Rattle.ec_branch.proofs.OneGreedyLemmas.{one_greedy, none_greedy}
use Rattle.ec_branch.proofs.WalkLemmas.{legal_found}

get-other : {X : Type 0} (xs : List X) (i j : ℕ) (x : X) → (j ≡ i → ⊥) → slice_get (set xs i x) j ≡ slice_get xs j
get-other [] i j x apart = refl
get-other (y ∷ ys) zero zero x apart = absurd (apart refl)
get-other (y ∷ ys) zero (suc j) x apart = refl
get-other (y ∷ ys) (suc i) zero x apart = refl
get-other (y ∷ ys) (suc i) (suc j) x apart = get-other ys i j x (λ e. apart (ap suc e))

-- a unit gets a place: those that had one have one, and it too
placed_one : (loads : List Load) (n : ℕ) (ps : Prefix) (u w : ℕ) (p : Place) → length ps ≡ length loads → u < length loads → IsWithinRange loads n u p → ((w ≡ u → ⊥) → HasPlace loads n ps w) → HasPlace loads n (set ps u (Some p)) w
placed_one loads n ps u w p each within range had =
    elim (cases_eq w u) [
      | inl same ↦ subst (HasPlace loads n (set ps u (Some p))) (sym same) (p, set_free ps u (Some p) (omega (arith, each, within)), range)
      | inr apart ↦
          let (q, at, own) = had apart in
          (q, get-other ps u w (Some p) apart ∙ at, own)
    ]

-- a unit moves to another place
pub moved : (before removed after : Held) (u : ℕ) (p : Place) (xs : List Load) (d : Load) → removed ≡ with_place before u None → after ≡ with_place removed u (Some p) → xs ≡ before.loads → u < length xs → p.phase < (get_or xs u d).period → p.slot < before.slots → AreAllPlaced before.loads before.slots before.places → AreAllPlaced after.loads after.slots after.places
moved before removed after u p xs d gone made same within phase slot placed =
    let whole : after ≡ with_place before u (Some p) =
    made ∙ ap (λ (w : Held). with_place w u (Some p)) gone ∙ (λ j. record { loads = before.loads; slots = before.slots; places = (set-set before.places u None (Some p)) j }) in
    let inside : u < length before.loads = subst (λ w. u < length w) same within in
    let early : p.phase < (get_or before.loads u nobody).period = subst (λ w. p.phase < (get_or w u nobody).period) same (subst (λ (l : Load). p.phase < l.period) (get_or_default xs u d nobody within) phase) in
    subst (λ (w : Held). AreAllPlaced w.loads w.slots w.places) (sym whole) (
      length-set before.places u (Some p) ∙ placed.0,
      λ w h. placed_one before.loads before.slots before.places u w p placed.0 inside (early, slot) (λ apart. placed.1 w h),
    )

-- the next unit gets its place
pub placed_more :
    (args cur after : Held) (places : List Place) (i : ℕ) (d p : Place) →
    after ≡ with_place cur i (Some p) → cur.loads ≡ args.loads → cur.slots ≡ args.slots → i < length places → AreWithinRanges args.loads args.slots places →
    p.phase ≡ (get_or places i d).phase → p.slot ≤ (get_or places i d).slot →
    ArePlaced cur.loads cur.slots cur.places i → ArePlaced after.loads after.slots after.places (i + 1)
placed_more args cur after places i d p made loads slots within range phase slot placed =
    let long = range.0 in
    let inside : i < length args.loads = omega (arith, long, within) in
    let own = range.1 i inside in
    let early = own.0 in
    let low = own.1 in
    let same = get_or_default places i d nowhere within in
    let one : (get_or places i d).phase ≡ (get_or places i nowhere).phase = ap (λ (q : Place). q.phase) same in
    let two : (get_or places i d).slot ≡ (get_or places i nowhere).slot = ap (λ (q : Place). q.slot) same in
    let here : IsWithinRange cur.loads cur.slots i p = (
      subst (λ w. p.phase < (get_or w i nobody).period) (sym loads) (omega (arith, phase, one, early)),
      subst (λ n. p.slot < n) (sym slots) (omega (arith, slot, two, low)),
    ) in
    let each = placed.0 in
    let room : i < length cur.loads = subst (λ w. i < length w) (sym loads) inside in
    subst (λ (w : Held). ArePlaced w.loads w.slots w.places (i + 1)) (sym made) (
      length-set cur.places i (Some p) ∙ each,
      λ w h. placed_one cur.loads cur.slots cur.places i w p each room here (λ apart. placed.1 w (omega (arith, h, apart))),
    )

-- where each unit has a place, the places are a plan
pub placed_plan : (loads : List Load) (n : ℕ) (ps : Prefix) → AreAllPlaced loads n ps → IsReadyFor loads n ps []
placed_plan [] n [] h = ([], refl, record { whole = refl; phases = All-nil _; slots = All-nil _ })
placed_plan [] n (o ∷ ps) h = let each = h.0 in absurd (omega (arith, each))
placed_plan (l ∷ ls) n [] h = let each = h.0 in absurd (omega (arith, each))
placed_plan (l ∷ ls) n (None ∷ ps) h = let (p, at, range) = h.1 0 (omega arith) in absurd (cc)
placed_plan (l ∷ ls) n (Some p ∷ ps) h =
    let each = h.0 in
    let (q, at, range) = h.1 0 (omega arith) in
    let is : q ≡ p = cc in
    let own : IsWithinRange (l ∷ ls) n 0 p = subst (IsWithinRange (l ∷ ls) n 0) is range in
    let (plan, same, rest) = placed_plan ls n ps (omega (arith, each), λ u k. h.1 (suc u) (omega (arith, k))) in (
      p ∷ plan,
      ap (λ w. Some p ∷ w) same,
      record {
        whole = ap suc rest.whole;
        phases = All-cons (λ x. x.phase < x.period) (item l p) (items ls (map Some plan)) own.0 rest.phases;
        slots = All-cons (λ x. x.slot < n) (item l p) (items ls (map Some plan)) own.1 rest.slots;
      },
    )

-- a plan that is legal and costs no more
pub offered :
    (held : Held) (old new : List Place) (was : Option ℕ) (cost limit : ℕ) →
    AreAllPlaced held.loads held.slots held.places → map Some new ≡ held.places → Fits (items_of held) held.slots × IsBusiest (items_of held) held.slots cost →
    IfSome was (λ c. limit ≤ c) → cost ≤ limit → IsBestSoFar held.loads held.slots was old → IsBestSoFar held.loads held.slots (Some cost) new
offered held old new was cost limit placed same fits low within best = record {
  kept = (
    legal_found held.loads held.slots held.places [] new (placed_plan held.loads held.slots held.places placed) refl same fits.0,
    subst (λ ps. IsBusiest (items held.loads ps) held.slots cost) (sym same) fits.1,
  );
  greedy = λ plan is.
      let (c, b, at, busiest, less) = best.greedy plan is in
      let top : limit ≤ c = subst (λ w. IfSome w (λ x. limit ≤ x)) at low in
      (cost, b, refl, busiest, omega (arith, less, top, within));
}

-- the greedy plan is the best one so far
pub greedy_kept : (loads : List Load) (n : ℕ) (plan places : List Place) (cost t : ℕ) → IsGreedyPlan loads n plan → IsLegal loads n plan → IsFirstBusiest (plan_items loads plan) n cost t → places ≡ plan → IsBestSoFar loads n (Some cost) places
greedy_kept loads n plan places cost t greedy legal busiest same =
    subst (IsBestSoFar loads n (Some cost)) (sym same)
    (record {
      kept = (legal, busiest.busiest);
      greedy = λ other is. (cost, cost, refl, subst (λ w. IsBusiest (plan_items loads w) n cost) (one_greedy loads n plan other greedy is) busiest.busiest, omega arith);
    })

-- there is no greedy plan
pub none_kept : (loads : List Load) (n : ℕ) (places : List Place) → HasNoGreedyPlan loads n → IsBestSoFar loads n None places
none_kept loads n places none = record { kept = tt; greedy = λ plan is. absurd (none_greedy loads n plan none is) }

-- a legal plan is within the ranges
pub legal_ranges : (loads : List Load) (n : ℕ) (plan places : List Place) → IsLegal loads n plan → places ≡ plan → AreWithinRanges loads n places
legal_ranges loads n plan places legal same =
    subst (AreWithinRanges loads n) (sym same)
    (legal.whole, λ u h. (phase_at loads plan u h legal.whole legal.phases, slot_at n loads plan u h legal.whole legal.slots))

-- phase 0 and slot 0 are
pub first_ranges : (us : List SyncUnit) (n : ℕ) (places : List Place) → 1 ≤ n → places ≡ replicate (length us) first_place → AreWithinRanges (loads_of us) n places
first_ranges us n places some same =
    let long : length (loads_of us) ≡ length us = length-map us load_of in
    subst (AreWithinRanges (loads_of us) n) (sym same) (
      length-replicate (length us) first_place ∙ sym long,
      λ u h.
          let at : get_or (replicate (length us) first_place) u nowhere ≡ first_place = get_or-replicate (length us) u first_place nowhere (omega (arith, h, long)) in
          let period = (All-get_or (λ l. (1 ≤ l.period) × (l.period ≤ 60) × (l.bytes ≤ 1486)) (loads_of us) u nobody h (AreLoads-loads_of us)).0 in
          subst (IsWithinRange (loads_of us) n u) (sym at) (omega (arith, period), omega (arith, some)),
    )

-- the best plan is no dearer than the greedy one
pub no_dearer :
    (loads : List Load) (n : ℕ) (held : Held) (cost : Option ℕ) (places : List Place) (result : Option Plan) →
    held ≡ record { loads = loads; slots = n; places = no_places loads } → IsBestSoFar held.loads held.slots cost places →
    MatchOption result (cost ≡ None) (λ plan. (plan.places ≡ places) × IsSome cost) →
    (plan : List Place) → IsGreedyPlan loads n plan → IsSomeAnd result (λ first. IsNoDearer loads n first.places plan)
no_dearer loads n held cost places None at best none plan is =
    let (c, b, some, busiest, low) = (subst (λ (w : Held). IsBestSoFar w.loads w.slots cost places) at best).greedy plan is in
    absurd (let e : Some c ≡ None = sym some ∙ none in cc)
no_dearer loads n held cost places (Some first) at best found plan is =
    let kept = subst (λ (w : Held). IsBestSoFar w.loads w.slots cost places) at best in
    let (c, b, some, busiest, low) = kept.greedy plan is in
    let own = subst (λ w. IfSome w (λ x. IsLegal loads n places × IsBusiest (plan_items loads places) n x)) some kept.kept in
    record {
      cost = c;
      bound = b;
      busiest = subst (λ w. IsBusiest (plan_items loads w) n c) (sym found.0) own.1;
      busiest_other = busiest;
      low = low;
    }

-- Unit by unit at the best child.
-- A relation that runs forward over an order has its continuation as invariant: what holds from here on gives what
-- holds from the start (`IsPlacing.placed`, `.stuck`), over `drop i order`; no append lemma is needed. `IsBestOf`: all
-- before the best are dearer, none after is cheaper; `best_full`, `best_first`, `best_less`, `best_kept` are the steps.
use Rattle.std.proofs.Common.{◌≡◌, ℕ, ◌+◌, ◌<◌, ◌≤◌, ◌++◌, inl, inr, All, List, [], ◌∷◌, length, drop, get_or, Option, Some, None, MatchOption, refl, ap, sym, subst, ◌∙◌, arith}
use Rattle.std.proofs.lemmas.Bool.{cases_lt}
use Rattle.std.proofs.lemmas.List.{drop_more, append_assoc}
use Rattle.std.proofs.lemmas.List.Elements.{All-nil, All-push, All-append, All-cons}
use Rattle.ec_units.specs.declared.slave.Place.{Place}
use Rattle.ec_units.specs.declared.unit.Load.{Load}
use Rattle.ec_loads.specs.Cost.{items, payload, IsBusiest}
use Rattle.ec_loads.specs.Held.{Held, items_of, no_places}
use Rattle.ec_loads.specs.Legal.{Fits}
use Rattle.ec_loads.specs.Line.{slots_alone, line_of}
use Rattle.ec_loads.specs.Search.{Prefix, children}
use Rattle.ec_loads.proofs.CostLemmas.{one_busiest}
use Rattle.ec_symmetry.specs.Reached.{In}
use Rattle.ec_symmetry.proofs.InLemmas.{children-In}
use Rattle.ec_branch.specs.declared.greedy_plan.Choice.{Choice}
use Rattle.ec_branch.specs.Greedy.{items_at, IsTooFull, FitsAt, IsBestChild, IsGreedyTo, IsStuck}
use Rattle.ec_branch.specs.Walks.{IsReadyFor}
use Rattle.ec_bounds.proofs.HeldLemmas.{with_place}
use Rattle.ec_branch.proofs.WalkLemmas.{In-mid, ready_at}

-- it costs more, or no less, wherever it fits
abbrev CostsMore : List Load → ℕ → Prefix → ℕ → ℕ → Place → Type 0
CostsMore loads n ps u cost q = (b : ℕ) → FitsAt loads n ps u q b → cost < b

abbrev CostsNoLess : List Load → ℕ → Prefix → ℕ → ℕ → Place → Type 0
CostsNoLess loads n ps u cost q = (b : ℕ) → FitsAt loads n ps u q b → cost ≤ b

-- the best of the places looked at so far, with its cost
pub record IsBestOf (loads : List Load) (n : ℕ) (ps : Prefix) (u : ℕ) (seen : List Place) (p : Place) (cost : ℕ) : Type 0 where
  pub fits : FitsAt loads n ps u p cost
  pub before : List Place
  pub after : List Place
  pub split : seen ≡ before ++ p ∷ after
  pub earlier : All (CostsMore loads n ps u cost) before
  pub later : All (CostsNoLess loads n ps u cost) after

abbrev pub BestSoFar : List Load → ℕ → Prefix → ℕ → List Place → Option Choice → Type 0
BestSoFar loads n ps u seen None = All (IsTooFull loads n ps u) seen
BestSoFar loads n ps u seen (Some c) = IsBestOf loads n ps u seen c.place c.cost

All-map : {X : Type 0} (P Q : X → Type 0) (xs : List X) → ((x : X) → P x → Q x) → All P xs → All Q xs
All-map P Q xs f all = λ k d h. f (get_or xs k d) (all k d h)

-- a place that is too full
best_full : (loads : List Load) (n : ℕ) (ps : Prefix) (u : ℕ) (seen : List Place) (q : Place) (best : Option Choice) → IsTooFull loads n ps u q → BestSoFar loads n ps u seen best → BestSoFar loads n ps u (seen ++ q ∷ []) best
best_full loads n ps u seen q None full so_far = All-push (IsTooFull loads n ps u) seen q so_far full
best_full loads n ps u seen q (Some c) full so_far =
    record {
      fits = so_far.fits;
      before = so_far.before;
      after = so_far.after ++ q ∷ [];
      split = ap (λ w. w ++ q ∷ []) so_far.split ∙ append_assoc so_far.before (c.place ∷ so_far.after) (q ∷ []);
      earlier = so_far.earlier;
      later = All-push (CostsNoLess loads n ps u c.cost) so_far.after q so_far.later (λ b fits. absurd (full fits.fits));
    }

-- the first place that fits
best_first : (loads : List Load) (n : ℕ) (ps : Prefix) (u : ℕ) (seen : List Place) (q : Place) (cost : ℕ) → FitsAt loads n ps u q cost → All (IsTooFull loads n ps u) seen → IsBestOf loads n ps u (seen ++ q ∷ []) q cost
best_first loads n ps u seen q cost fits so_far =
    record {
      fits = fits;
      before = seen;
      after = [];
      split = refl;
      earlier = All-map (IsTooFull loads n ps u) (CostsMore loads n ps u cost) seen (λ x full b at. absurd (full at.fits)) so_far;
      later = All-nil _;
    }

-- a place that costs less than the best so far
best_less : (loads : List Load) (n : ℕ) (ps : Prefix) (u : ℕ) (seen : List Place) (q : Place) (cost : ℕ) (c : Choice) → FitsAt loads n ps u q cost → cost < c.cost → IsBestOf loads n ps u seen c.place c.cost → IsBestOf loads n ps u (seen ++ q ∷ []) q cost
best_less loads n ps u seen q cost c fits less so_far =
    let own : CostsMore loads n ps u cost c.place = λ b at. let same = one_busiest (items_at loads ps u c.place) n c.cost b so_far.fits.busiest at.busiest in omega (arith, same, less) in
    let front = All-map (CostsMore loads n ps u c.cost) (CostsMore loads n ps u cost) so_far.before (λ x more b at. let above = more b at in omega (arith, above, less)) so_far.earlier in
    let back = All-map (CostsNoLess loads n ps u c.cost) (CostsMore loads n ps u cost) so_far.after (λ x more b at. let above = more b at in omega (arith, above, less)) so_far.later in
    record {
      fits = fits;
      before = seen;
      after = [];
      split = refl;
      earlier = subst (All (CostsMore loads n ps u cost)) (sym so_far.split) (All-append (CostsMore loads n ps u cost) so_far.before (c.place ∷ so_far.after) front (All-cons (CostsMore loads n ps u cost) c.place so_far.after own back));
      later = All-nil _;
    }

-- one that doesn't
best_kept : (loads : List Load) (n : ℕ) (ps : Prefix) (u : ℕ) (seen : List Place) (q : Place) (cost : ℕ) (c : Choice) → FitsAt loads n ps u q cost → c.cost ≤ cost → IsBestOf loads n ps u seen c.place c.cost → IsBestOf loads n ps u (seen ++ q ∷ []) c.place c.cost
best_kept loads n ps u seen q cost c fits low so_far =
    record {
      fits = so_far.fits;
      before = so_far.before;
      after = so_far.after ++ q ∷ [];
      split = ap (λ w. w ++ q ∷ []) so_far.split ∙ append_assoc so_far.before (c.place ∷ so_far.after) (q ∷ []);
      earlier = so_far.earlier;
      later = All-push (CostsNoLess loads n ps u c.cost) so_far.after q so_far.later (λ b at. let same = one_busiest (items_at loads ps u q) n cost b fits.busiest at.busiest in omega (arith, same, low));
    }

-- what is chosen after one place more
pub record IsBetter (best : Option Choice) (q : Place) (cost : Option ℕ) (result : Option Choice) : Type 0 where
  pub full : cost ≡ None → result ≡ best
  pub first : (c : ℕ) → cost ≡ Some c → best ≡ None → result ≡ Some (record { place = q; cost = c })
  pub less : (c : ℕ) (b : Choice) → cost ≡ Some c → best ≡ Some b → c < b.cost → result ≡ Some (record { place = q; cost = c })
  pub kept : (c : ℕ) (b : Choice) → cost ≡ Some c → best ≡ Some b → b.cost ≤ c → result ≡ best

abbrev FitsOrNot : List Load → ℕ → Prefix → ℕ → Place → Option ℕ → Type 0
FitsOrNot loads n ps u q cost = MatchOption cost (IsTooFull loads n ps u q) (λ b. Fits (items_at loads ps u q) n × IsBusiest (items_at loads ps u q) n b)

best_more : (loads : List Load) (n : ℕ) (ps : Prefix) (u : ℕ) (seen : List Place) (q : Place) (best : Option Choice) (cost : Option ℕ) (result : Option Choice) → FitsOrNot loads n ps u q cost → IsBetter best q cost result → BestSoFar loads n ps u seen best → BestSoFar loads n ps u (seen ++ q ∷ []) result
best_more loads n ps u seen q best None result full is so_far = subst (BestSoFar loads n ps u (seen ++ q ∷ [])) (sym (is.full refl)) (best_full loads n ps u seen q best full so_far)
best_more loads n ps u seen q None (Some cost) result fits is so_far =
    subst (BestSoFar loads n ps u (seen ++ q ∷ [])) (sym (is.first cost refl refl)) (best_first loads n ps u seen q cost (record { fits = fits.0; busiest = fits.1 }) so_far)
best_more loads n ps u seen q (Some c) (Some cost) result fits is so_far =
    let at : FitsAt loads n ps u q cost = record { fits = fits.0; busiest = fits.1 } in
    elim (cases_lt cost c.cost) [
      | inl less ↦ subst (BestSoFar loads n ps u (seen ++ q ∷ [])) (sym (is.less cost c refl refl less)) (best_less loads n ps u seen q cost c at less so_far)
      | inr low ↦ subst (BestSoFar loads n ps u (seen ++ q ∷ [])) (sym (is.kept cost c refl refl low)) (best_kept loads n ps u seen q cost c at low so_far)
    ]

-- one more place is tried
pub tried : (args cur placed : Held) (u : ℕ) (seen : List Place) (q : Place) (best : Option Choice) (cost : Option ℕ) (result : Option Choice) →
    cur ≡ args → placed ≡ with_place cur u (Some q) →
    MatchOption cost (¬ (Fits (items_of placed) placed.slots)) (λ b. Fits (items_of placed) placed.slots × IsBusiest (items_of placed) placed.slots b) →
    IsBetter best q cost result → BestSoFar args.loads args.slots args.places u seen best → BestSoFar args.loads args.slots args.places u (seen ++ q ∷ []) result
tried args cur placed u seen q best cost result same made fits is so_far =
    let whole : placed ≡ with_place args u (Some q) = made ∙ ap (λ (w : Held). with_place w u (Some q)) same in
    best_more args.loads args.slots args.places u seen q best cost result
    (subst (λ (w : Held). MatchOption cost (¬ (Fits (items_of w) w.slots)) (λ b. Fits (items_of w) w.slots × IsBusiest (items_of w) w.slots b)) whole fits)
    is so_far

-- after some units of the order
pub record IsPlacing (args cur : Held) (order : List ℕ) (i : ℕ) : Type 0 where
  pub loads : cur.loads ≡ args.loads
  pub slots : cur.slots ≡ args.slots
  pub ready : IsReadyFor cur.loads cur.slots cur.places (drop i order)
  pub fits : Fits (items_of cur) cur.slots
  pub placed : (end : Prefix) → IsGreedyTo cur.loads cur.slots cur.places (drop i order) end → IsGreedyTo args.loads args.slots args.places order end
  pub stuck : IsStuck cur.loads cur.slots cur.places (drop i order) → IsStuck args.loads args.slots args.places order

-- the next unit is ready
pub placing_ready : (args cur : Held) (order : List ℕ) (i u d : ℕ) → i < length order → u ≡ get_or order i d → IsPlacing args cur order i → IsReadyFor cur.loads cur.slots cur.places (u ∷ drop (i + 1) order)
placing_ready args cur order i u d within is placing = ready_at cur.loads cur.slots cur.places (drop i order) (drop (i + 1) order) (get_or order i d) u placing.ready (drop_more order i d within) is

next_units : (order : List ℕ) (i u d : ℕ) → i < length order → u ≡ get_or order i d → drop i order ≡ u ∷ drop (i + 1) order
next_units order i u d within is = drop_more order i d within ∙ ap (λ w. w ∷ drop (i + 1) order) (sym is)

-- it gets its best child
pub placing_more : (args cur placed : Held) (order : List ℕ) (i u d : ℕ) (p : Place) → i < length order → u ≡ get_or order i d → placed ≡ with_place cur u (Some p) → IsBestChild cur.loads cur.slots cur.places u p → IsPlacing args cur order i → IsPlacing args placed order (i + 1)
placing_more args cur placed order i u d p within is made best placing =
    let next = next_units order i u d within is in
    let ready = placing_ready args cur order i u d within is placing in
    let kid : In p (children (line_of slots_alone cur) cur.places u) = subst (In p) (sym best.child) (In-mid best.before p best.after) in
    let range = children-In (line_of slots_alone cur) cur.places u p kid in
    subst (λ (w : Held). IsPlacing args w order (i + 1)) (sym made)
    (record {
      loads = placing.loads;
      slots = placing.slots;
      ready = ready.1 p range.0 range.2;
      fits = best.fits.fits;
      placed = λ end h. placing.placed end (subst (λ o. IsGreedyTo cur.loads cur.slots cur.places o end) (sym next) (p, best, h));
      stuck = λ h. placing.stuck (subst (IsStuck cur.loads cur.slots cur.places) (sym next) (inr (p, best, h)));
    })

-- every child of it is too full
pub placing_stuck : (args cur : Held) (order : List ℕ) (i u d : ℕ) → i < length order → u ≡ get_or order i d → All (IsTooFull cur.loads cur.slots cur.places u) (children (line_of slots_alone cur) cur.places u) → IsPlacing args cur order i → IsStuck args.loads args.slots args.places order
placing_stuck args cur order i u d within is full placing = placing.stuck (subst (IsStuck cur.loads cur.slots cur.places) (sym (next_units order i u d within is)) (inl full))

-- nothing is sent where no unit has a place
no_items : (loads : List Load) → items loads (no_places loads) ≡ []
no_items [] = refl
no_items (l ∷ ls) = no_items ls

pub empty_fits : (loads : List Load) (n : ℕ) → Fits (items loads (no_places loads)) n
unfolding payload
empty_fits loads n t s h = rw (no_items loads) (omega arith)

-- The slaves of a unit that travels in a tick are served in it.
use Rattle.std.proofs.Common.{◌≡◌, inl, inr, ℕ, zero, suc, ◌+◌, ◌<◌, ◌==◌, Bool, true, false, cond, List, [], ◌∷◌, length, filter, get_or, count_by, refl, ap, sym, ◌∙◌, subst, arith}
use Rattle.std.specs.List.{list_any, range_with_len}
use Rattle.std.proofs.lemmas.Bool.{false≢true, cases_Bool, or_cases, or_left, or_right, and_from, eq-eqb, eqb-true, cond-true, cond-false}
use Rattle.std.proofs.lemmas.List.Sums.{sum_by-cons}
use Rattle.ec_hyper.specs.Travel.{travels}
use Rattle.ec_units.specs.declared.slave.Place.{Place}
use Rattle.ec_units.specs.declared.units.Units.{Units}
use Rattle.ec_fmmu.specs.declared.seat.Seat.{Seat}
use Rattle.ec_fmmu.specs.declared.group.Group.{Group}
use Rattle.ec_fmmu.specs.declared.mapping.Mapping.{Mapping}
use Rattle.ec_fmmu.specs.Order.{is_same}
use Rattle.ec_fmmu.specs.Seats.{key_numbers}
use Rattle.ec_fmmu.specs.Layout.{group_numbers}
use Rattle.ec_fmmu.proofs.OrderLemmas.{same_is, same_self}
use Rattle.ec_fmmu.proofs.SumLemmas.{once}
use Rattle.ec_fmmu.proofs.LegalLemmas.{units-all}
use Rattle.ec_slave.proofs.RangeLemmas.{any_at}
use Rattle.ec_frame_builder.specs.Frames.{goes, going, carries}
use Rattle.ec_frame_builder.proofs.FrameLemmas.{some-carried}
use Rattle.ec_frame_builder.proofs.GoingLemmas.{goes_by}
use Rattle.ec_play_laws.specs.IsReady.{AreReady}
use Rattle.ec_play_laws.specs.Arrivals.{HoldsOutputs}
use Rattle.ec_play_laws.proofs.TickLemmas.{is_in}
use Rattle.ec_play_laws.proofs.DataLemmas.{AreServed}
use Rattle.ec_play_laws.proofs.PlayLemmas.{IsSet, seats_in, has_group, served_in, busy_in, serves}

-- the number of groups with these numbers
abbrev times : List Group → List ℕ → ℕ
times gs n = count_by (λ g. is_same (group_numbers g) n) gs

any-some : {X : Type 0} (p : X → Bool) (xs : List X) → list_any p xs ≡ true → 0 < length xs
any-some p [] h = absurd (false≢true h)
any-some p (x ∷ xs) h = omega arith

any-filter : (p q : ℕ → Bool) (x : ℕ) (xs : List ℕ) → list_any (λ y. x == y) xs ≡ true → p x ≡ true → q x ≡ true → list_any q (filter p xs) ≡ true
any-filter p q x [] h a b = absurd (false≢true h)
any-filter p q x (y ∷ ys) h a b =
    elim (or_cases (x == y) (list_any (λ y. x == y) ys) h) [
      | inl e ↦
          let same : x ≡ y = eqb-true x y e in
          ap (list_any q) (cond-true (p y) (y ∷ filter p ys) (filter p ys) (ap p (sym same) ∙ a)) ∙ or_left (q y) (list_any q (filter p ys)) (ap q (sym same) ∙ b)
      | inr r ↦
          let rest = any-filter p q x ys r a b in
          elim (cases_Bool (p y)) [
            | inl t ↦ ap (list_any q) (cond-true (p y) (y ∷ filter p ys) (filter p ys) t) ∙ or_right (q y) (list_any q (filter p ys)) rest
            | inr f ↦ ap (list_any q) (cond-false (p y) (y ∷ filter p ys) (filter p ys) f) ∙ rest
          ]
    ]

-- a group of the slave goes where the slave does
group-goes : (t s : ℕ) (gs : List Group) (x : Seat) → goes_by t s (key_numbers x.key) ≡ true → 0 < times gs (key_numbers x.key) → has_group (going gs t s) x ≡ true
group-goes t s [] x g l = absurd (omega (arith, l))
group-goes t s (y ∷ ys) x g l =
    let n = key_numbers x.key in
    let b : times (y ∷ ys) n ≡ once (is_same (group_numbers y) n) + times ys n = sum_by-cons (λ g. cond (is_same (group_numbers g) n) 1 0) y ys in
    elim (cases_Bool (is_same (group_numbers y) n)) [
      | inl e ↦
          let same : group_numbers y ≡ n = same_is (group_numbers y) n e in
          let goes_too : goes t s y ≡ true = subst (λ w. goes_by t s w ≡ true) (sym same) g in
          ap (λ w. has_group w x) (cond-true (goes t s y) (y ∷ filter (goes t s) ys) (filter (goes t s) ys) goes_too)
          ∙ or_left (is_in y x) (has_group (going ys t s) x) (subst (λ w. is_same n w ≡ true) (sym same) (same_self n))
      | inr f ↦
          let none : once (is_same (group_numbers y) n) ≡ 0 = ap once f in
          let rest = group-goes t s ys x g (omega (arith, b, none, l)) in
          elim (cases_Bool (goes t s y)) [
            | inl a ↦ ap (λ w. has_group w x) (cond-true (goes t s y) (y ∷ filter (goes t s) ys) (filter (goes t s) ys) a) ∙ or_right (is_in y x) (has_group (going ys t s) x) rest
            | inr a ↦ ap (λ w. has_group w x) (cond-false (goes t s y) (y ∷ filter (goes t s) ys) (filter (goes t s) ys) a) ∙ rest
          ]
    ]

served-tick : (us : Units) (ps : List Place) (m : Mapping) (image : List ℕ) (t i : ℕ) (d : Seat) → IsSet us ps m image → i < length (seats_in us ps) →
    travels (get_or (seats_in us ps) i d).key.period (get_or (seats_in us ps) i d).key.phase t ≡ true → served_in m t (busy_in us m t) (get_or (seats_in us ps) i d) ≡ true
served-tick us ps m image t i d set l h =
    let seats = seats_in us ps in
    let x = get_or seats i d in
    let slot = x.key.slot in
    let below : slot < us.slots = units-all (λ n. get_or n 0 0 < us.slots) 0 us.units ps set.laid.legal.slots i d l in
    let one : times m.groups (key_numbers x.key) ≡ 1 = set.laid.layout.groups.whole i d l in
    let goes_here : goes_by t slot (key_numbers x.key) ≡ true = and_from (travels x.key.period x.key.phase t) (slot == slot) h (eq-eqb slot slot refl) in
    let found = group-goes t slot m.groups x goes_here (omega (arith, one)) in
    any-filter (carries m.groups t) (λ s. has_group (going m.groups t s) x) slot (range_with_len 0 us.slots) (any_at (λ y. slot == y) us.slots slot below (eq-eqb slot slot refl))
    (some-carried t slot m.groups (any-some (λ g. is_in g x) (going m.groups t slot) found)) found

pub served-ticks : (us : Units) (ps : List Place) (m : Mapping) (image : List ℕ) (n t i : ℕ) (d : Seat) → IsSet us ps m image → t < n → i < length (seats_in us ps) →
    travels (get_or (seats_in us ps) i d).key.period (get_or (seats_in us ps) i d).key.phase t ≡ true → serves us m (range_with_len 0 n) (get_or (seats_in us ps) i d) ≡ true
served-ticks us ps m image n t i d set less l h = any_at (λ t. served_in m t (busy_in us m t) (get_or (seats_in us ps) i d)) n t less (served-tick us ps m image t i d set l h)

pub served-none : (seats : List Seat) (image : List ℕ) (ss : List Seat) (ms : List (List ℕ)) → AreServed seats image (λ s. false) ss ms
served-none seats image [] ms = tt
served-none seats image (s ∷ ss) [] = tt
served-none seats image (s ∷ ss) (m ∷ ms) = ((λ t. absurd (false≢true t)), served-none seats image ss ms)

pub served-at : (seats : List Seat) (image : List ℕ) (went : Seat → Bool) (ss : List Seat) (ms : List (List ℕ)) (i : ℕ) (d : Seat) → AreServed seats image went ss ms → AreReady seats ss ms → i < length ss →
    went (get_or ss i d) ≡ true → HoldsOutputs seats image (get_or ss i d) (get_or ms i [])
served-at seats image went [] ms i d h ready l t = absurd (omega (arith, l))
served-at seats image went (s ∷ ss) [] i d h ready l t = absurd ready
served-at seats image went (s ∷ ss) (m ∷ ms) zero d h ready l t = h.0 t
served-at seats image went (s ∷ ss) (m ∷ ms) (suc i) d h ready l t = served-at seats image went ss ms i d h.1 ready.1 (omega (arith, l)) t

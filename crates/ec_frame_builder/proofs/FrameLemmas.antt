-- The frames of a tick, slot by slot, and their bytes on the wire.
use Rattle.std.proofs.Common.{◌≡◌, ℕ, zero, suc, ◌+◌, ◌-◌, ◌<◌, ◌≤◌, Bool, true, false, cond, max, List, [], ◌∷◌, ◌++◌, length, length-append, length-take, map, filter, take, drop, get_or, sum_by, refl, sym, ap, ◌∙◌, subst, inl, inr, arith, add-zero, zero-add, add-one, ◌||◌, ◌==◌, Option, Some, None, MatchOption}
use Rattle.std.specs.List.{flat_map, range_with_len}
use Rattle.std.proofs.lemmas.Bool.{true≢false, cases_Bool, cases_lt, or_left, or_right, cond-true, cond-false}
use Rattle.std.proofs.lemmas.List.{length-take-le, length-drop}
use Rattle.std.proofs.lemmas.List.Sums.{sum_by-cons, sum_by_push}
use Rattle.std.proofs.lemmas.List.Elements.{All-head, All-tail, All-filter}
use Rattle.ec_units.specs.declared.slave.Place.{Place}
use Rattle.ec_units.specs.declared.unit.Unit.{Unit as SyncUnit}
use Rattle.ec_units.specs.Load.{loads_of}
use Rattle.ec_units.specs.Views.{unit_view}
use Rattle.ec_loads.specs.Cost.{plan_items, payload, sum_below, slot_cost, tick_cost}
use Rattle.ec_frames.specs.Written.{total_of}
use Rattle.ec_frames.proofs.WrittenReads.{length-written}
use Rattle.ec_fmmu.specs.declared.group.Group.{Group}
use Rattle.ec_fmmu.specs.Seats.{seats_of}
use Rattle.ec_fmmu.specs.Layout.{AreGroups}
use Rattle.ec_fmmu.proofs.SumLemmas.{sum-filter}
use Rattle.ec_frame_builder.specs.Frames.{goes, going, carries, datagram_of, data_of, frame_of}
use Rattle.ec_frame_builder.specs.Within.{GroupsWithin}
use Rattle.ec_frame_builder.proofs.GoingLemmas.{going-payload, carries-busy, sum_by-map}

-- the data of groups are as many bytes as their datagrams say
pub data-length : (bytes : List ℕ) (groups : List Group) → GroupsWithin (length bytes) groups → sum_by (λ d. d.len) (map datagram_of groups) ≡ length (flat_map (data_of bytes) groups)
data-length bytes [] h = refl
data-length bytes (g ∷ gs) h =
    let P : Group → Type 0 = λ g. (1 ≤ g.period) × (65536 ≤ g.start) × (g.start + g.len ≤ 65536 + length bytes) in
    let here : P g = All-head P g gs h in
    let low = here.1 in
    let high = here.2 in
    let rest = data-length bytes gs (All-tail P g gs h) in
    let dropped = length-drop (g.start - 65536) bytes in
    let own : length (data_of bytes g) ≡ g.len = length-take-le g.len (drop (g.start - 65536) bytes) (omega (arith, dropped, low, high)) in
    let a = sum_by-cons (λ d. d.len) (datagram_of g) (map datagram_of gs) in
    let b = length-append (data_of bytes g) (flat_map (data_of bytes) gs) in
    omega (arith, a, b, own, rest)

-- the data of one more group have room beside those before
pub data-room : (bytes : List ℕ) (groups : List Group) (i : ℕ) (d : Group) → i < length groups → length (flat_map (data_of bytes) (take i groups)) + (get_or groups i d).len ≤ total_of (map datagram_of groups)
data-room bytes [] i d l = absurd (omega (arith, l))
data-room bytes (g ∷ gs) zero d l = let s = sum_by-cons (λ d. d.len + 12) (datagram_of g) (map datagram_of gs) in omega (arith, s)
data-room bytes (g ∷ gs) (suc i) d l =
    let s = sum_by-cons (λ d. d.len + 12) (datagram_of g) (map datagram_of gs) in
    let a = length-append (data_of bytes g) (flat_map (data_of bytes) (take i gs)) in
    let own = length-take g.len (drop (g.start - 65536) bytes) in
    let rest = data-room bytes gs i d (omega (arith, l)) in
    omega (arith, s, a, own, rest)

pub length-frame : (bytes : List ℕ) (groups : List Group) → GroupsWithin (length bytes) groups → length (frame_of groups bytes) ≡ max 60 (total_of (map datagram_of groups) + 16)
unfolding frame_of
length-frame bytes groups h = length-written (map datagram_of groups) (flat_map (data_of bytes) groups) (data-length bytes groups h)

-- a slot carries something where a group goes
pub none-carried : (t s : ℕ) (groups : List Group) → length (going groups t s) ≡ 0 → carries groups t s ≡ false
none-carried t s [] h = refl
none-carried t s (g ∷ gs) h =
    elim (cases_Bool (goes t s g)) [
      | inl a ↦ let e = ap length (cond-true (goes t s g) (g ∷ filter (goes t s) gs) (filter (goes t s) gs) a) in absurd (omega (arith, e, h))
      | inr b ↦
          let e = ap length (cond-false (goes t s g) (g ∷ filter (goes t s) gs) (filter (goes t s) gs) b) in
          let rest = none-carried t s gs (sym e ∙ h) in
          (λ i. b i || rest i)
    ]

pub carried-some : (t s : ℕ) (groups : List Group) → carries groups t s ≡ true → 0 < length (going groups t s)
carried-some t s groups h =
    elim (cases_lt 0 (length (going groups t s))) [
      | inl l ↦ l
      | inr l ↦ absurd (true≢false (sym h ∙ none-carried t s groups (omega (arith, l))))
    ]

pub some-carried : (t s : ℕ) (groups : List Group) → 0 < length (going groups t s) → carries groups t s ≡ true
some-carried t s [] h = absurd (omega (arith, h))
some-carried t s (g ∷ gs) h =
    elim (cases_Bool (goes t s g)) [
      | inl a ↦ or_left (goes t s g) (carries gs t s) a
      | inr b ↦
          or_right (goes t s g) (carries gs t s)
          (some-carried t s gs (subst (λ n. 0 < n) (ap length (cond-false (goes t s g) (g ∷ filter (goes t s) gs) (filter (goes t s) gs) b)) h))
    ]

-- one number more
range-more : (a n : ℕ) → range_with_len a (suc n) ≡ range_with_len a n ++ (a + n) ∷ []
range-more a zero = λ i. sym (add-zero a) i ∷ []
range-more a (suc n) =
    let e : a + 1 + n ≡ a + suc n = omega arith in
    ap (λ w. a ∷ w) (range-more (a + 1) n ∙ ap (λ m. range_with_len (a + 1) n ++ m ∷ []) e)

pub range-one : (n : ℕ) → range_with_len 0 (n + 1) ≡ range_with_len 0 n ++ n ∷ []
range-one n = rw add-one (range-more 0 n ∙ ap (λ m. range_with_len 0 n ++ m ∷ []) (zero-add n))

sum-range : (h : ℕ → ℕ) (n : ℕ) → sum_by h (range_with_len 0 n) ≡ sum_below h n
sum-range h zero = refl
sum-range h (suc n) =
    ap (sum_by h) (range-more 0 n ∙ ap (λ m. range_with_len 0 n ++ m ∷ []) (zero-add n))
    ∙ sum_by_push h (range_with_len 0 n) n
    ∙ ap (λ w. w + h n) (sum-range h n)

below-agree : (f g : ℕ → ℕ) (n : ℕ) → ((k : ℕ) → f k ≡ g k) → sum_below f n ≡ sum_below g n
below-agree f g zero h = refl
below-agree f g (suc n) h = λ i. below-agree f g n h i + h n i

filter-yes : {X : Type 0} (p : X → Bool) (xs : List X) (y : X) → p y ≡ true → filter p (xs ++ y ∷ []) ≡ filter p xs ++ y ∷ []
filter-yes p [] y h = cond-true (p y) (y ∷ []) [] h
filter-yes p (x ∷ xs) y h =
    elim (cases_Bool (p x)) [
      | inl a ↦
          cond-true (p x) (x ∷ filter p (xs ++ y ∷ [])) (filter p (xs ++ y ∷ [])) a
          ∙ ap (λ w. x ∷ w) (filter-yes p xs y h)
          ∙ ap (λ w. w ++ y ∷ []) (sym (cond-true (p x) (x ∷ filter p xs) (filter p xs) a))
      | inr b ↦
          cond-false (p x) (x ∷ filter p (xs ++ y ∷ [])) (filter p (xs ++ y ∷ [])) b
          ∙ filter-yes p xs y h
          ∙ ap (λ w. w ++ y ∷ []) (sym (cond-false (p x) (x ∷ filter p xs) (filter p xs) b))
    ]

filter-no : {X : Type 0} (p : X → Bool) (xs : List X) (y : X) → p y ≡ false → filter p (xs ++ y ∷ []) ≡ filter p xs
filter-no p [] y h = cond-false (p y) (y ∷ []) [] h
filter-no p (x ∷ xs) y h =
    elim (cases_Bool (p x)) [
      | inl a ↦
          cond-true (p x) (x ∷ filter p (xs ++ y ∷ [])) (filter p (xs ++ y ∷ [])) a
          ∙ ap (λ w. x ∷ w) (filter-no p xs y h)
          ∙ sym (cond-true (p x) (x ∷ filter p xs) (filter p xs) a)
      | inr b ↦
          cond-false (p x) (x ∷ filter p (xs ++ y ∷ [])) (filter p (xs ++ y ∷ [])) b
          ∙ filter-no p xs y h
          ∙ sym (cond-false (p x) (x ∷ filter p xs) (filter p xs) b)
    ]

-- the slots that pass a test so far, and one more
pub busy-yes : (p : ℕ → Bool) (xs : List ℕ) (n : ℕ) → p n ≡ true → xs ≡ filter p (range_with_len 0 n) → xs ++ n ∷ [] ≡ filter p (range_with_len 0 (n + 1))
busy-yes p xs n h had = (λ i. had i ++ n ∷ []) ∙ sym (filter-yes p (range_with_len 0 n) n h) ∙ ap (filter p) (sym (range-one n))

pub busy-no : (p : ℕ → Bool) (xs : List ℕ) (n : ℕ) → p n ≡ false → xs ≡ filter p (range_with_len 0 n) → xs ≡ filter p (range_with_len 0 (n + 1))
busy-no p xs n h had = had ∙ sym (filter-no p (range_with_len 0 n) n h) ∙ ap (filter p) (sym (range-one n))

map-push : {X Y : Type 0} (f : X → Y) (xs : List X) (y : X) → map f (xs ++ y ∷ []) ≡ map f xs ++ f y ∷ []
map-push f [] y = refl
map-push f (x ∷ xs) y = ap (λ w. f x ∷ w) (map-push f xs y)

-- the frames of the slots so far, and of one more, which carries something or nothing
slots-yes : {F : Type 0} (f : F → List ℕ) (frames : List F) (frame : F) (make : ℕ → List ℕ) (p : ℕ → Bool) (n : ℕ) → p n ≡ true → f frame ≡ make n →
    map f frames ≡ map make (filter p (range_with_len 0 n)) → map f (frames ++ frame ∷ []) ≡ map make (filter p (range_with_len 0 (n + 1)))
slots-yes f frames frame make p n h e had =
    map-push f frames frame
    ∙ (λ i. had i ++ e i ∷ [])
    ∙ sym (map-push make (filter p (range_with_len 0 n)) n)
    ∙ ap (map make) (sym (filter-yes p (range_with_len 0 n) n h))
    ∙ ap (λ w. map make (filter p w)) (sym (range-one n))

slots-no : {F : Type 0} (f : F → List ℕ) (frames : List F) (make : ℕ → List ℕ) (p : ℕ → Bool) (n : ℕ) → p n ≡ false →
    map f frames ≡ map make (filter p (range_with_len 0 n)) → map f frames ≡ map make (filter p (range_with_len 0 (n + 1)))
slots-no f frames make p n h had =
    had
    ∙ ap (map make) (sym (filter-no p (range_with_len 0 n) n h))
    ∙ ap (λ w. map make (filter p w)) (sym (range-one n))

pub slots-more : {F : Type 0} (f : F → List ℕ) (old new : List F) (found : Option F) (make : ℕ → List ℕ) (p : ℕ → Bool) (n : ℕ) →
    MatchOption found (p n ≡ false) (λ x. (p n ≡ true) × (f x ≡ make n)) → MatchOption found (new ≡ old) (λ x. new ≡ old ++ x ∷ []) →
    map f old ≡ map make (filter p (range_with_len 0 n)) → map f new ≡ map make (filter p (range_with_len 0 (n + 1)))
slots-more f old new None make p n h e had = ap (map f) e ∙ slots-no f old make p n h had
slots-more f old new (Some x) make p n h e had = ap (map f) e ∙ slots-yes f old x make p n h.0 h.1 had

-- a number that isn't 0
pub pos-from : (n : ℕ) → (n == 0) ≡ false → 0 < n
pos-from zero h = absurd (true≢false h)
pos-from (suc n) h = omega arith

-- a sum over the slots that pass a test
sum-slots : (h : ℕ → ℕ) (p : ℕ → Bool) (n : ℕ) → sum_by h (filter p (range_with_len 0 n)) ≡ sum_below (λ s. cond (p s) (h s) 0) n
sum-slots h p n = sum-filter h p (range_with_len 0 n) ∙ sum-range (λ s. cond (p s) (h s) 0) n

-- the wire bytes of the frames of a tick are what it costs
slot-wire : (us : List SyncUnit) (ps : List Place) (groups : List Group) (bytes : List ℕ) (t s : ℕ) → AreGroups (seats_of (map unit_view us) ps) groups → GroupsWithin (length bytes) groups →
    cond (carries groups t s) (length (frame_of (going groups t s) bytes) + 24) 0 ≡ slot_cost (plan_items (loads_of us) ps) t s
slot-wire us ps groups bytes t s h within =
    let xs = plan_items (loads_of us) ps in
    let len = length-frame bytes (going groups t s) (All-filter (goes t s) (λ g. (1 ≤ g.period) × (65536 ≤ g.start) × (g.start + g.len ≤ 65536 + length bytes)) groups within) in
    let load = going-payload us ps groups t s h in
    let wire : length (frame_of (going groups t s) bytes) + 24 ≡ 38 + max 46 (2 + payload xs t s) = omega (arith, len, load) in
    (λ i. cond (carries-busy us ps groups t s h i) (wire i) 0)

pub tick-wire : {F : Type 0} (f : F → List ℕ) (frames : List F) (us : List SyncUnit) (ps : List Place) (groups : List Group) (bytes : List ℕ) (n t : ℕ) →
    AreGroups (seats_of (map unit_view us) ps) groups → GroupsWithin (length bytes) groups →
    map f frames ≡ map (λ s. frame_of (going groups t s) bytes) (filter (carries groups t) (range_with_len 0 n)) → sum_by (λ x. length (f x) + 24) frames ≡ tick_cost (plan_items (loads_of us) ps) n t
unfolding tick_cost
tick-wire f frames us ps groups bytes n t h within e =
    sym (sum_by-map (λ b. length b + 24) f frames)
    ∙ ap (sum_by (λ b. length b + 24)) e
    ∙ sum_by-map (λ b. length b + 24) (λ s. frame_of (going groups t s) bytes) (filter (carries groups t) (range_with_len 0 n))
    ∙ sum-slots (λ s. length (frame_of (going groups t s) bytes) + 24) (carries groups t) n
    ∙ below-agree (λ s. cond (carries groups t s) (length (frame_of (going groups t s) bytes) + 24) 0) (slot_cost (plan_items (loads_of us) ps) t) n (λ s. slot-wire us ps groups bytes t s h within)

-- What the slaves of units keep: they are few, their areas end within a memory, and they rise in the order of the file.
use Rattle.std.proofs.Common.{◌≡◌, ℕ, suc, ◌*◌, ◌<◌, ◌≤◌, ◌^◌, Bool, true, false, cond, List, [], ◌∷◌, ◌++◌, length, length-append, map, filter, get_or, sum_by, drop, append-nil, All, AllPairs, refl, sym, ap, ◌∙◌, arith}
use Rattle.std.proofs.lemmas.List.Elements.{All-nil, All-cons, All-append, All-weaker}
use Rattle.std.proofs.lemmas.List.Kept.{AllPairs-cons}
use Rattle.std.proofs.lemmas.List.{drop_all}
use Rattle.std.proofs.lemmas.List.Sums.{sum_by-le}
use Rattle.ec_units.specs.declared.slave.Place.{Place}
use Rattle.ec_units.specs.declared.slave.Slave.{Slave}
use Rattle.ec_units.specs.declared.unit.Unit.{Unit as SyncUnit}
use Rattle.ec_units.specs.Views.{slave_view, unit_view}
use Rattle.ec_fmmu.specs.declared.seat.Key.{Key}
use Rattle.ec_fmmu.specs.declared.seat.Seat.{Seat}
use Rattle.ec_fmmu.specs.Order.{is_before}
use Rattle.ec_fmmu.specs.Seats.{seat, slave_seats, key_at, seats_from, seats_of, number, size, HasAreas, AreKept}
use Rattle.ec_fmmu.proofs.OrderLemmas.{before_first, before_next}
use Rattle.ec_fmmu.proofs.SumLemmas.{sum-filter, sum-less}

length-slaves : (k : Key) (n i : ℕ) (ss : List Slave) → length (slave_seats k n i (map slave_view ss)) ≡ length ss
length-slaves k n i [] = refl
length-slaves k n i (s ∷ ss) = ap suc (length-slaves k n (suc i) ss)

few_seats : (n : ℕ) (us : List SyncUnit) (ps : List Place) → length (seats_from n (map unit_view us) ps) ≤ 8 * length us
few_seats n [] ps = omega arith
few_seats n (u ∷ us) [] = omega arith
few_seats n (u ∷ us) (p ∷ ps) =
    let a = length-append (slave_seats (key_at (unit_view u) p) n 0 (map slave_view u.slaves)) (seats_from (suc n) (map unit_view us) ps) in
    let b = length-slaves (key_at (unit_view u) p) n 0 u.slaves in
    let c = u.slave_count.1 in
    let rest = few_seats (suc n) us ps in
    omega (arith, a, b, c, rest)

slave_areas : (k : Key) (n i : ℕ) (ss : List Slave) → All HasAreas (slave_seats k n i (map slave_view ss))
slave_areas k n i [] = All-nil HasAreas
slave_areas k n i (s ∷ ss) = All-cons HasAreas (seat k n i (slave_view s)) (slave_seats k n (suc i) (map slave_view ss)) (s.out_area.1, s.in_area.1) (slave_areas k n (suc i) ss)

unit_areas : (n : ℕ) (us : List SyncUnit) (ps : List Place) → All HasAreas (seats_from n (map unit_view us) ps)
unit_areas n [] ps = All-nil HasAreas
unit_areas n (u ∷ us) [] = All-nil HasAreas
unit_areas n (u ∷ us) (p ∷ ps) =
    All-append HasAreas (slave_seats (key_at (unit_view u) p) n 0 (map slave_view u.slaves)) (seats_from (suc n) (map unit_view us) ps)
    (slave_areas (key_at (unit_view u) p) n 0 u.slaves) (unit_areas (suc n) us ps)

abbrev Rises : Seat → Seat → Type 0
Rises a b = is_before (number a) (number b) ≡ true

-- the slaves of a unit from a number on stand behind those with a lower one
abbrev IsFrom : ℕ → ℕ → Seat → Type 0
IsFrom n i s = (s.unit ≡ n) × (i ≤ s.slave)

slaves_from : (k : Key) (n i j : ℕ) (ss : List Slave) → j ≤ i → All (IsFrom n j) (slave_seats k n i (map slave_view ss))
slaves_from k n i j [] l = All-nil (IsFrom n j)
slaves_from k n i j (s ∷ ss) l = All-cons (IsFrom n j) (seat k n i (slave_view s)) (slave_seats k n (suc i) (map slave_view ss)) (refl, l) (slaves_from k n (suc i) j ss (omega arith))

slaves_rise : (k : Key) (n i : ℕ) (ss : List Slave) (later : List Seat) → All (λ s. n < s.unit) later → AllPairs Rises later → AllPairs Rises (slave_seats k n i (map slave_view ss) ++ later)
slaves_rise k n i [] later h r = r
slaves_rise k n i (s ∷ ss) later h r =
    let x = seat k n i (slave_view s) in
    AllPairs-cons Rises x (slave_seats k n (suc i) (map slave_view ss) ++ later)
    (All-append (Rises x) (slave_seats k n (suc i) (map slave_view ss)) later
    (All-weaker (IsFrom n (suc i)) (Rises x) (λ y f. before_next n y.unit (i ∷ []) (y.slave ∷ []) (sym f.0) (before_first i y.slave [] [] (omega (arith, f.1))))
    (slave_seats k n (suc i) (map slave_view ss)) (slaves_from k n (suc i) (suc i) ss (omega arith)))
    (All-weaker (λ y. n < y.unit) (Rises x) (λ y l. before_first n y.unit (i ∷ []) (y.slave ∷ []) l) later h))
    (slaves_rise k n (suc i) ss later h r)

units_from : (n m : ℕ) (us : List SyncUnit) (ps : List Place) → m < n → All (λ s. m < s.unit) (seats_from n (map unit_view us) ps)
units_from n m [] ps l = All-nil (λ s. m < s.unit)
units_from n m (u ∷ us) [] l = All-nil (λ s. m < s.unit)
units_from n m (u ∷ us) (p ∷ ps) l =
    let k = key_at (unit_view u) p in
    All-append (λ s. m < s.unit) (slave_seats k n 0 (map slave_view u.slaves)) (seats_from (suc n) (map unit_view us) ps)
    (All-weaker (IsFrom n 0) (λ s. m < s.unit) (λ s f. let e = f.0 in omega arith) (slave_seats k n 0 (map slave_view u.slaves)) (slaves_from k n 0 0 u.slaves (omega arith)))
    (units_from (suc n) m us ps (omega arith))

units_rise : (n : ℕ) (us : List SyncUnit) (ps : List Place) → AllPairs Rises (seats_from n (map unit_view us) ps)
units_rise n [] ps = λ i j d l m. absurd (omega arith)
units_rise n (u ∷ us) [] = λ i j d l m. absurd (omega arith)
units_rise n (u ∷ us) (p ∷ ps) =
    slaves_rise (key_at (unit_view u) p) n 0 u.slaves (seats_from (suc n) (map unit_view us) ps) (units_from (suc n) n us ps (omega arith)) (units_rise (suc n) us ps)

pub units_kept : (us : List SyncUnit) (ps : List Place) → length us ≤ 48 → AreKept (seats_of (map unit_view us) ps)
units_kept us ps l =
    record {
      few = let f = few_seats 0 us ps in omega arith;
      areas = unit_areas 0 us ps;
      rising = units_rise 0 us ps;
    }

part : (b : Bool) (n : ℕ) → cond b n 0 ≤ n
part true n = omega arith
part false n = omega arith

-- some of few slaves have few bytes
pub sum_most : (p : Seat → Bool) (seats : List Seat) → length seats ≤ 384 → All HasAreas seats → sum_by size (filter p seats) < 2 ^ 26
sum_most p seats few areas =
    let a = sum_by-le size 131072 seats (All-weaker HasAreas (λ s. size s ≤ 131072) (λ s h. let x = h.0 in let y = h.1 in omega arith) seats areas) in
    let b = sum-less (λ x. cond (p x) (size x) 0) size seats (λ k d l. part (p (get_or seats k d)) (size (get_or seats k d))) in
    let e = sum-filter size p seats in
    omega arith

-- where all units are passed, what is there is all
pub seats_done : (have : List Seat) (us : List SyncUnit) (ps : List Place) (i : ℕ) → length us ≤ i → have ++ seats_from i (map unit_view (drop i us)) (drop i ps) ≡ seats_of (map unit_view us) ps → have ≡ seats_of (map unit_view us) ps
seats_done have us ps i l e =
    sym (append-nil have) ∙ ap (λ w. have ++ seats_from i (map unit_view w) (drop i ps)) (sym (drop_all i us l)) ∙ e

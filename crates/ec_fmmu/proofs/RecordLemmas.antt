-- A slave's records map just what it wants.
use Rattle.std.proofs.Common.{◌≡◌, ◌⊎◌, ℕ, zero, suc, ◌+◌, ◌<◌, ◌≤◌, true, cond, List, [], ◌∷◌, length, get_or, All, refl, sym, ap, subst, inl, inr, arith}
use Rattle.std.proofs.lemmas.Bool.{false≢true, cases_eq, eq-eqb, ne_eqb}
use Rattle.std.proofs.lemmas.List.{get_or_default}
use Rattle.ec_fmmu.specs.declared.seat.Seat.{Seat}
use Rattle.ec_fmmu.specs.declared.fmmu.Fmmu.{Fmmu}
use Rattle.ec_fmmu.specs.Seats.{HasAreas, AreKept}
use Rattle.ec_fmmu.specs.Layout.{outputs, inputs, process_byte, address_of}
use Rattle.ec_fmmu.specs.Records.{Triple, Direction, reads, writes, HasKind, IsMappedBy, IsMapped}
use Rattle.ec_fmmu.specs.Mappings.{unused, fmmu_for, triple, MapsWanted}
use Rattle.ec_fmmu.proofs.SeatLemmas.{sum_most}
use Rattle.ec_fmmu.proofs.AddressLemmas.{before_it, address-output, address-input}

for-none : (kind logical len physical : ℕ) → len ≡ 0 → fmmu_for kind logical len physical ≡ unused
for-none kind logical len physical e = ap (λ b. cond b unused (record { logical = logical; len = len; physical = physical; kind = kind; active = true })) (eq-eqb len 0 e)

for-some : (kind logical len physical : ℕ) → 0 < len → fmmu_for kind logical len physical ≡ record { logical = logical; len = len; physical = physical; kind = kind; active = true }
for-some kind logical len physical l = ap (λ b. cond b unused (record { logical = logical; len = len; physical = physical; kind = kind; active = true })) (ne_eqb len 0 (λ e. absurd (omega arith)))

-- what a record of this type maps, if it has bytes
mapped-by : (kind logical len physical : ℕ) (t : Triple) → IsMappedBy (fmmu_for kind logical len physical) t →
    HasKind kind t.direction × ((k : ℕ) × (k < len) × (t.logical ≡ logical + k) × (t.memory ≡ physical + k))
mapped-by kind logical len physical t h =
    elim (cases_eq len 0) [
      | inl e ↦ let m = subst (λ f. IsMappedBy f t) (for-none kind logical len physical e) h in absurd (false≢true m.active)
      | inr n ↦
          let m = subst (λ f. IsMappedBy f t) (for-some kind logical len physical (omega arith)) h in
          (m.kind, (m.at, m.within, m.logical, m.memory))
    ]

by-mapped : (kind logical len physical k : ℕ) (t : Triple) → HasKind kind t.direction → k < len → t.logical ≡ logical + k → t.memory ≡ physical + k →
    t.logical ≤ 0xFFFFFFFF → t.memory ≤ 0xFFFF → IsMappedBy (fmmu_for kind logical len physical) t
by-mapped kind logical len physical k t d l a m la lm =
    subst (λ f. IsMappedBy f t) (sym (for-some kind logical len physical (omega arith)))
    (record { active = refl; kind = d; at = k; within = l; logical = a; memory = m; logical_end = la; memory_end = lm })

-- one of two records
two-cases : (f g : Fmmu) (t : Triple) → IsMapped (f ∷ g ∷ []) t → IsMappedBy f t ⊎ IsMappedBy g t
two-cases f g t (zero, x, l, e, h) = inl (subst (λ w. IsMappedBy w t) (sym e) h)
two-cases f g t (suc zero, x, l, e, h) = inr (subst (λ w. IsMappedBy w t) (sym e) h)
two-cases f g t (suc (suc k), x, l, e, h) = absurd (omega (arith, l))

-- the direction of a type
only-writes : (d : Direction) → HasKind 2 d → d ≡ writes
only-writes reads h = absurd (omega (arith, h))
only-writes writes h = refl

only-reads : (d : Direction) → HasKind 1 d → d ≡ reads
only-reads reads h = refl
only-reads writes h = absurd (omega (arith, h))

same-triple : (t : Triple) (a m : ℕ) (d : Direction) → t.logical ≡ a → t.memory ≡ m → t.direction ≡ d → t ≡ triple a m d
same-triple t a m d e f g = λ i. triple (e i) (f i) (g i)

pub maps-wanted : (seats : List Seat) (x : Seat) (i : ℕ) → AreKept seats → i < length seats → x ≡ get_or seats i x → HasAreas x → MapsWanted seats x
maps-wanted seats x i kept l is areas t =
    let few = sum_most (before_it x) seats kept.few kept.areas in
    let out_base = address-output seats x i 0 l is kept.rising (omega arith) in
    let in_base = address-input seats x i 0 l is kept.rising (omega arith) in
    let out_area = areas.0 in
    let in_area = areas.1 in
    let out_start = address_of seats (process_byte x outputs 0) in
    let in_start = address_of seats (process_byte x inputs 0) in (
      (λ m.
          elim (two-cases (fmmu_for 2 out_start x.out_bytes x.out_at) (fmmu_for 1 in_start x.in_bytes x.in_at) t m) [
            | inl h ↦
                let p = mapped-by 2 out_start x.out_bytes x.out_at t h in
                let k = p.1.0 in
                let a = address-output seats x i k l is kept.rising (omega (arith, p.1.1)) in
                inl (k, p.1.1, same-triple t (address_of seats (process_byte x outputs k)) (x.out_at + k) writes (omega (arith, a, out_base, p.1.2)) p.1.3 (only-writes t.direction p.0))
            | inr h ↦
                let p = mapped-by 1 in_start x.in_bytes x.in_at t h in
                let k = p.1.0 in
                let a = address-input seats x i k l is kept.rising (omega (arith, p.1.1)) in
                inr (k, p.1.1, same-triple t (address_of seats (process_byte x inputs k)) (x.in_at + k) reads (omega (arith, a, in_base, p.1.2)) p.1.3 (only-reads t.direction p.0))
          ]),
      (λ w.
          elim w [
            | inl h ↦
                let k = h.0 in
                let a = address-output seats x i k l is kept.rising (omega (arith, h.1)) in
                let tl : t.logical ≡ address_of seats (process_byte x outputs k) = ap (λ u. u.logical) h.2 in
                let tm : t.memory ≡ x.out_at + k = ap (λ u. u.memory) h.2 in (
                  0,
                  fmmu_for 2 out_start x.out_bytes x.out_at,
                  omega arith,
                  refl,
                  by-mapped 2 out_start x.out_bytes x.out_at k t (subst (λ d. HasKind 2 d) (sym (ap (λ u. u.direction) h.2)) refl) h.1
                      (omega (arith, a, out_base, tl)) tm (omega (arith, a, tl, few, out_area, h.1)) (omega (arith, tm, out_area, h.1)),
                )
            | inr h ↦
                let k = h.0 in
                let a = address-input seats x i k l is kept.rising (omega (arith, h.1)) in
                let tl : t.logical ≡ address_of seats (process_byte x inputs k) = ap (λ u. u.logical) h.2 in
                let tm : t.memory ≡ x.in_at + k = ap (λ u. u.memory) h.2 in (
                  1,
                  fmmu_for 1 in_start x.in_bytes x.in_at,
                  omega arith,
                  refl,
                  by-mapped 1 in_start x.in_bytes x.in_at k t (subst (λ d. HasKind 1 d) (sym (ap (λ u. u.direction) h.2)) refl) h.1
                      (omega (arith, a, in_base, tl)) tm (omega (arith, a, tl, few, out_area, in_area, h.1)) (omega (arith, tm, in_area, h.1)),
                )
          ]),
    )

pub all-wanted : (seats : List Seat) → AreKept seats → All (MapsWanted seats) seats
all-wanted seats kept = λ i d l. maps-wanted seats (get_or seats i d) i kept l (get_or_default seats i d (get_or seats i d) l) (kept.areas i d l)

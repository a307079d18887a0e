-- What a slave maps by a record in its memory is what the record maps.
-- The memory holds the bytes of the record, so the numbers and the bits that are read from there are the record's own.
use Rattle.std.proofs.Common.{◌≡◌, ◌⊎◌, inl, inr, ℕ, zero, suc, ◌+◌, ◌/◌, ◌%◌, ◌^◌, ◌<◌, ◌==◌, ◌&&◌, Bool, true, false, cond, List, [], ◌∷◌, length, map, get_or, refl, ap, sym, ◌∙◌, subst, arith}
use Rattle.std.specs.Prelude.{◌↔◌, Any}
use Rattle.std.specs.List.{range_with_len}
use Rattle.std.proofs.lemmas.Bool.{false≢true, and_parts, cases_eq, eq-eqb, eqb-true, ne_eqb}
use Rattle.ec_units.specs.declared.slave.Place.{Place}
use Rattle.ec_units.specs.declared.units.Units.{Units}
use Rattle.ec_units.specs.Together.{stations_of}
use Rattle.ec_units.specs.Views.{unit_view}
use Rattle.ec_fmmu.specs.declared.fmmu.Fmmu.{Fmmu}
use Rattle.ec_fmmu.specs.declared.mapping.Mapping.{Mapping}
use Rattle.ec_fmmu.specs.declared.seat.Seat.{Seat}
use Rattle.ec_fmmu.specs.Seats.{seats_of}
use Rattle.ec_fmmu.specs.Layout.{outputs, inputs, process_byte, address_of}
use Rattle.ec_fmmu.specs.Records.{Direction, reads, writes, Triple, HasKind, IsMappedBy}
use Rattle.ec_fmmu.specs.Mappings.{fmmu_for, records_of, IsWanted}
use Rattle.ec_slave.specs.Fmmus.{fmmu_at, fmmus_in, has}
use Rattle.ec_slave.specs.Step.{memory_after, frame_after}
use Rattle.ec_player.specs.Sent.{start_sents, ticks_sents, all_sents}
use Rattle.ec_player.specs.Lines.{slaves_after}
use Rattle.ec_play_laws.specs.IsReady.{IsReady, AreReady}
use Rattle.ec_play_laws.specs.Started.{started}
use Rattle.ec_play_laws.proofs.FmmuLemmas.{IsHeld, held-is, off-at, Fits, first-bytes, second-bytes}
use Rattle.ec_play_laws.proofs.PlayLemmas.{IsSet, seats_in, fits-in, ticks-pass, ready-in}
use Rattle.ec_play_laws.proofs.RunLemmas.{runs-append}
use Rattle.ec_play_laws.proofs.StartLaw.{start-runs}
use Rattle.ec_frame_laws.specs.IsLine.{IsLine}
use Rattle.ec_frame_laws.specs.Maps.{IsNarrow, HoldsRecord, side_of, MapsAt, SlaveMaps}

-- ---- directions

active-one : (b : Bool) → b ≡ true → (cond b 1 0 % 2 == 1) ≡ true
active-one true h = refl
active-one false h = absurd (false≢true h)

one-active : (b : Bool) → (cond b 1 0 % 2 == 1) ≡ true → b ≡ true
one-active true h = refl
one-active false h = absurd (false≢true h)

both-true : (a b : Bool) → a ≡ true → b ≡ true → (a && b) ≡ true
both-true true b p q = q
both-true false b p q = absurd (false≢true p)

side-given : (f : Fmmu) (m : List ℕ) (at : ℕ) (d : Direction) → IsHeld f m at → f.active ≡ true → HasKind f.kind d → has (fmmu_at m at) (side_of d) ≡ true
side-given f m at reads h a k =
    both-true (get_or m (at + 12) 0 % 2 == 1) (get_or m (at + 11) 0 % 2 == 1) (ap (λ x. x % 2 == 1) h.active_is ∙ active-one f.active a) (ap (λ x. x % 2 == 1) h.kind_is ∙ eq-eqb (f.kind % 2) 1 k)
side-given f m at writes h a k =
    both-true (get_or m (at + 12) 0 % 2 == 1) (get_or m (at + 11) 0 / 2 % 2 == 1) (ap (λ x. x % 2 == 1) h.active_is ∙ active-one f.active a) (ap (λ x. x / 2 % 2 == 1) h.kind_is ∙ eq-eqb (f.kind / 2 % 2) 1 k)

record IsSided (f : Fmmu) (d : Direction) : Type 0 where
  active : f.active ≡ true
  kind : HasKind f.kind d

side-found : (f : Fmmu) (m : List ℕ) (at : ℕ) (d : Direction) → IsHeld f m at → has (fmmu_at m at) (side_of d) ≡ true → IsSided f d
side-found f m at reads h t =
    let parts = and_parts (get_or m (at + 12) 0 % 2 == 1) (get_or m (at + 11) 0 % 2 == 1) t in
    record {
      active = one-active f.active (ap (λ x. x % 2 == 1) (sym h.active_is) ∙ parts.0);
      kind = eqb-true (f.kind % 2) 1 (ap (λ x. x % 2 == 1) (sym h.kind_is) ∙ parts.1);
    }
side-found f m at writes h t =
    let parts = and_parts (get_or m (at + 12) 0 % 2 == 1) (get_or m (at + 11) 0 / 2 % 2 == 1) t in
    record {
      active = one-active f.active (ap (λ x. x % 2 == 1) (sym h.active_is) ∙ parts.0);
      kind = eqb-true (f.kind / 2 % 2) 1 (ap (λ x. x / 2 % 2 == 1) (sym h.kind_is) ∙ parts.1);
    }

-- ---- what the record maps

seen-by : (f : Fmmu) (m : List ℕ) (at : ℕ) (t : Triple) → IsNarrow f → length m ≡ 65536 → HoldsRecord m at f → IsMappedBy f t → MapsAt m at t
seen-by f m at t narrow whole h maps =
    let within = maps.within in
    let held = held-is f m at (omega (arith, within)) narrow.logical narrow.len narrow.physical h in
    let a = held.logical_is in
    let b = held.len_is in
    let c = held.physical_is in
    let end = maps.memory_end in
    record {
      direction = side-given f m at t.direction held maps.active maps.kind;
      at = maps.at;
      within = omega (arith, within, b);
      logical_is = maps.logical ∙ ap (λ n. n + maps.at) (sym a);
      memory_is = maps.memory ∙ ap (λ n. n + maps.at) (sym c);
      logical_end = maps.logical_end;
      memory_end = omega (arith, end, whole);
    }

mapped-by : (f : Fmmu) (m : List ℕ) (at : ℕ) (t : Triple) → IsNarrow f → length m ≡ 65536 → HoldsRecord m at f → MapsAt m at t → IsMappedBy f t
mapped-by f m at t narrow whole h seen =
    elim (cases_eq f.len 0) [
      | inl e ↦ absurd (false≢true (sym (off-at f m at (side_of t.direction) e h) ∙ seen.direction))
      | inr n ↦
          let within = seen.within in
          let held = held-is f m at (omega (arith, n)) narrow.logical narrow.len narrow.physical h in
          let a = held.logical_is in
          let b = held.len_is in
          let c = held.physical_is in
          let end = seen.memory_end in
          let sided = side-found f m at t.direction held seen.direction in
          record {
            active = sided.active;
            kind = sided.kind;
            at = seen.at;
            within = omega (arith, within, b);
            logical = seen.logical_is ∙ ap (λ n. n + seen.at) a;
            memory = seen.memory_is ∙ ap (λ n. n + seen.at) c;
            logical_end = seen.logical_end;
            memory_end = omega (arith, end, whole);
          }
    ]

pub record-maps : (f : Fmmu) (memory : List ℕ) (at : ℕ) (t : Triple) → IsNarrow f → length memory ≡ 65536 → HoldsRecord memory at f → IsMappedBy f t ↔ MapsAt memory at t
record-maps f memory at t narrow whole held = (seen-by f memory at t narrow whole held, mapped-by f memory at t narrow whole held)

-- ---- the two records of a slave

any-two : (P : Fmmu → Type 0) (a b : Fmmu) → Any P (a ∷ b ∷ []) → P a ⊎ P b
any-two P a b (zero, x, l, is, p) = inl (subst P (sym is) p)
any-two P a b (suc zero, x, l, is, p) = inr (subst P (sym is) p)
any-two P a b (suc (suc k), x, l, is, p) = absurd (omega (arith, l))

two-any : (P : Fmmu → Type 0) (a b : Fmmu) → P a ⊎ P b → Any P (a ∷ b ∷ [])
two-any P a b (inl p) = (0, a, omega arith, refl, p)
two-any P a b (inr p) = (1, b, omega arith, refl, p)

narrow-for : (kind logical len physical : ℕ) → kind < 256 → logical < 2 ^ 32 → len < 65536 → (0 < len → physical < 65536) → IsNarrow (fmmu_for kind logical len physical)
narrow-for kind logical len physical k wide short low =
    elim (cases_eq len 0) [
      | inl e ↦ subst IsNarrow (ap (λ b. cond b (fmmu_for 0 0 0 0) (record { logical = logical; len = len; physical = physical; kind = kind; active = true })) (sym (eq-eqb len 0 e)))
          (record { logical = omega arith; len = omega arith; physical = omega arith; kind = omega arith })
      | inr n ↦ subst IsNarrow (ap (λ b. cond b (fmmu_for 0 0 0 0) (record { logical = logical; len = len; physical = physical; kind = kind; active = true })) (sym (ne_eqb len 0 n)))
          (record { logical = wide; len = short; physical = low (omega (arith, n)); kind = k })
    ]

abbrev first_of : List Seat → Seat → Fmmu
first_of seats s = fmmu_for 2 (address_of seats (process_byte s outputs 0)) s.out_bytes s.out_at

abbrev second_of : List Seat → Seat → Fmmu
second_of seats s = fmmu_for 1 (address_of seats (process_byte s inputs 0)) s.in_bytes s.in_at

first-narrow : (seats : List Seat) (s : Seat) → Fits seats s → IsNarrow (first_of seats s)
first-narrow seats s f =
    let a = f.out_high in let b = f.out_top in let c = f.out_low in
    narrow-for 2 (address_of seats (process_byte s outputs 0)) s.out_bytes s.out_at (omega arith) (omega (arith, b)) (omega (arith, a, c)) (λ l. omega (arith, a, l))

second-narrow : (seats : List Seat) (s : Seat) → Fits seats s → IsNarrow (second_of seats s)
second-narrow seats s f =
    let a = f.in_high in let b = f.in_top in let c = f.in_low in
    narrow-for 1 (address_of seats (process_byte s inputs 0)) s.in_bytes s.in_at (omega arith) (omega (arith, b)) (omega (arith, a, c)) (λ l. omega (arith, a, l))

records-seen : (seats : List Seat) (s : Seat) (m : List ℕ) (t : Triple) → Fits seats s → IsReady seats s m → Any (λ f. IsMappedBy f t) (records_of seats s) → SlaveMaps m t
unfolding fmmus_in
records-seen seats s m t fits ready h =
    elim (any-two (λ f. IsMappedBy f t) (first_of seats s) (second_of seats s) h) [
      | inl p ↦ inl (seen-by (first_of seats s) m 1536 t (first-narrow seats s fits) ready.whole (first-bytes seats s m ready) p)
      | inr p ↦ inr (seen-by (second_of seats s) m 1552 t (second-narrow seats s fits) ready.whole (second-bytes seats s m ready) p)
    ]

records-map : (seats : List Seat) (s : Seat) (m : List ℕ) (t : Triple) → Fits seats s → IsReady seats s m → SlaveMaps m t → Any (λ f. IsMappedBy f t) (records_of seats s)
unfolding fmmus_in
records-map seats s m t fits ready (inl p) =
    two-any (λ f. IsMappedBy f t) (first_of seats s) (second_of seats s) (inl (mapped-by (first_of seats s) m 1536 t (first-narrow seats s fits) ready.whole (first-bytes seats s m ready) p))
records-map seats s m t fits ready (inr p) =
    two-any (λ f. IsMappedBy f t) (first_of seats s) (second_of seats s) (inr (mapped-by (second_of seats s) m 1552 t (second-narrow seats s fits) ready.whole (second-bytes seats s m ready) p))

-- ---- the slaves of a line

ready-at : (seats ss : List Seat) (ms : List (List ℕ)) (i : ℕ) (d : Seat) → AreReady seats ss ms → i < length ss → IsReady seats (get_or ss i d) (get_or ms i [])
ready-at seats [] ms i d h l = absurd (omega (arith, l))
ready-at seats (s ∷ ss) [] i d h l = absurd h
ready-at seats (s ∷ ss) (m ∷ ms) zero d h l = h.0
ready-at seats (s ∷ ss) (m ∷ ms) (suc i) d h l = ready-at seats ss ms i d h.1 (omega (arith, l))

-- the slaves before tick n: they are ready once the start frames went through them, and the frames of ticks leave them so
record AreSet (us : Units) (ps : List Place) (m : Mapping) (image : List ℕ) (n : ℕ) (slaves : List (List ℕ)) : Type 0 where
  after : List (List ℕ)
  left : slaves_after frame_after memory_after slaves (all_sents us m image n) ≡ after
  ready : AreReady (seats_in us ps) (seats_in us ps) after

are-set : (us : Units) (ps : List Place) (m : Mapping) (image : List ℕ) (n : ℕ) (slaves : List (List ℕ)) → IsLine us ps m slaves → length image ≡ m.total → AreSet us ps m image n slaves
are-set us ps m image n slaves line sized =
    let set : IsSet us ps m image = record { laid = line.layout; sized = sized } in
    let now = started (stations_of us.units) m.fmmus slaves in
    let ticks = ticks-pass us ps m image (range_with_len 0 n) now set (ready-in us ps m image slaves set line.memories line.each) in
    record {
      after = ticks.after;
      left = (runs-append slaves now ticks.after (start_sents us m) (ticks_sents us m image n) (start-runs us m slaves (ps, line.layout) line.memories line.each) ticks.runs).left;
      ready = ticks.ready;
    }

pub slaves-map : (us : Units) (ps : List Place) (m : Mapping) (image : List ℕ) (n : ℕ) (slaves : List (List ℕ)) (i : ℕ) (s : Seat) (t : Triple) → IsLine us ps m slaves → length image ≡ m.total →
    i < length (seats_of (map unit_view us.units) ps) →
    IsWanted (seats_of (map unit_view us.units) ps) (get_or (seats_of (map unit_view us.units) ps) i s) t ↔ SlaveMaps (get_or (slaves_after frame_after memory_after slaves (all_sents us m image n)) i []) t
slaves-map us ps m image n slaves i s t line sized l =
    let seats = seats_in us ps in
    let x = get_or seats i s in
    let play = are-set us ps m image n slaves line sized in
    let wanted = line.layout.layout.wanted i s l t in
    let fits = fits-in us ps i s l in
    let ready = ready-at seats seats play.after i s play.ready l in
    subst (λ ms. IsWanted seats x t ↔ SlaveMaps (get_or ms i []) t) (sym play.left)
    ((λ w. records-seen seats x (get_or play.after i []) t fits ready (wanted.1 w)), (λ p. wanted.0 (records-map seats x (get_or play.after i []) t fits ready p)))

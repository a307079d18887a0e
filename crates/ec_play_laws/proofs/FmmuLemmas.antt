-- The FMMUs that the memory of a slave holds once it was started.
-- A slave's two FMMUs are known by what a map through them can be (`IsChannel`): `place-none`, `place-some`,
-- `source-none`, `source-some` are all that data, memory and counters ask. A slave that was started keeps that
-- (`IsReady`): it is written in its area of outputs alone, from 4096 on.
use Rattle.std.proofs.Common.{◌≡◌, ◌≢◌, ◌⊎◌, inl, inr, ℕ, ◌+◌, ◌*◌, ◌/◌, ◌%◌, ◌^◌, ◌<◌, ◌≤◌, ◌==◌, ◌&&◌, true, false, cond, List, [], ◌∷◌, ◌++◌, length, drop, get_or, replicate, Option, Some, None, refl, ap, sym, ◌∙◌, subst, arith}
use Rattle.std.proofs.lemmas.Bool.{false≢true, cases_eq, eq-eqb, ne_eqb}
use Rattle.std.proofs.lemmas.List.{get_or-drop, get_or-append-add}
use Rattle.std.proofs.Math.ListN.{get_or-append}
use Rattle.byteorder.specs.Endian.{little_number}
use Rattle.ec_fmmu.specs.declared.seat.Seat.{Seat}
use Rattle.ec_fmmu.specs.declared.fmmu.Fmmu.{Fmmu}
use Rattle.ec_fmmu.specs.Records.{record_bytes}
use Rattle.ec_fmmu.specs.Layout.{outputs, inputs, process_byte, address_of}
use Rattle.ec_fmmu.specs.Mappings.{unused, fmmu_for}
use Rattle.ec_slave.specs.declared.fmmu.Fmmu.{Fmmu as Channel}
use Rattle.ec_slave.specs.declared.fmmu.Direction.{Direction}
use Rattle.ec_slave.specs.declared.fmmu.Direction.TheVariants as direction
use Rattle.ec_slave.specs.Fmmus.{fmmu_at, has, place_of, source_of}
use Rattle.ec_slave.proofs.MapLemmas.{place_found, place_again, source_found, source_again}
use Rattle.ec_play_laws.specs.IsReady.{IsReady}
use Rattle.ec_play_laws.proofs.StartLaw.{length-record}

-- a channel of the slave maps these bytes in this direction, and no other
pub record IsChannel (f : Channel) (logical len physical : ℕ) (to : Direction) : Type 0 where
  pub only : (d : Direction) → has f d ≡ true → (d ≡ to) × (f.logical ≡ logical) × (f.len ≡ len) × (f.physical ≡ physical)
  pub live : 0 < len → has f to ≡ true

-- a memory holds the bytes of a record from here on
abbrev pub HasBytes : List ℕ → ℕ → Fmmu → Type 0
HasBytes m at f = (k : ℕ) → k < 16 → get_or m (at + k) 0 ≡ get_or (record_bytes f) k 0

-- ---- one record

abbrev used_bytes : Fmmu → List ℕ
used_bytes f =
    f.logical % 256 ∷ f.logical / 256 % 256 ∷ f.logical / 65536 % 256 ∷ f.logical / 16777216 % 256
    ∷ f.len % 256 ∷ f.len / 256 % 256 ∷ 0 ∷ 7 ∷ f.physical % 256 ∷ f.physical / 256 % 256 ∷ 0 ∷ f.kind ∷ cond f.active 1 0 ∷ 0 ∷ 0 ∷ 0 ∷ []

bytes-used : (f : Fmmu) → 0 < f.len → record_bytes f ≡ used_bytes f
bytes-used f l = ap (λ b. cond b (replicate 16 0) (used_bytes f)) (ne_eqb f.len 0 (λ e. absurd (omega (arith, l, e))))

bytes-unused : (f : Fmmu) → f.len ≡ 0 → record_bytes f ≡ replicate 16 0
bytes-unused f e = ap (λ b. cond b (replicate 16 0) (used_bytes f)) (eq-eqb f.len 0 e)

-- numbers of bytes in the midst of a memory
from-at : (m : List ℕ) (at i j n : ℕ) → i + j ≡ n → get_or (drop (at + i) m) j 0 ≡ get_or m (at + n) 0
from-at m at i j n e = get_or-drop (at + i) m j 0 ∙ ap (λ k. get_or m k 0) (let z : at + i + j ≡ at + n = omega (arith, e) in z)

two-at : (m : List ℕ) (at i x y : ℕ) → get_or m (at + i) 0 ≡ x → get_or m (at + (i + 1)) 0 ≡ y → little_number 2 (drop (at + i) m) ≡ x + 256 * (y + 256 * 0)
two-at m at i x y a b =
    let low = from-at m at i 0 i (omega arith) ∙ a in
    let high = from-at m at i 1 (i + 1) refl ∙ b in
    λ j. low j + 256 * (high j + 256 * 0)

four-at : (m : List ℕ) (at x y z w : ℕ) → get_or m (at + 0) 0 ≡ x → get_or m (at + 1) 0 ≡ y → get_or m (at + 2) 0 ≡ z → get_or m (at + 3) 0 ≡ w →
    little_number 4 (drop at m) ≡ x + 256 * (y + 256 * (z + 256 * (w + 256 * 0)))
four-at m at x y z w a b c d =
    let p = get_or-drop at m 0 0 ∙ a in
    let q = get_or-drop at m 1 0 ∙ b in
    let r = get_or-drop at m 2 0 ∙ c in
    let s = get_or-drop at m 3 0 ∙ d in
    λ j. p j + 256 * (q j + 256 * (r j + 256 * (s j + 256 * 0)))

-- a record with bytes: its numbers, and the two bytes of its type and of whether it is active
pub record IsHeld (f : Fmmu) (m : List ℕ) (at : ℕ) : Type 0 where
  pub logical_is : (fmmu_at m at).logical ≡ f.logical
  pub len_is : (fmmu_at m at).len ≡ f.len
  pub physical_is : (fmmu_at m at).physical ≡ f.physical
  pub kind_is : get_or m (at + 11) 0 ≡ f.kind
  pub active_is : get_or m (at + 12) 0 ≡ cond f.active 1 0

pub held-is : (f : Fmmu) (m : List ℕ) (at : ℕ) → 0 < f.len → f.logical < 2 ^ 32 → f.len < 65536 → f.physical < 65536 → HasBytes m at f → IsHeld f m at
held-is f m at some wide short low h =
    let at_k : (k : ℕ) → k < 16 → get_or m (at + k) 0 ≡ get_or (used_bytes f) k 0 = λ k l. h k l ∙ ap (λ w. get_or w k 0) (bytes-used f some) in
    let a = four-at m at (f.logical % 256) (f.logical / 256 % 256) (f.logical / 65536 % 256) (f.logical / 16777216 % 256) (at_k 0 (omega arith)) (at_k 1 (omega arith)) (at_k 2 (omega arith)) (at_k 3 (omega arith)) in
    let b = two-at m at 4 (f.len % 256) (f.len / 256 % 256) (at_k 4 (omega arith)) (at_k 5 (omega arith)) in
    let c = two-at m at 8 (f.physical % 256) (f.physical / 256 % 256) (at_k 8 (omega arith)) (at_k 9 (omega arith)) in
    record {
      logical_is = a ∙ (let z : f.logical % 256 + 256 * (f.logical / 256 % 256 + 256 * (f.logical / 65536 % 256 + 256 * (f.logical / 16777216 % 256 + 256 * 0))) ≡ f.logical = omega (arith, wide) in z);
      len_is = b ∙ (let z : f.len % 256 + 256 * (f.len / 256 % 256 + 256 * 0) ≡ f.len = omega (arith, short) in z);
      physical_is = c ∙ (let z : f.physical % 256 + 256 * (f.physical / 256 % 256 + 256 * 0) ≡ f.physical = omega (arith, low) in z);
      kind_is = at_k 11 (omega arith);
      active_is = at_k 12 (omega arith);
    }

-- a record without bytes maps nothing
pub off-at : (f : Fmmu) (m : List ℕ) (at : ℕ) (d : Direction) → f.len ≡ 0 → HasBytes m at f → has (fmmu_at m at) d ≡ false
off-at f m at direction.Reads e h =
    let b : get_or m (at + 12) 0 ≡ 0 = h 12 (omega arith) ∙ ap (λ w. get_or w 12 0) (bytes-unused f e) in
    ap (λ x. (x % 2 == 1) && (get_or m (at + 11) 0 % 2 == 1)) b
off-at f m at direction.Writes e h =
    let b : get_or m (at + 12) 0 ≡ 0 = h 12 (omega arith) ∙ ap (λ w. get_or w 12 0) (bytes-unused f e) in
    ap (λ x. (x % 2 == 1) && (get_or m (at + 11) 0 / 2 % 2 == 1)) b

-- ---- a record for so many bytes

abbrev used : ℕ → ℕ → ℕ → ℕ → Fmmu
used kind logical len physical = record { logical = logical; len = len; physical = physical; kind = kind; active = true }

for-none : (kind logical len physical : ℕ) → len ≡ 0 → fmmu_for kind logical len physical ≡ unused
for-none kind logical len physical e = ap (λ b. cond b unused (used kind logical len physical)) (eq-eqb len 0 e)

for-some : (kind logical len physical : ℕ) → len ≢ 0 → fmmu_for kind logical len physical ≡ used kind logical len physical
for-some kind logical len physical n = ap (λ b. cond b unused (used kind logical len physical)) (ne_eqb len 0 n)

outputs-only : (f : Channel) (d : Direction) → has f direction.Reads ≡ false → has f d ≡ true → d ≡ direction.Writes
outputs-only f direction.Reads h t = absurd (false≢true (sym h ∙ t))
outputs-only f direction.Writes h t = refl

inputs-only : (f : Channel) (d : Direction) → has f direction.Writes ≡ false → has f d ≡ true → d ≡ direction.Reads
inputs-only f direction.Reads h t = refl
inputs-only f direction.Writes h t = absurd (false≢true (sym h ∙ t))

-- the directions of a record of each type
side-of : (f : Fmmu) (m : List ℕ) (at : ℕ) → IsHeld f m at → f.active ≡ true →
    (has (fmmu_at m at) direction.Reads ≡ (f.kind % 2 == 1)) × (has (fmmu_at m at) direction.Writes ≡ (f.kind / 2 % 2 == 1))
side-of f m at h on =
    let a : get_or m (at + 12) 0 ≡ 1 = h.active_is ∙ ap (λ b. cond b 1 0) on in
    let b = h.kind_is in
    ((λ i. (a i % 2 == 1) && (b i % 2 == 1)), (λ i. (a i % 2 == 1) && (b i / 2 % 2 == 1)))

for-held : (m : List ℕ) (at kind logical len physical : ℕ) → len ≢ 0 → logical < 2 ^ 32 → len < 65536 → (0 < len → physical < 65536) → HasBytes m at (fmmu_for kind logical len physical) →
    IsHeld (used kind logical len physical) m at
for-held m at kind logical len physical n wide short low h =
    held-is (used kind logical len physical) m at (omega (arith, n)) wide short (low (omega (arith, n))) (subst (HasBytes m at) (for-some kind logical len physical n) h)

out-channel : (m : List ℕ) (at logical len physical : ℕ) → logical < 2 ^ 32 → len < 65536 → (0 < len → physical < 65536) → HasBytes m at (fmmu_for 2 logical len physical) →
    IsChannel (fmmu_at m at) logical len physical direction.Writes
out-channel m at logical len physical wide short low h =
    elim (cases_eq len 0) [
      | inl e ↦ record {
        only = λ d t. absurd (false≢true (sym (off-at unused m at d refl (subst (HasBytes m at) (for-none 2 logical len physical e) h)) ∙ t));
        live = λ l. absurd (omega (arith, l, e));
      }
      | inr n ↦
          let held = for-held m at 2 logical len physical n wide short low h in
          let sides = side-of (used 2 logical len physical) m at held refl in
          record {
            only = λ d t. (outputs-only (fmmu_at m at) d sides.0 t, held.logical_is, held.len_is, held.physical_is);
            live = λ l. sides.1;
          }
    ]

in-channel : (m : List ℕ) (at logical len physical : ℕ) → logical < 2 ^ 32 → len < 65536 → (0 < len → physical < 65536) → HasBytes m at (fmmu_for 1 logical len physical) →
    IsChannel (fmmu_at m at) logical len physical direction.Reads
in-channel m at logical len physical wide short low h =
    elim (cases_eq len 0) [
      | inl e ↦ record {
        only = λ d t. absurd (false≢true (sym (off-at unused m at d refl (subst (HasBytes m at) (for-none 1 logical len physical e) h)) ∙ t));
        live = λ l. absurd (omega (arith, l, e));
      }
      | inr n ↦
          let held = for-held m at 1 logical len physical n wide short low h in
          let sides = side-of (used 1 logical len physical) m at held refl in
          record {
            only = λ d t. (inputs-only (fmmu_at m at) d sides.1 t, held.logical_is, held.len_is, held.physical_is);
            live = λ l. sides.0;
          }
    ]

-- ---- the two channels of a slave

pub first-bytes : (seats : List Seat) (s : Seat) (m : List ℕ) → IsReady seats s m → HasBytes m 1536 (fmmu_for 2 (address_of seats (process_byte s outputs 0)) s.out_bytes s.out_at)
first-bytes seats s m h k l =
    let f = fmmu_for 2 (address_of seats (process_byte s outputs 0)) s.out_bytes s.out_at in
    let g = fmmu_for 1 (address_of seats (process_byte s inputs 0)) s.in_bytes s.in_at in
    h.records k (omega (arith, l)) ∙ get_or-append (record_bytes f) (record_bytes g ++ []) 0 k (omega (arith, l, length-record f))

pub second-bytes : (seats : List Seat) (s : Seat) (m : List ℕ) → IsReady seats s m → HasBytes m 1552 (fmmu_for 1 (address_of seats (process_byte s inputs 0)) s.in_bytes s.in_at)
second-bytes seats s m h k l =
    let f = fmmu_for 2 (address_of seats (process_byte s outputs 0)) s.out_bytes s.out_at in
    let g = fmmu_for 1 (address_of seats (process_byte s inputs 0)) s.in_bytes s.in_at in
    let place : 1552 + k ≡ 1536 + (16 + k) = omega arith in
    let again : 16 + k ≡ length (record_bytes f) + k = omega (arith, length-record f) in
    ap (λ n. get_or m n 0) place ∙ h.records (16 + k) (omega (arith, l))
    ∙ ap (λ n. get_or (record_bytes f ++ (record_bytes g ++ [])) n 0) again
    ∙ get_or-append-add (record_bytes f) (record_bytes g ++ []) k 0
    ∙ get_or-append (record_bytes g) [] 0 k (omega (arith, l, length-record g))

-- what a slave's areas and addresses keep
pub record Fits (seats : List Seat) (s : Seat) : Type 0 where
  pub out_low : 4096 ≤ s.out_at
  pub in_low : 4096 ≤ s.in_at
  pub out_high : s.out_at + s.out_bytes ≤ 65536
  pub in_high : s.in_at + s.in_bytes ≤ 65536
  pub out_top : address_of seats (process_byte s outputs 0) + s.out_bytes ≤ 2 ^ 31
  pub in_top : address_of seats (process_byte s inputs 0) + s.in_bytes ≤ 2 ^ 31

pub out-ready : (seats : List Seat) (s : Seat) (m : List ℕ) → Fits seats s → IsReady seats s m → IsChannel (fmmu_at m 1536) (address_of seats (process_byte s outputs 0)) s.out_bytes s.out_at direction.Writes
out-ready seats s m f h =
    let a = f.out_high in let b = f.out_top in let c = f.out_low in
    out-channel m 1536 (address_of seats (process_byte s outputs 0)) s.out_bytes s.out_at (omega (arith, b)) (omega (arith, a, c)) (λ l. omega (arith, a, l)) (first-bytes seats s m h)

pub in-ready : (seats : List Seat) (s : Seat) (m : List ℕ) → Fits seats s → IsReady seats s m → IsChannel (fmmu_at m 1552) (address_of seats (process_byte s inputs 0)) s.in_bytes s.in_at direction.Reads
in-ready seats s m f h =
    let a = f.in_high in let b = f.in_top in let c = f.in_low in
    in-channel m 1552 (address_of seats (process_byte s inputs 0)) s.in_bytes s.in_at (omega (arith, b)) (omega (arith, a, c)) (λ l. omega (arith, a, l)) (second-bytes seats s m h)

-- ---- what a channel maps

none-if : (o : Option ℕ) → ((x : ℕ) → o ≡ Some x → ⊥) → o ≡ None
none-if None h = refl
none-if (Some x) h = absurd (h x refl)

pub place-none : (f : Channel) (logical len physical : ℕ) (to : Direction) (size : ℕ) (d : Direction) (a : ℕ) → IsChannel f logical len physical to → (d ≡ to → (a < logical) ⊎ (logical + len ≤ a)) →
    place_of f size d a ≡ None
place-none f logical len physical to size d a h out =
    none-if (place_of f size d a) (λ x e.
    let mapped = place_found f size d a x e in
    let known = h.only d mapped.direction in
    let within = mapped.within in
    let is = mapped.logical_is in
    elim (out known.0) [
      | inl l ↦ absurd (omega (arith, l, within, is, known.1, known.2))
      | inr g ↦ absurd (omega (arith, g, within, is, known.1, known.2))
    ])

pub place-some : (f : Channel) (logical len physical : ℕ) (to : Direction) (size k : ℕ) → IsChannel f logical len physical to → k < len → logical + len ≤ 2 ^ 31 → physical + len ≤ size →
    place_of f size to (logical + k) ≡ Some (physical + k)
place-some f logical len physical to size k h l top room =
    let known = h.only to (h.live (omega (arith, l))) in
    place_again f size to (logical + k) (physical + k) (record {
      direction = h.live (omega (arith, l));
      at = k;
      within = omega (arith, l, known.2);
      logical_is = omega (arith, known.1);
      memory_is = omega (arith, known.3);
      logical_end = omega (arith, l, top);
      memory_end = omega (arith, l, room);
    })

pub source-none : (f : Channel) (logical len physical : ℕ) (to : Direction) (size : ℕ) (d : Direction) (m : ℕ) → IsChannel f logical len physical to → (d ≡ to → (m < physical) ⊎ (physical + len ≤ m)) →
    source_of f size d m ≡ None
source-none f logical len physical to size d m h out =
    none-if (source_of f size d m) (λ x e.
    let mapped = source_found f size d x m e in
    let known = h.only d mapped.direction in
    let within = mapped.within in
    let is = mapped.memory_is in
    elim (out known.0) [
      | inl l ↦ absurd (omega (arith, l, within, is, known.3, known.2))
      | inr g ↦ absurd (omega (arith, g, within, is, known.3, known.2))
    ])

pub source-some : (f : Channel) (logical len physical : ℕ) (to : Direction) (size k : ℕ) → IsChannel f logical len physical to → k < len → logical + len ≤ 2 ^ 31 → physical + len ≤ size →
    source_of f size to (physical + k) ≡ Some (logical + k)
source-some f logical len physical to size k h l top room =
    let known = h.only to (h.live (omega (arith, l))) in
    source_again f size to (logical + k) (physical + k) (record {
      direction = h.live (omega (arith, l));
      at = k;
      within = omega (arith, l, known.2);
      logical_is = omega (arith, known.1);
      memory_is = omega (arith, known.3);
      logical_end = omega (arith, l, top);
      memory_end = omega (arith, l, room);
    })

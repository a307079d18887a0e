-- What modelled slaves make of the datagrams of a tick: each counts those of its own group, and no byte of its records is written.
use Rattle.std.proofs.Common.{◌≡◌, ◌⊎◌, inl, inr, ℕ, ◌+◌, ◌-◌, ◌%◌, ◌^◌, ◌<◌, ◌≤◌, ◌==◌, ◌&&◌, Bool, true, false, cond, List, [], ◌∷◌, length, get_or, sum_by, Option, Some, None, refl, ap, sym, ◌∙◌, subst, arith, All}
use Rattle.std.specs.Prelude.{nat_lt, is_some}
use Rattle.std.specs.List.{list_any, range_with_len}
use Rattle.std.proofs.lemmas.Bool.{cases_eq, cases_lt, lt-ltb, le-ltb, eq-eqb, ne_eqb, cond-true, cond-false}
use Rattle.std.proofs.lemmas.List.FromFn.{length-map-range_with_len, get_or-map-range_with_len}
use Rattle.std.proofs.lemmas.List.Sums.{sum_by-cons}
use Rattle.std.proofs.lemmas.List.Elements.{All-head, All-tail}
use Rattle.ec_frames.specs.declared.command.Command.TheVariants as command
use Rattle.ec_frames.specs.Reading.{Entry}
use Rattle.ec_fmmu.specs.declared.seat.Seat.{Seat}
use Rattle.ec_fmmu.specs.declared.group.Group.{Group}
use Rattle.ec_fmmu.specs.Order.{is_same}
use Rattle.ec_fmmu.specs.Seats.{key_numbers, seat_counter, AreKept}
use Rattle.ec_fmmu.specs.Layout.{outputs, inputs, process_byte, address_of, group_numbers, IsGroup}
use Rattle.ec_slave.specs.declared.fmmu.Fmmu.{Fmmu as Channel}
use Rattle.ec_slave.specs.declared.fmmu.Direction.{Direction}
use Rattle.ec_slave.specs.declared.fmmu.Direction.TheVariants as direction
use Rattle.ec_slave.specs.Requests.{row_of}
use Rattle.ec_slave.specs.Fmmus.{fmmus_in, fmmu_at, place_of, source_of}
use Rattle.ec_slave.specs.Logical.{first_of, byte_at, data_place, read_from, written_to, meets, mapped_gain}
use Rattle.ec_slave.specs.Journey.{through, passed}
use Rattle.ec_slave.specs.Step.{effect_of}
use Rattle.ec_slave.proofs.RangeLemmas.{any_at, any_none}
use Rattle.ec_slave_laws.specs.Datagrams.{entry_out, entry_next}
use Rattle.ec_play_laws.specs.IsReady.{IsReady, AreReady}
use Rattle.ec_play_laws.proofs.RangeLemmas.{Lies, IsOne, outputs-lie, inputs-lie}
use Rattle.ec_play_laws.proofs.FmmuLemmas.{IsChannel, Fits, out-ready, in-ready, place-none, place-some, source-none}

-- ---- what a channel meets

away : (start len k logical size : ℕ) → k < len → (size ≤ start) ⊎ (start + len ≤ logical) → (start + k < logical) ⊎ (size ≤ start + k)
away start len k logical size l (inl a) = inr (omega (arith, a))
away start len k logical size l (inr b) = inl (omega (arith, b, l))

channel-meets : (f : Channel) (logical len physical : ℕ) (to : Direction) (size start n : ℕ) (same : Bool) → IsChannel f logical len physical to → Lies same start n logical (logical + len) →
    logical + len ≤ 2 ^ 31 → physical + len ≤ size → list_any (λ k. is_some (place_of f size to (start + k))) (range_with_len 0 n) ≡ (same && nat_lt 0 len)
channel-meets f logical len physical to size start n true h lies top room =
    elim (cases_lt 0 len) [
      | inl l ↦
          let k = logical - start in
          let low = lies.0 in
          let high = lies.1 in
          let place : start + k ≡ logical + 0 = omega (arith, low) in
          any_at (λ k. is_some (place_of f size to (start + k))) n k (omega (arith, low, high, l))
          (ap (λ a. is_some (place_of f size to a)) place ∙ ap (λ o. is_some o) (place-some f logical len physical to size 0 h l top room))
          ∙ sym (lt-ltb 0 len l)
      | inr g ↦
          any_none (λ k. is_some (place_of f size to (start + k))) n
          (λ k l. ap (λ o. is_some o) (place-none f logical len physical to size to (start + k) h (λ e. elim (cases_lt (start + k) logical) [ inl a ↦ inl a | inr b ↦ inr (omega (arith, b, g)) ])))
          ∙ sym (le-ltb 0 len g)
    ]
channel-meets f logical len physical to size start n false h lies top room =
    any_none (λ k. is_some (place_of f size to (start + k))) n
    (λ k l. ap (λ o. is_some o) (place-none f logical len physical to size to (start + k) h (λ e. away start n k logical (logical + len) l lies)))

first-alone : (o p : Option ℕ) → p ≡ None → is_some (first_of o p) ≡ is_some o
first-alone None p e = ap (λ x. is_some x) e
first-alone (Some x) p e = refl

second-alone : (o p : Option ℕ) → o ≡ None → is_some (first_of o p) ≡ is_some p
second-alone o p e = ap (λ x. is_some (first_of x p)) e

-- ---- a slave and a group

-- whether the slave is in the group
abbrev pub is_in : Group → Seat → Bool
is_in g s = is_same (key_numbers s.key) (group_numbers g)

meets-reads : (seats : List Seat) (g : Group) (s : Seat) (m : List ℕ) → AreKept seats → IsOne seats s → Fits seats s → IsGroup seats g → IsReady seats s m →
    meets (fmmus_in m) (length m) direction.Reads g.start g.len ≡ (is_in g s && nat_lt 0 s.in_bytes)
unfolding meets fmmus_in
meets-reads seats g s m kept one fits group ready =
    let ins = in-ready seats s m fits ready in
    let outs = out-ready seats s m fits ready in
    let room = fits.in_high in
    let size = ready.whole in
    let alone : (k : ℕ) → is_some (first_of (place_of (fmmu_at m 1552) (length m) direction.Reads (g.start + k)) (place_of (fmmu_at m 1536) (length m) direction.Reads (g.start + k)))
    ≡ is_some (place_of (fmmu_at m 1552) (length m) direction.Reads (g.start + k)) =
    λ k. first-alone _ _ (place-none (fmmu_at m 1536) (address_of seats (process_byte s outputs 0)) s.out_bytes s.out_at direction.Writes (length m) direction.Reads (g.start + k) outs (λ e. absurd (cc (e)))) in
    (λ i. list_any (λ k. alone k i) (range_with_len 0 g.len))
    ∙ channel-meets (fmmu_at m 1552) (address_of seats (process_byte s inputs 0)) s.in_bytes s.in_at direction.Reads (length m) g.start g.len (is_in g s) ins
    (inputs-lie seats g s kept one group) fits.in_top (omega (arith, room, size))

meets-writes : (seats : List Seat) (g : Group) (s : Seat) (m : List ℕ) → AreKept seats → IsOne seats s → Fits seats s → IsGroup seats g → IsReady seats s m →
    meets (fmmus_in m) (length m) direction.Writes g.start g.len ≡ (is_in g s && nat_lt 0 s.out_bytes)
unfolding meets fmmus_in
meets-writes seats g s m kept one fits group ready =
    let ins = in-ready seats s m fits ready in
    let outs = out-ready seats s m fits ready in
    let room = fits.out_high in
    let size = ready.whole in
    let alone : (k : ℕ) → is_some (first_of (place_of (fmmu_at m 1552) (length m) direction.Writes (g.start + k)) (place_of (fmmu_at m 1536) (length m) direction.Writes (g.start + k)))
    ≡ is_some (place_of (fmmu_at m 1536) (length m) direction.Writes (g.start + k)) =
    λ k. second-alone _ _ (place-none (fmmu_at m 1552) (address_of seats (process_byte s inputs 0)) s.in_bytes s.in_at direction.Reads (length m) direction.Writes (g.start + k) ins (λ e. absurd (cc (e)))) in
    (λ i. list_any (λ k. alone k i) (range_with_len 0 g.len))
    ∙ channel-meets (fmmu_at m 1536) (address_of seats (process_byte s outputs 0)) s.out_bytes s.out_at direction.Writes (length m) g.start g.len (is_in g s) outs
    (outputs-lie seats g s kept one group) fits.out_top (omega (arith, room, size))

-- what a slave adds to the counter of a group's datagram
abbrev pub gain_of : Group → Seat → ℕ
gain_of g s = cond (is_in g s) (seat_counter s) 0

gain-is : (same i o : Bool) → cond (same && i) 1 0 + cond (same && o) 2 0 ≡ cond same (cond o 2 0 + cond i 1 0) 0
gain-is true true true = refl
gain-is true true false = refl
gain-is true false true = refl
gain-is true false false = refl
gain-is false i o = refl

-- ---- the memory that a datagram of a tick leaves

pub written-at : (m bs : List ℕ) (a k : ℕ) → k < length m → source_of (fmmu_at m 1552) (length m) direction.Writes k ≡ None →
    get_or (written_to (fmmus_in m) m a bs) k 0 ≡ byte_at (data_place a (length bs) (source_of (fmmu_at m 1536) (length m) direction.Writes k)) bs (get_or m k 0)
unfolding written_to fmmus_in
written-at m bs a k l none =
    get_or-map-range_with_len _ 0 (length m) k k 0 l (let z : 0 + k ≡ k = omega arith in z)
    ∙ ap (λ o. byte_at (first_of (data_place a (length bs) o) (data_place a (length bs) (source_of (fmmu_at m 1536) (length m) direction.Writes k))) bs (get_or m k 0)) none

length-written_to : (m bs : List ℕ) (a : ℕ) → length (written_to (fmmus_in m) m a bs) ≡ length m
unfolding written_to
length-written_to m bs a = length-map-range_with_len _ 0 (length m)

-- no write goes through the channel of inputs
pub no-input : (seats : List Seat) (s : Seat) (m : List ℕ) (k : ℕ) → Fits seats s → IsReady seats s m → source_of (fmmu_at m 1552) (length m) direction.Writes k ≡ None
no-input seats s m k fits ready =
    source-none (fmmu_at m 1552) (address_of seats (process_byte s inputs 0)) s.in_bytes s.in_at direction.Reads (length m) direction.Writes k (in-ready seats s m fits ready) (λ e. absurd (cc (e)))

-- a byte outside the area of outputs stays
pub written-kept : (seats : List Seat) (s : Seat) (m bs : List ℕ) (a k : ℕ) → Fits seats s → IsReady seats s m → k < 65536 → (k < s.out_at) ⊎ (s.out_at + s.out_bytes ≤ k) →
    get_or (written_to (fmmus_in m) m a bs) k 0 ≡ get_or m k 0
written-kept seats s m bs a k fits ready l out =
    let size = ready.whole in
    written-at m bs a k (omega (arith, l, size)) (no-input seats s m k fits ready)
    ∙ ap (λ o. byte_at (data_place a (length bs) o) bs (get_or m k 0))
    (source-none (fmmu_at m 1536) (address_of seats (process_byte s outputs 0)) s.out_bytes s.out_at direction.Writes (length m) direction.Writes k (out-ready seats s m fits ready) (λ e. out))

pub written-ready : (seats : List Seat) (s : Seat) (m bs : List ℕ) (a : ℕ) → Fits seats s → IsReady seats s m → IsReady seats s (written_to (fmmus_in m) m a bs)
written-ready seats s m bs a fits ready = record {
  whole = length-written_to m bs a ∙ ready.whole;
  records = λ k l. let low = fits.out_low in written-kept seats s m bs a (1536 + k) fits ready (omega (arith, l)) (inl (omega (arith, l, low))) ∙ ready.records k l;
}

-- ---- the datagram of a group

abbrev pub lrw : ℕ → ℕ → ℕ → List ℕ → Entry
lrw i a k bs = record { command = command.Lrw; index = i; address = a; circulating = false; event = 0; counter = k; bytes = bs }

gained-is : (k n : ℕ) → k + n < 65536 → cond (n == 0) k ((k + n) % 65536) ≡ k + n
gained-is k n h =
    elim (cases_eq n 0) [
      | inl e ↦ cond-true (n == 0) k ((k + n) % 65536) (eq-eqb n 0 e) ∙ (let z : k ≡ k + n = omega (arith, e) in z)
      | inr q ↦ cond-false (n == 0) k ((k + n) % 65536) (ne_eqb n 0 q) ∙ (let z : (k + n) % 65536 ≡ k + n = omega (arith, h) in z)
    ]

gain-at : (seats : List Seat) (g : Group) (s : Seat) (m bs : List ℕ) → AreKept seats → IsOne seats s → Fits seats s → IsGroup seats g → IsReady seats s m → length bs ≡ g.len →
    (effect_of (row_of command.Lrw) m g.start bs).gain ≡ gain_of g s
unfolding effect_of
gain-at seats g s m bs kept one fits group ready len =
    (λ i. mapped_gain (row_of command.Lrw) (meets (fmmus_in m) (length m) direction.Reads g.start (len i)) (meets (fmmus_in m) (length m) direction.Writes g.start (len i)))
    ∙ (λ i. mapped_gain (row_of command.Lrw) (meets-reads seats g s m kept one fits group ready i) (meets-writes seats g s m kept one fits group ready i))
    ∙ gain-is (is_in g s) (nat_lt 0 s.in_bytes) (nat_lt 0 s.out_bytes)

pub lrw-out : (seats : List Seat) (g : Group) (s : Seat) (m bs : List ℕ) (i k : ℕ) → AreKept seats → IsOne seats s → Fits seats s → IsGroup seats g → IsReady seats s m → length bs ≡ g.len →
    k + gain_of g s < 65536 → entry_out m (lrw i g.start k bs) ≡ lrw i g.start (k + gain_of g s) (read_from (fmmus_in m) m g.start bs)
unfolding entry_out effect_of
lrw-out seats g s m bs i k kept one fits group ready len few =
    ap (λ n. lrw i g.start (cond (n == 0) k ((k + n) % 65536)) (read_from (fmmus_in m) m g.start bs)) (gain-at seats g s m bs kept one fits group ready len)
    ∙ ap (λ c. lrw i g.start c (read_from (fmmus_in m) m g.start bs)) (gained-is k (gain_of g s) few)

pub lrw-next : (m bs : List ℕ) (i a k : ℕ) → entry_next m (lrw i a k bs) ≡ written_to (fmmus_in m) m a bs
unfolding entry_next effect_of
lrw-next m bs i a k = refl

pub length-read : (m bs : List ℕ) (a : ℕ) → length (read_from (fmmus_in m) m a bs) ≡ length bs
unfolding read_from
length-read m bs a = length-map-range_with_len _ 0 (length bs)

-- through a line
pub record LinePasses (seats : List Seat) (ss : List Seat) (ms : List (List ℕ)) (d : Entry) (counter : ℕ) : Type 0 where
  pub counted : (through entry_out entry_next ms d).counter ≡ counter
  pub ready : AreReady seats ss (passed entry_out entry_next ms d)

pub lrw-line : (seats : List Seat) (g : Group) (ss : List Seat) (ms : List (List ℕ)) (bs : List ℕ) (i k : ℕ) → AreKept seats → All (IsOne seats) ss → All (Fits seats) ss → IsGroup seats g →
    AreReady seats ss ms → length bs ≡ g.len → k + sum_by (gain_of g) ss < 65536 → LinePasses seats ss ms (lrw i g.start k bs) (k + sum_by (gain_of g) ss)
lrw-line seats g [] [] bs i k kept ones fits group ready len few = record { counted = (let z : k ≡ k + 0 = omega arith in z); ready = tt }
lrw-line seats g [] (m ∷ ms) bs i k kept ones fits group ready len few = absurd ready
lrw-line seats g (s ∷ ss) [] bs i k kept ones fits group ready len few = absurd ready
lrw-line seats g (s ∷ ss) (m ∷ ms) bs i k kept ones fits group ready len few =
    let sum = sum_by-cons (gain_of g) s ss in
    let one = All-head (IsOne seats) s ss ones in
    let fit = All-head (Fits seats) s ss fits in
    let out = lrw-out seats g s m bs i k kept one fit group ready.0 len (omega (arith, few, sum)) in
    let now = read_from (fmmus_in m) m g.start bs in
    let rest = lrw-line seats g ss ms now i (k + gain_of g s) kept (All-tail (IsOne seats) s ss ones) (All-tail (Fits seats) s ss fits) group ready.1 (length-read m bs g.start ∙ len) (omega (arith, few, sum)) in
    record {
      counted = ap (λ d. (through entry_out entry_next ms d).counter) out ∙ rest.counted ∙ (let z : k + gain_of g s + sum_by (gain_of g) ss ≡ k + sum_by (gain_of g) (s ∷ ss) = omega (arith, sum) in z);
      ready = (
        subst (IsReady seats s) (sym (lrw-next m bs i g.start k)) (written-ready seats s m bs g.start fit ready.0),
        subst (λ d. AreReady seats ss (passed entry_out entry_next ms d)) (sym out) rest.ready,
      );
    }

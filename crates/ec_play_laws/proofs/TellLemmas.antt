-- The inputs that come back are those that the memories hold.
use Rattle.std.proofs.Common.{◌≡◌, ◌≢◌, ◌⊎◌, inl, inr, ℕ, zero, suc, ◌+◌, ◌-◌, ◌<◌, ◌≤◌, ◌&&◌, true, false, cond, List, [], ◌∷◌, length, get_or, sum_by, Some, None, refl, ap, sym, ◌∙◌, subst, arith, All}
use Rattle.std.specs.Prelude.{nat_lt, nat_le}
use Rattle.std.proofs.lemmas.Bool.{false≢true, cases_Bool, cases_order, cases_lt, and_from, lt-ltb, cond-true, cond-false}
use Rattle.std.proofs.lemmas.Bool.Decides.{nat_tests}
use Rattle.std.proofs.lemmas.List.{get_or_default}
use Rattle.std.proofs.lemmas.List.FromFn.{get_or-map-range_with_len}
use Rattle.std.proofs.lemmas.List.Sums.{sum_by-cons}
use Rattle.std.proofs.lemmas.List.Elements.{All-head, All-tail}
use Rattle.ec_frames.specs.Reading.{Entry}
use Rattle.ec_fmmu.specs.declared.seat.Seat.{Seat}
use Rattle.ec_fmmu.specs.declared.group.Group.{Group}
use Rattle.ec_fmmu.specs.Order.{is_before}
use Rattle.ec_fmmu.specs.Seats.{spot, number, AreKept}
use Rattle.ec_fmmu.specs.Layout.{outputs, inputs, process_byte, address_of, IsGroup}
use Rattle.ec_fmmu.proofs.OrderLemmas.{compare_lists, before_self}
use Rattle.ec_slave.specs.declared.fmmu.Direction.TheVariants as direction
use Rattle.ec_slave.specs.Fmmus.{fmmus_in, fmmu_at, place_of}
use Rattle.ec_slave.specs.Logical.{first_of, byte_at, read_from, written_to}
use Rattle.ec_slave.specs.Journey.{through, passed}
use Rattle.ec_player.specs.Images.{byte_in}
use Rattle.ec_slave_laws.specs.Datagrams.{entry_out, entry_next}
use Rattle.ec_play_laws.specs.IsReady.{IsReady, AreReady}
use Rattle.ec_play_laws.proofs.RangeLemmas.{Lies, IsOne, inputs-lie, address-grows}
use Rattle.ec_play_laws.proofs.FmmuLemmas.{Fits, out-ready, in-ready, place-none, place-some}
use Rattle.ec_play_laws.proofs.TickLemmas.{is_in, gain_of, written-kept, lrw, lrw-out, lrw-next, length-read}
use Rattle.ec_play_laws.proofs.DataLemmas.{in-next, spots-before}

abbrev pub in_address : List Seat → Seat → ℕ → ℕ
in_address seats s k = address_of seats (process_byte s inputs k)

-- an address isn't one of this slave's inputs
abbrev pub IsBeside : List Seat → ℕ → Seat → Type 0
IsBeside seats a y = (a < in_address seats y 0) ⊎ (in_address seats y 0 + y.in_bytes ≤ a)

-- of two slaves none has an input of the other
inputs-apart : (seats : List Seat) (x y : Seat) (k : ℕ) → AreKept seats → IsOne seats x → IsOne seats y → spot x ≢ spot y → k < x.in_bytes → IsBeside seats (in_address seats x k) y
inputs-apart seats x y k kept one other differ l =
    let here = in-next seats x k kept one (omega (arith, l)) in
    let next = in-next seats x (suc k) kept one (omega (arith, l)) in
    let end = in-next seats y y.in_bytes kept other (omega arith) in
    elim (compare_lists (spot x) (spot y)) [
      | inl b ↦
          let g = address-grows seats (process_byte x inputs (suc k)) (process_byte y inputs 0) (spots-before x y (1 ∷ suc k ∷ []) (1 ∷ 0 ∷ []) b) in
          inl (omega (arith, g, here, next))
      | inr r ↦ elim r [
        | inl e ↦ absurd (differ e)
        | inr a ↦
            let g = address-grows seats (process_byte y inputs y.in_bytes) (process_byte x inputs k) (spots-before y x (1 ∷ y.in_bytes ∷ []) (1 ∷ k ∷ []) a) in
            inr (omega (arith, g, end))
      ]
    ]

numbers-differ : (x y : Seat) → is_before (number x) (number y) ≡ true → number x ≢ number y
numbers-differ x y h e = false≢true (sym (before_self (number y)) ∙ subst (λ w. is_before w (number y) ≡ true) e h)

abbrev spot_number : List ℕ → List ℕ
spot_number w = get_or w 3 0 ∷ get_or w 4 0 ∷ []

pub others-beside : (seats : List Seat) (i k : ℕ) (d : Seat) → AreKept seats → (h : i < length seats) → IsOne seats (get_or seats i d) → k < (get_or seats i d).in_bytes → All (IsOne seats) seats →
    (j : ℕ) (e : Seat) → j < length seats → j ≢ i → IsBeside seats (in_address seats (get_or seats i d) k) (get_or seats j e)
others-beside seats i k d kept h one l ones j e m n =
    inputs-apart seats (get_or seats i d) (get_or seats j e) k kept one (ones j e m)
    (λ same.
    let numbers : number (get_or seats i d) ≡ number (get_or seats j e) = ap spot_number same in
    elim (cases_order i j) [
      | inl q ↦ n (sym q)
      | inr o ↦ elim o [
        | inl b ↦ numbers-differ (get_or seats i d) (get_or seats j e) (subst (λ w. is_before (number (get_or seats i d)) (number w) ≡ true) (get_or_default seats j d e m) (kept.rising i j d b m)) numbers
        | inr b ↦ numbers-differ (get_or seats j e) (get_or seats i d) (subst (λ w. is_before (number (get_or seats j e)) (number w) ≡ true) (get_or_default seats i e d h) (kept.rising j i e b h)) (sym numbers)
      ]
    ])
    l

-- ---- the data of a group's datagram, at an input

in-within : (seats : List Seat) (g : Group) (s : Seat) (k : ℕ) → AreKept seats → IsOne seats s → IsGroup seats g → is_in g s ≡ true → k < s.in_bytes → (g.start ≤ in_address seats s k) × (in_address seats s k < g.start + g.len)
in-within seats g s k kept one group t l =
    let lies : (g.start ≤ in_address seats s 0) × (in_address seats s 0 + s.in_bytes ≤ g.start + g.len) = subst (λ b. Lies b g.start g.len (in_address seats s 0) (in_address seats s 0 + s.in_bytes)) t (inputs-lie seats g s kept one group) in
    let e = in-next seats s k kept one (omega (arith, l)) in
    (omega (arith, e, lies.0), omega (arith, e, l, lies.1))

in-without : (seats : List Seat) (g : Group) (s : Seat) (k : ℕ) → AreKept seats → IsOne seats s → IsGroup seats g → is_in g s ≡ false → k < s.in_bytes → (in_address seats s k < g.start) ⊎ (g.start + g.len ≤ in_address seats s k)
in-without seats g s k kept one group f l =
    let lies : (in_address seats s 0 + s.in_bytes ≤ g.start) ⊎ (g.start + g.len ≤ in_address seats s 0) = subst (λ b. Lies b g.start g.len (in_address seats s 0) (in_address seats s 0 + s.in_bytes)) f (inputs-lie seats g s kept one group) in
    let e = in-next seats s k kept one (omega (arith, l)) in
    elim lies [ inl a ↦ inl (omega (arith, a, e, l)) | inr b ↦ inr (omega (arith, b, e)) ]

no-output : (seats : List Seat) (y : Seat) (m : List ℕ) (a : ℕ) → Fits seats y → IsReady seats y m → place_of (fmmu_at m 1536) (length m) direction.Reads a ≡ None
no-output seats y m a fits ready =
    place-none (fmmu_at m 1536) (address_of seats (process_byte y outputs 0)) y.out_bytes y.out_at direction.Writes (length m) direction.Reads a (out-ready seats y m fits ready) (λ e. absurd (cc (e)))

read-at : (m bs : List ℕ) (a j : ℕ) → j < length bs → place_of (fmmu_at m 1536) (length m) direction.Reads (a + j) ≡ None →
    get_or (read_from (fmmus_in m) m a bs) j 0 ≡ byte_at (first_of (place_of (fmmu_at m 1552) (length m) direction.Reads (a + j)) None) m (get_or bs j 0)
unfolding read_from fmmus_in
read-at m bs a j l none =
    get_or-map-range_with_len _ 0 (length bs) j j 0 l (let z : 0 + j ≡ j = omega arith in z)
    ∙ ap (λ o. byte_at (first_of (place_of (fmmu_at m 1552) (length m) direction.Reads (a + j)) o) m (get_or bs j 0)) none

-- another slave leaves it
read-beside : (seats : List Seat) (y : Seat) (m bs : List ℕ) (a j p : ℕ) → Fits seats y → IsReady seats y m → j < length bs → a + j ≡ p → IsBeside seats p y → get_or (read_from (fmmus_in m) m a bs) j 0 ≡ get_or bs j 0
read-beside seats y m bs a j p fits ready l place beside =
    read-at m bs a j l (no-output seats y m (a + j) fits ready)
    ∙ ap (λ o. byte_at (first_of o None) m (get_or bs j 0))
    (place-none (fmmu_at m 1552) (in_address seats y 0) y.in_bytes y.in_at direction.Reads (length m) direction.Reads (a + j) (in-ready seats y m fits ready) (λ e. subst (λ w. IsBeside seats w y) (sym place) beside))

-- the slave itself puts its byte there
read-own : (seats : List Seat) (x : Seat) (m bs : List ℕ) (a j k : ℕ) → AreKept seats → IsOne seats x → Fits seats x → IsReady seats x m → j < length bs → k < x.in_bytes → a + j ≡ in_address seats x k →
    get_or (read_from (fmmus_in m) m a bs) j 0 ≡ get_or m (x.in_at + k) 0
read-own seats x m bs a j k kept one fits ready l less place =
    let e = in-next seats x k kept one (omega (arith, less)) in
    let at_k : a + j ≡ in_address seats x 0 + k = omega (arith, place, e) in
    let room = fits.in_high in
    let size = ready.whole in
    let found : place_of (fmmu_at m 1552) (length m) direction.Reads (a + j) ≡ Some (x.in_at + k) =
    ap (place_of (fmmu_at m 1552) (length m) direction.Reads) at_k
    ∙ place-some (fmmu_at m 1552) (in_address seats x 0) x.in_bytes x.in_at direction.Reads (length m) k (in-ready seats x m fits ready) less fits.in_top (omega (arith, room, size)) in
    read-at m bs a j l (no-output seats x m (a + j) fits ready) ∙ ap (λ o. byte_at (first_of o None) m (get_or bs j 0)) found

-- ---- through a line

-- the datagram keeps its place and its length, and at an address that is no input of these slaves its byte
record Shape (ms : List (List ℕ)) (d : Entry) (a len : ℕ) : Type 0 where
  pub address : (through entry_out entry_next ms d).address ≡ a
  pub size : length (through entry_out entry_next ms d).bytes ≡ len

shape-line : (seats : List Seat) (g : Group) (ss : List Seat) (ms : List (List ℕ)) (bs : List ℕ) (i c : ℕ) → AreKept seats → All (IsOne seats) ss → All (Fits seats) ss → IsGroup seats g →
    AreReady seats ss ms → length bs ≡ g.len → c + sum_by (gain_of g) ss < 65536 → Shape ms (lrw i g.start c bs) g.start g.len
shape-line seats g [] [] bs i c kept ones fits group ready len few = record { address = refl; size = len }
shape-line seats g [] (m ∷ ms) bs i c kept ones fits group ready len few = absurd ready
shape-line seats g (s ∷ ss) [] bs i c kept ones fits group ready len few = absurd ready
shape-line seats g (s ∷ ss) (m ∷ ms) bs i c kept ones fits group ready len few =
    let sum = sum_by-cons (gain_of g) s ss in
    let out = lrw-out seats g s m bs i c kept (All-head (IsOne seats) s ss ones) (All-head (Fits seats) s ss fits) group ready.0 len (omega (arith, few, sum)) in
    let rest = shape-line seats g ss ms (read_from (fmmus_in m) m g.start bs) i (c + gain_of g s) kept (All-tail (IsOne seats) s ss ones) (All-tail (Fits seats) s ss fits) group ready.1
    (length-read m bs g.start ∙ len) (omega (arith, few, sum)) in
    record {
      address = ap (λ d. (through entry_out entry_next ms d).address) out ∙ rest.address;
      size = ap (λ d. length (through entry_out entry_next ms d).bytes) out ∙ rest.size;
    }

beside-line : (seats : List Seat) (g : Group) (ss : List Seat) (ms : List (List ℕ)) (bs : List ℕ) (i c j p : ℕ) → AreKept seats → All (IsOne seats) ss → All (Fits seats) ss → IsGroup seats g →
    AreReady seats ss ms → length bs ≡ g.len → c + sum_by (gain_of g) ss < 65536 → j < g.len → g.start + j ≡ p → All (IsBeside seats p) ss →
    get_or (through entry_out entry_next ms (lrw i g.start c bs)).bytes j 0 ≡ get_or bs j 0
beside-line seats g [] [] bs i c j p kept ones fits group ready len few l place beside = refl
beside-line seats g [] (m ∷ ms) bs i c j p kept ones fits group ready len few l place beside = absurd ready
beside-line seats g (s ∷ ss) [] bs i c j p kept ones fits group ready len few l place beside = absurd ready
beside-line seats g (s ∷ ss) (m ∷ ms) bs i c j p kept ones fits group ready len few l place beside =
    let sum = sum_by-cons (gain_of g) s ss in
    let fit = All-head (Fits seats) s ss fits in
    let out = lrw-out seats g s m bs i c kept (All-head (IsOne seats) s ss ones) fit group ready.0 len (omega (arith, few, sum)) in
    ap (λ d. get_or (through entry_out entry_next ms d).bytes j 0) out
    ∙ beside-line seats g ss ms (read_from (fmmus_in m) m g.start bs) i (c + gain_of g s) j p kept (All-tail (IsOne seats) s ss ones) (All-tail (Fits seats) s ss fits) group ready.1
    (length-read m bs g.start ∙ len) (omega (arith, few, sum)) l place (All-tail (IsBeside seats p) s ss beside)
    ∙ read-beside seats s m bs g.start j p fit ready.0 (omega (arith, l, len)) place (All-head (IsBeside seats p) s ss beside)

-- the slave at place n puts its input there, and no other does
own-line : (seats : List Seat) (g : Group) (ss : List Seat) (ms : List (List ℕ)) (bs : List ℕ) (i c j n k : ℕ) (d : Seat) → AreKept seats → All (IsOne seats) ss → All (Fits seats) ss → IsGroup seats g →
    AreReady seats ss ms → length bs ≡ g.len → c + sum_by (gain_of g) ss < 65536 → j < g.len → n < length ss → k < (get_or ss n d).in_bytes → g.start + j ≡ in_address seats (get_or ss n d) k →
    ((q : ℕ) (e : Seat) → q < length ss → q ≢ n → IsBeside seats (in_address seats (get_or ss n d) k) (get_or ss q e)) →
    get_or (through entry_out entry_next ms (lrw i g.start c bs)).bytes j 0 ≡ get_or (get_or ms n []) ((get_or ss n d).in_at + k) 0
own-line seats g [] ms bs i c j n k d kept ones fits group ready len few l within less place others = absurd (omega (arith, within))
own-line seats g (s ∷ ss) [] bs i c j n k d kept ones fits group ready len few l within less place others = absurd ready
own-line seats g (s ∷ ss) (m ∷ ms) bs i c j zero k d kept ones fits group ready len few l within less place others =
    let sum = sum_by-cons (gain_of g) s ss in
    let one = All-head (IsOne seats) s ss ones in
    let fit = All-head (Fits seats) s ss fits in
    let out = lrw-out seats g s m bs i c kept one fit group ready.0 len (omega (arith, few, sum)) in
    ap (λ d. get_or (through entry_out entry_next ms d).bytes j 0) out
    ∙ beside-line seats g ss ms (read_from (fmmus_in m) m g.start bs) i (c + gain_of g s) j (in_address seats s k) kept (All-tail (IsOne seats) s ss ones) (All-tail (Fits seats) s ss fits) group ready.1
    (length-read m bs g.start ∙ len) (omega (arith, few, sum)) l place (λ q e m. others (suc q) e (omega (arith, m)) (λ z. absurd (omega (arith, z))))
    ∙ read-own seats s m bs g.start j k kept one fit ready.0 (omega (arith, l, len)) less place
own-line seats g (s ∷ ss) (m ∷ ms) bs i c j (suc n) k d kept ones fits group ready len few l within less place others =
    let sum = sum_by-cons (gain_of g) s ss in
    let out = lrw-out seats g s m bs i c kept (All-head (IsOne seats) s ss ones) (All-head (Fits seats) s ss fits) group ready.0 len (omega (arith, few, sum)) in
    ap (λ d. get_or (through entry_out entry_next ms d).bytes j 0) out
    ∙ own-line seats g ss ms (read_from (fmmus_in m) m g.start bs) i (c + gain_of g s) j n k d kept (All-tail (IsOne seats) s ss ones) (All-tail (Fits seats) s ss fits) group ready.1
    (length-read m bs g.start ∙ len) (omega (arith, few, sum)) l (omega (arith, within)) less place (λ q e m w. others (suc q) e (omega (arith, m)) (λ z. w (omega (arith, z))))

-- ---- the memory

-- where a slave's areas have no byte in common, no datagram of a tick changes an input in its memory
abbrev pub AreasApart : Seat → Type 0
AreasApart s = 0 < s.out_bytes → 0 < s.in_bytes → s.out_at < s.in_at + s.in_bytes → s.in_at < s.out_at + s.out_bytes → ⊥

input-stays : (seats : List Seat) (s : Seat) (m bs : List ℕ) (a k : ℕ) → Fits seats s → AreasApart s → IsReady seats s m → k < s.in_bytes → get_or (written_to (fmmus_in m) m a bs) (s.in_at + k) 0 ≡ get_or m (s.in_at + k) 0
input-stays seats s m bs a k fits apart ready l =
    let high = fits.in_high in
    written-kept seats s m bs a (s.in_at + k) fits ready (omega (arith, high, l)) (out-of (s.in_at + k) s.out_at s.out_bytes
    (λ low less. apart (omega (arith, low, less)) (omega (arith, l)) (omega (arith, low, l)) (omega (arith, less))))
  where
    out-of : (k low n : ℕ) → (low ≤ k → k < low + n → ⊥) → (k < low) ⊎ (low + n ≤ k)
    out-of k low n h = elim (cases_lt k low) [ inl a ↦ inl a | inr b ↦ elim (cases_lt k (low + n)) [ inl c ↦ absurd (h b c) | inr c ↦ inr c ] ]

pub stays-line : (seats : List Seat) (g : Group) (ss : List Seat) (ms : List (List ℕ)) (bs : List ℕ) (i c n k : ℕ) (d : Seat) → AreKept seats → All (IsOne seats) ss → All (Fits seats) ss → All AreasApart ss → IsGroup seats g →
    AreReady seats ss ms → length bs ≡ g.len → c + sum_by (gain_of g) ss < 65536 → n < length ss → k < (get_or ss n d).in_bytes →
    get_or (get_or (passed entry_out entry_next ms (lrw i g.start c bs)) n []) ((get_or ss n d).in_at + k) 0 ≡ get_or (get_or ms n []) ((get_or ss n d).in_at + k) 0
stays-line seats g [] ms bs i c n k d kept ones fits aparts group ready len few within less = absurd (omega (arith, within))
stays-line seats g (s ∷ ss) [] bs i c n k d kept ones fits aparts group ready len few within less = absurd ready
stays-line seats g (s ∷ ss) (m ∷ ms) bs i c zero k d kept ones fits aparts group ready len few within less =
    ap (λ w. get_or w (s.in_at + k) 0) (lrw-next m bs i g.start c) ∙ input-stays seats s m bs g.start k (All-head (Fits seats) s ss fits) (All-head AreasApart s ss aparts) ready.0 less
stays-line seats g (s ∷ ss) (m ∷ ms) bs i c (suc n) k d kept ones fits aparts group ready len few within less =
    let sum = sum_by-cons (gain_of g) s ss in
    let out = lrw-out seats g s m bs i c kept (All-head (IsOne seats) s ss ones) (All-head (Fits seats) s ss fits) group ready.0 len (omega (arith, few, sum)) in
    ap (λ e. get_or (get_or (passed entry_out entry_next ms e) n []) ((get_or ss n d).in_at + k) 0) out
    ∙ stays-line seats g ss ms (read_from (fmmus_in m) m g.start bs) i (c + gain_of g s) n k d kept (All-tail (IsOne seats) s ss ones) (All-tail (Fits seats) s ss fits) (All-tail AreasApart s ss aparts) group ready.1
    (length-read m bs g.start ∙ len) (omega (arith, few, sum)) (omega (arith, within)) less

-- ---- what a datagram that comes back has at the address of an input

has-byte : (a : ℕ) (e : Entry) (v : ℕ) → e.address ≤ a → a < e.address + length e.bytes → get_or e.bytes (a - e.address) 0 ≡ v → byte_in a e ≡ Some v
has-byte a e v low high is =
    let t : nat_le e.address a ≡ true = grind (arith, nat_tests) in
    cond-true (nat_le e.address a && nat_lt a (e.address + length e.bytes)) (Some (get_or e.bytes (a - e.address) 0)) None (and_from (nat_le e.address a) (nat_lt a (e.address + length e.bytes)) t (lt-ltb a (e.address + length e.bytes) high))
    ∙ ap (λ (x : ℕ). Some x) is

has-none : (a : ℕ) (e : Entry) → (a < e.address) ⊎ (e.address + length e.bytes ≤ a) → byte_in a e ≡ None
has-none a e (inl l) =
    let off : (nat_le e.address a && nat_lt a (e.address + length e.bytes)) ≡ false = grind (arith, nat_tests) in
    cond-false (nat_le e.address a && nat_lt a (e.address + length e.bytes)) (Some (get_or e.bytes (a - e.address) 0)) None off
has-none a e (inr l) =
    let off : (nat_le e.address a && nat_lt a (e.address + length e.bytes)) ≡ false = grind (arith, nat_tests) in
    cond-false (nat_le e.address a && nat_lt a (e.address + length e.bytes)) (Some (get_or e.bytes (a - e.address) 0)) None off

pub told-line : (seats : List Seat) (g : Group) (ms : List (List ℕ)) (bs : List ℕ) (i n k : ℕ) (d : Seat) → AreKept seats → All (IsOne seats) seats → All (Fits seats) seats → IsGroup seats g →
    AreReady seats seats ms → length bs ≡ g.len → 0 + sum_by (gain_of g) seats < 65536 → n < length seats → k < (get_or seats n d).in_bytes →
    byte_in (in_address seats (get_or seats n d) k) (through entry_out entry_next ms (lrw i g.start 0 bs)) ≡ cond (is_in g (get_or seats n d)) (Some (get_or (get_or ms n []) ((get_or seats n d).in_at + k) 0)) None
told-line seats g ms bs i n k d kept ones fits group ready len few within less =
    let x = get_or seats n d in
    let a = in_address seats x k in
    let e = through entry_out entry_next ms (lrw i g.start 0 bs) in
    let v = get_or (get_or ms n []) (x.in_at + k) 0 in
    let shape = shape-line seats g seats ms bs i 0 kept ones fits group ready len few in
    let at_start = shape.address in
    let size = shape.size in
    elim (cases_Bool (is_in g x)) [
      | inl t ↦
          let place = in-within seats g x k kept (ones n d within) group t less in
          let j = a - g.start in
          let back : g.start + j ≡ a = omega (arith, place.0) in
          let own = own-line seats g seats ms bs i 0 j n k d kept ones fits group ready len few (omega (arith, place.0, place.1)) within less back (others-beside seats n k d kept within (ones n d within) less ones) in
          has-byte a e v (omega (arith, place.0, at_start)) (omega (arith, place.1, at_start, size)) (ap (λ w. get_or e.bytes (a - w) 0) at_start ∙ own)
          ∙ sym (cond-true (is_in g x) (Some v) None t)
      | inr f ↦
          let away = in-without seats g x k kept (ones n d within) group f less in
          has-none a e (elim away [ inl l ↦ inl (omega (arith, l, at_start)) | inr l ↦ inr (omega (arith, l, at_start, size)) ])
          ∙ sym (cond-false (is_in g x) (Some v) None f)
    ]

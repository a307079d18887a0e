-- The outputs of an image reach the memories of their slaves.
use Rattle.std.proofs.Common.{◌≡◌, ◌⊎◌, inl, inr, ℕ, suc, ◌+◌, ◌-◌, ◌<◌, ◌≤◌, ◌==◌, ◌&&◌, ◌||◌, Bool, true, false, cond, List, [], ◌∷◌, ◌++◌, length, map, drop, get_or, sum_by, Some, None, refl, ap, sym, ◌∙◌, subst, arith, All}
use Rattle.std.specs.Prelude.{nat_lt, nat_le}
use Rattle.std.proofs.lemmas.Bool.{cases_Bool, cases_eq, and_from, lt-ltb, eq-eqb, ne_eqb, cond-true, cond-false}
use Rattle.std.proofs.lemmas.Bool.Decides.{nat_tests}
use Rattle.std.proofs.lemmas.List.{get_or-take, get_or-drop}
use Rattle.std.proofs.lemmas.List.FromFn.{get_or-map-range_with_len}
use Rattle.std.proofs.lemmas.List.Sums.{sum_by-cons}
use Rattle.std.proofs.lemmas.List.Elements.{All-head, All-tail}
use Rattle.ec_fmmu.specs.declared.seat.Seat.{Seat}
use Rattle.ec_fmmu.specs.declared.group.Group.{Group}
use Rattle.ec_fmmu.specs.Order.{is_before}
use Rattle.ec_fmmu.specs.Seats.{spot, AreKept}
use Rattle.ec_fmmu.specs.Layout.{outputs, inputs, process_byte, address_of, IsGroup}
use Rattle.ec_fmmu.specs.Mappings.{unused, fmmu_for, records_of}
use Rattle.ec_fmmu.proofs.OrderLemmas.{compare_lists, before-apart, before-behind, before_apart}
use Rattle.ec_fmmu.proofs.AddressLemmas.{address-output, address-input}
use Rattle.ec_slave.specs.declared.fmmu.Direction.TheVariants as direction
use Rattle.ec_slave.specs.Fmmus.{fmmus_in, fmmu_at, source_of}
use Rattle.ec_slave.specs.Logical.{first_of, byte_at, data_place, read_from, written_to}
use Rattle.ec_slave.specs.Journey.{passed}
use Rattle.ec_frame_builder.specs.Frames.{covers, is_input, sent, sent_byte, data_of}
use Rattle.ec_slave_laws.specs.Datagrams.{entry_out, entry_next}
use Rattle.ec_play_laws.specs.IsReady.{IsReady, AreReady}
use Rattle.ec_play_laws.specs.Arrivals.{HoldsOutputs}
use Rattle.ec_play_laws.proofs.RangeLemmas.{Lies, IsOne, outputs-lie, address-grows}
use Rattle.ec_play_laws.proofs.FmmuLemmas.{Fits, out-ready, in-ready, place-none, source-some}
use Rattle.ec_play_laws.proofs.TickLemmas.{is_in, gain_of, written-at, no-input, lrw, lrw-out, lrw-next, length-read}

abbrev pub out_address : List Seat → Seat → ℕ → ℕ
out_address seats s k = address_of seats (process_byte s outputs k)

-- the outputs of a slave, one after the other
out-next : (seats : List Seat) (s : Seat) (k : ℕ) → AreKept seats → IsOne seats s → k ≤ s.out_bytes → out_address seats s k ≡ out_address seats s 0 + k
out-next seats s k kept one l =
    let a = address-output seats s one.0 0 one.1 one.2 kept.rising (omega arith) in
    let b = address-output seats s one.0 k one.1 one.2 kept.rising l in
    omega (arith, a, b)

pub in-next : (seats : List Seat) (s : Seat) (k : ℕ) → AreKept seats → IsOne seats s → k ≤ s.in_bytes → address_of seats (process_byte s inputs k) ≡ address_of seats (process_byte s inputs 0) + k
in-next seats s k kept one l =
    let a = address-input seats s one.0 0 one.1 one.2 kept.rising (omega arith) in
    let b = address-input seats s one.0 k one.1 one.2 kept.rising l in
    omega (arith, a, b)

pub spots-before : (x y : Seat) (us vs : List ℕ) → is_before (spot x) (spot y) ≡ true → is_before (spot x ++ us) (spot y ++ vs) ≡ true
spots-before x y us vs h = before-apart (spot x) (spot y) us vs refl (before_apart (spot x) (spot y) h) ∙ h

-- an output isn't among the inputs of any slave
pub sides-apart : (seats : List Seat) (s x : Seat) (k : ℕ) → AreKept seats → IsOne seats s → IsOne seats x → k < s.out_bytes →
    (out_address seats s k < address_of seats (process_byte x inputs 0)) ⊎ (address_of seats (process_byte x inputs 0) + x.in_bytes ≤ out_address seats s k)
sides-apart seats s x k kept one other l =
    let here = out-next seats s k kept one (omega (arith, l)) in
    let next = out-next seats s (suc k) kept one (omega (arith, l)) in
    let end = in-next seats x x.in_bytes kept other (omega arith) in
    elim (compare_lists (spot s) (spot x)) [
      | inl b ↦
          let g = address-grows seats (process_byte s outputs (suc k)) (process_byte x inputs 0) (spots-before s x (0 ∷ suc k ∷ []) (1 ∷ 0 ∷ []) b) in
          inl (omega (arith, g, here, next))
      | inr r ↦ elim r [
        | inl e ↦
            let p : is_before (process_byte s outputs (suc k)) (process_byte x inputs 0) ≡ true = subst (λ w. is_before (spot s ++ (0 ∷ suc k ∷ [])) (w ++ (1 ∷ 0 ∷ [])) ≡ true) e (before-behind (spot s) (0 ∷ suc k ∷ []) (1 ∷ 0 ∷ [])) in
            let g = address-grows seats (process_byte s outputs (suc k)) (process_byte x inputs 0) p in
            inl (omega (arith, g, here, next))
        | inr a ↦
            let g = address-grows seats (process_byte x inputs x.in_bytes) (process_byte s outputs k) (spots-before x s (1 ∷ x.in_bytes ∷ []) (0 ∷ k ∷ []) a) in
            inr (omega (arith, g, end))
      ]
    ]

-- ---- the datagram of a group

-- its data have the outputs of its slaves
abbrev pub Carries : List Seat → List ℕ → Group → List ℕ → Type 0
Carries seats image g bs =
    (s : Seat) → IsOne seats s → is_in g s ≡ true → (k : ℕ) → k < s.out_bytes → get_or bs (out_address seats s k - g.start) 0 ≡ get_or image (out_address seats s k - 65536) 0

-- where an output lies in the data of its group
out-within : (seats : List Seat) (g : Group) (s : Seat) (k : ℕ) → AreKept seats → IsOne seats s → IsGroup seats g → is_in g s ≡ true → k < s.out_bytes → (g.start ≤ out_address seats s k) × (out_address seats s k < g.start + g.len)
out-within seats g s k kept one group t l =
    let lies : (g.start ≤ out_address seats s 0) × (out_address seats s 0 + s.out_bytes ≤ g.start + g.len) = subst (λ b. Lies b g.start g.len (out_address seats s 0) (out_address seats s 0 + s.out_bytes)) t (outputs-lie seats g s kept one group) in
    let e = out-next seats s k kept one (omega (arith, l)) in
    (omega (arith, e, lies.0), omega (arith, e, l, lies.1))

-- a slave that reads into the data leaves the outputs
carried-on : (seats : List Seat) (image : List ℕ) (g : Group) (x : Seat) (m bs : List ℕ) → AreKept seats → IsOne seats x → Fits seats x → IsGroup seats g → IsReady seats x m → length bs ≡ g.len →
    Carries seats image g bs → Carries seats image g (read_from (fmmus_in m) m g.start bs)
unfolding read_from fmmus_in
carried-on seats image g x m bs kept other fits group ready len h s one t k l =
    let a = out_address seats s k in
    let place = out-within seats g s k kept one group t l in
    let j = a - g.start in
    let back : g.start + j ≡ a = omega (arith, place.0) in
    let apart = sides-apart seats s x k kept one other l in
    let second = place-none (fmmu_at m 1552) (address_of seats (process_byte x inputs 0)) x.in_bytes x.in_at direction.Reads (length m) direction.Reads (g.start + j) (in-ready seats x m fits ready)
    (λ e. subst (λ w. (w < address_of seats (process_byte x inputs 0)) ⊎ (address_of seats (process_byte x inputs 0) + x.in_bytes ≤ w)) (sym back) apart) in
    let first = place-none (fmmu_at m 1536) (address_of seats (process_byte x outputs 0)) x.out_bytes x.out_at direction.Writes (length m) direction.Reads (g.start + j) (out-ready seats x m fits ready)
    (λ e. absurd (cc (e))) in
    get_or-map-range_with_len _ 0 (length bs) j j 0 (omega (arith, place.0, place.1, len)) (let z : 0 + j ≡ j = omega arith in z)
    ∙ (λ i. byte_at (first_of (second i) (first i)) m (get_or bs j 0))
    ∙ h s one t k l

inside-place : (a n x : ℕ) → a ≤ x → x < a + n → data_place a n (Some x) ≡ Some (x - a)
inside-place a n x l m =
    let low : nat_le a x ≡ true = grind (arith, nat_tests) in
    cond-true (nat_le a x && nat_lt x (a + n)) (Some (x - a)) None (and_from (nat_le a x) (nat_lt x (a + n)) low (lt-ltb x (a + n) m))

outside-place : (a n x : ℕ) → (x < a) ⊎ (a + n ≤ x) → data_place a n (Some x) ≡ None
outside-place a n x (inl l) =
    let off : (nat_le a x && nat_lt x (a + n)) ≡ false = grind (arith, nat_tests) in
    cond-false (nat_le a x && nat_lt x (a + n)) (Some (x - a)) None off
outside-place a n x (inr l) =
    let off : (nat_le a x && nat_lt x (a + n)) ≡ false = grind (arith, nat_tests) in
    cond-false (nat_le a x && nat_lt x (a + n)) (Some (x - a)) None off

-- the memory that it leaves, at an output
out-written : (seats : List Seat) (s : Seat) (m bs : List ℕ) (a k : ℕ) → AreKept seats → IsOne seats s → Fits seats s → IsReady seats s m → k < s.out_bytes →
    get_or (written_to (fmmus_in m) m a bs) (s.out_at + k) 0 ≡ byte_at (data_place a (length bs) (Some (out_address seats s k))) bs (get_or m (s.out_at + k) 0)
out-written seats s m bs a k kept one fits ready l =
    let high = fits.out_high in
    let size = ready.whole in
    let source : source_of (fmmu_at m 1536) (length m) direction.Writes (s.out_at + k) ≡ Some (out_address seats s 0 + k) =
    source-some (fmmu_at m 1536) (out_address seats s 0) s.out_bytes s.out_at direction.Writes (length m) k (out-ready seats s m fits ready) l fits.out_top (omega (arith, high, size)) in
    written-at m bs a (s.out_at + k) (omega (arith, high, size, l)) (no-input seats s m (s.out_at + k) fits ready)
    ∙ ap (λ o. byte_at (data_place a (length bs) o) bs (get_or m (s.out_at + k) 0)) (source ∙ ap (λ (x : ℕ). Some x) (sym (out-next seats s k kept one (omega (arith, l)))))

write-holds : (seats : List Seat) (image : List ℕ) (g : Group) (s : Seat) (m bs : List ℕ) → AreKept seats → IsOne seats s → Fits seats s → IsGroup seats g → IsReady seats s m → length bs ≡ g.len →
    Carries seats image g bs → is_in g s ≡ true → HoldsOutputs seats image s (written_to (fmmus_in m) m g.start bs)
write-holds seats image g s m bs kept one fits group ready len h t k l =
    let place = out-within seats g s k kept one group t l in
    out-written seats s m bs g.start k kept one fits ready l
    ∙ ap (λ o. byte_at o bs (get_or m (s.out_at + k) 0)) (inside-place g.start (length bs) (out_address seats s k) place.0 (omega (arith, place.1, len)))
    ∙ h s one t k l

write-keeps : (seats : List Seat) (image : List ℕ) (g : Group) (s : Seat) (m bs : List ℕ) → AreKept seats → IsOne seats s → Fits seats s → IsGroup seats g → IsReady seats s m → length bs ≡ g.len →
    is_in g s ≡ false → HoldsOutputs seats image s m → HoldsOutputs seats image s (written_to (fmmus_in m) m g.start bs)
write-keeps seats image g s m bs kept one fits group ready len f h k l =
    let lies : (out_address seats s 0 + s.out_bytes ≤ g.start) ⊎ (g.start + g.len ≤ out_address seats s 0) = subst (λ b. Lies b g.start g.len (out_address seats s 0) (out_address seats s 0 + s.out_bytes)) f (outputs-lie seats g s kept one group) in
    let e = out-next seats s k kept one (omega (arith, l)) in
    let away : (out_address seats s k < g.start) ⊎ (g.start + length bs ≤ out_address seats s k) = elim lies [ inl a ↦ inl (omega (arith, a, e, l)) | inr b ↦ inr (omega (arith, b, e, len)) ] in
    out-written seats s m bs g.start k kept one fits ready l
    ∙ ap (λ o. byte_at o bs (get_or m (s.out_at + k) 0)) (outside-place g.start (length bs) (out_address seats s k) away)
    ∙ h k l

-- each slave for which this is so holds its outputs
abbrev pub AreServed : List Seat → List ℕ → (Seat → Bool) → List Seat → List (List ℕ) → Type 0
AreServed seats image went [] ms = Unit {0}
AreServed seats image went (s ∷ ss) [] = Unit {0}
AreServed seats image went (s ∷ ss) (m ∷ ms) = (went s ≡ true → HoldsOutputs seats image s m) × AreServed seats image went ss ms

pub served-weaker : (seats : List Seat) (image : List ℕ) (p q : Seat → Bool) (ss : List Seat) (ms : List (List ℕ)) → ((s : Seat) → q s ≡ true → p s ≡ true) → AreServed seats image p ss ms → AreServed seats image q ss ms
served-weaker seats image p q [] ms w h = tt
served-weaker seats image p q (s ∷ ss) [] w h = tt
served-weaker seats image p q (s ∷ ss) (m ∷ ms) w h = ((λ t. h.0 (w s t)), served-weaker seats image p q ss ms w h.1)

served-one : (seats : List Seat) (image : List ℕ) (went : Seat → Bool) (g : Group) (s : Seat) (m bs : List ℕ) → AreKept seats → IsOne seats s → Fits seats s → IsGroup seats g → IsReady seats s m → length bs ≡ g.len →
    Carries seats image g bs → (went s ≡ true → HoldsOutputs seats image s m) → (is_in g s || went s) ≡ true → HoldsOutputs seats image s (written_to (fmmus_in m) m g.start bs)
served-one seats image went g s m bs kept one fits group ready len carries had t =
    elim (cases_Bool (is_in g s)) [
      | inl a ↦ write-holds seats image g s m bs kept one fits group ready len carries a
      | inr b ↦ write-keeps seats image g s m bs kept one fits group ready len b (had (ap (λ w. w || went s) (sym b) ∙ t))
    ]

-- a datagram serves the slaves of its group
pub served-line : (seats : List Seat) (image : List ℕ) (went : Seat → Bool) (g : Group) (ss : List Seat) (ms : List (List ℕ)) (bs : List ℕ) (i k : ℕ) → AreKept seats → All (IsOne seats) ss → All (Fits seats) ss →
    IsGroup seats g → AreReady seats ss ms → length bs ≡ g.len → k + sum_by (gain_of g) ss < 65536 → Carries seats image g bs → AreServed seats image went ss ms →
    AreServed seats image (λ s. is_in g s || went s) ss (passed entry_out entry_next ms (lrw i g.start k bs))
served-line seats image went g [] ms bs i k kept ones fits group ready len few carries had = tt
served-line seats image went g (s ∷ ss) [] bs i k kept ones fits group ready len few carries had = absurd ready
served-line seats image went g (s ∷ ss) (m ∷ ms) bs i k kept ones fits group ready len few carries had =
    let sum = sum_by-cons (gain_of g) s ss in
    let one = All-head (IsOne seats) s ss ones in
    let fit = All-head (Fits seats) s ss fits in
    let out = lrw-out seats g s m bs i k kept one fit group ready.0 len (omega (arith, few, sum)) in
    let now = read_from (fmmus_in m) m g.start bs in
    let rest = served-line seats image went g ss ms now i (k + gain_of g s) kept (All-tail (IsOne seats) s ss ones) (All-tail (Fits seats) s ss fits) group ready.1 (length-read m bs g.start ∙ len) (omega (arith, few, sum))
    (carried-on seats image g s m bs kept one fit group ready.0 len carries) had.1 in (
      subst (λ w. (is_in g s || went s) ≡ true → HoldsOutputs seats image s w) (sym (lrw-next m bs i g.start k)) (served-one seats image went g s m bs kept one fit group ready.0 len carries had.0),
      subst (λ d. AreServed seats image (λ s. is_in g s || went s) ss (passed entry_out entry_next ms d)) (sym out) rest,
    )

-- ---- what is sent of the outputs

not-covered : (kind logical len physical a : ℕ) → (kind ≡ 1 → (a < logical) ⊎ (logical + len ≤ a)) → covers a (fmmu_for kind logical len physical) ≡ false
not-covered kind logical len physical a h =
    elim (cases_eq len 0) [
      | inl e ↦ ap (covers a) (ap (λ b. cond b unused (record { logical = logical; len = len; physical = physical; kind = kind; active = true })) (eq-eqb len 0 e))
      | inr n ↦
          ap (covers a) (ap (λ b. cond b unused (record { logical = logical; len = len; physical = physical; kind = kind; active = true })) (ne_eqb len 0 n))
          ∙ elim (cases_eq kind 1) [
            | inl e ↦ elim (h e) [
              | inl l ↦ let off : ((kind == 1) && (nat_le logical a && nat_lt a (logical + len))) ≡ false = grind (arith, nat_tests) in off
              | inr l ↦ let off : ((kind == 1) && (nat_le logical a && nat_lt a (logical + len))) ≡ false = grind (arith, nat_tests) in off
            ]
            | inr n ↦ ap (λ b. b && (nat_le logical a && nat_lt a (logical + len))) (ne_eqb kind 1 n)
          ]
    ]

output-no-input : (seats : List Seat) (s : Seat) (k : ℕ) → AreKept seats → IsOne seats s → k < s.out_bytes → (xs : List Seat) → All (IsOne seats) xs → is_input (map (records_of seats) xs) (out_address seats s k) ≡ false
output-no-input seats s k kept one l [] ones = refl
output-no-input seats s k kept one l (x ∷ xs) ones =
    let apart = sides-apart seats s x k kept one (All-head (IsOne seats) x xs ones) l in
    let a = out_address seats s k in
    let first = not-covered 2 (address_of seats (process_byte x outputs 0)) x.out_bytes x.out_at a (λ e. absurd (omega (arith, e))) in
    let second = not-covered 1 (address_of seats (process_byte x inputs 0)) x.in_bytes x.in_at a (λ e. apart) in
    let rest = output-no-input seats s k kept one l xs (All-tail (IsOne seats) x xs ones) in
    λ i. (first i || (second i || false)) || rest i

-- the data of a group in what is sent of an image
pub sent-carries : (seats : List Seat) (image : List ℕ) (g : Group) → AreKept seats → All (IsOne seats) seats → IsGroup seats g → 65536 ≤ g.start → g.start + g.len ≤ 65536 + length image →
    Carries seats image g (data_of (sent (map (records_of seats) seats) image) g)
sent-carries seats image g kept ones group low high s one t k l =
    let fmmus = map (records_of seats) seats in
    let bytes = sent fmmus image in
    let a = out_address seats s k in
    let place = out-within seats g s k kept one group t l in
    let j = a - g.start in
    let p = a - 65536 in
    let move : g.start - 65536 + j ≡ p = omega (arith, low, place.0) in
    let back : 65536 + p ≡ a = omega (arith, low, place.0) in
    get_or-take g.len (drop (g.start - 65536) bytes) j 0 (omega (arith, place.0, place.1))
    ∙ get_or-drop (g.start - 65536) bytes j 0
    ∙ ap (λ n. get_or bytes n 0) move
    ∙ get_or-map-range_with_len (sent_byte fmmus image) 0 (length image) p p 0 (omega (arith, low, place.0, place.1, high)) (let z : 0 + p ≡ p = omega arith in z)
    ∙ cond-false (is_input fmmus (65536 + p)) 0 (get_or image p 0) (ap (is_input fmmus) back ∙ output-no-input seats s k kept one l seats ones)

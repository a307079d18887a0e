-- The image after a play has the inputs of the slaves that travelled.
use Rattle.std.proofs.Common.{◌≡◌, inl, inr, ℕ, zero, suc, ◌+◌, ◌-◌, ◌<◌, ◌≤◌, ◌==◌, ◌||◌, true, false, cond, List, [], ◌∷◌, length, map, filter, get_or, unwrap_or, refl, ap, sym, ◌∙◌, subst, arith}
use Rattle.std.specs.Prelude.{nat_lt, nat_le}
use Rattle.std.specs.List.{list_any, range_with_len}
use Rattle.std.proofs.lemmas.Bool.{true≢false, cases_Bool, or_left, or_right, and_from, and_parts, lt-ltb, ne_eqb, cond-true, cond-false, false_from_ne_true}
use Rattle.std.proofs.lemmas.Bool.Decides.{nat_tests}
use Rattle.std.proofs.lemmas.List.FromFn.{get_or-map-range_with_len, length-range_with_len, get_or-range_with_len}
use Rattle.std.proofs.lemmas.List.Folds.{list_any_none}
use Rattle.std.proofs.lemmas.List.Sums.{count_by-le-length}
use Rattle.ec_hyper.specs.Travel.{travels}
use Rattle.ec_units.specs.declared.units.Units.{Units}
use Rattle.ec_frames.specs.Reading.{Entry}
use Rattle.ec_fmmu.specs.declared.seat.Seat.{Seat}
use Rattle.ec_fmmu.specs.declared.group.Group.{Group}
use Rattle.ec_fmmu.specs.declared.mapping.Mapping.{Mapping}
use Rattle.ec_fmmu.specs.Order.{is_before}
use Rattle.ec_fmmu.specs.Seats.{key_numbers, AreKept}
use Rattle.ec_fmmu.specs.Layout.{outputs, inputs, process_byte, process_bytes, address_of, total_of, group_numbers}
use Rattle.ec_fmmu.specs.Mappings.{unused, fmmu_for, records_of}
use Rattle.ec_fmmu.proofs.OrderLemmas.{same_is}
use Rattle.ec_frame_builder.specs.Frames.{goes, going, covers, is_input}
use Rattle.ec_frame_builder.proofs.GoingLemmas.{goes_by}
use Rattle.ec_player.specs.Images.{last_byte, byte_after}
use Rattle.ec_play_laws.proofs.RangeLemmas.{all-ones}
use Rattle.ec_play_laws.proofs.TickLemmas.{is_in}
use Rattle.ec_play_laws.proofs.DataLemmas.{in-next}
use Rattle.ec_play_laws.proofs.TellLemmas.{in_address}
use Rattle.ec_play_laws.proofs.PlayLemmas.{has_group, served_in, busy_in, serves}

-- ---- who isn't served

stands-still : (t s : ℕ) (gs : List Group) (x : Seat) → travels x.key.period x.key.phase t ≡ false → has_group (going gs t s) x ≡ false
stands-still t s [] x h = refl
stands-still t s (y ∷ ys) x h =
    let rest = stands-still t s ys x h in
    elim (cases_Bool (goes t s y)) [
      | inl a ↦
          let other : is_in y x ≡ false = false_from_ne_true (is_in y x) (λ e.
          let same : key_numbers x.key ≡ group_numbers y = same_is (key_numbers x.key) (group_numbers y) e in
          let moves : goes_by t s (key_numbers x.key) ≡ true = subst (λ w. goes_by t s w ≡ true) (sym same) a in
          true≢false (sym (and_parts (travels x.key.period x.key.phase t) (x.key.slot == s) moves).0 ∙ h)) in
          ap (λ w. has_group w x) (cond-true (goes t s y) (y ∷ filter (goes t s) ys) (filter (goes t s) ys) a) ∙ (λ i. other i || rest i)
      | inr a ↦ ap (λ w. has_group w x) (cond-false (goes t s y) (y ∷ filter (goes t s) ys) (filter (goes t s) ys) a) ∙ rest
    ]

pub serves-none : (us : Units) (m : Mapping) (n : ℕ) (x : Seat) → ((t : ℕ) → t < n → travels x.key.period x.key.phase t ≡ false) → serves us m (range_with_len 0 n) x ≡ false
serves-none us m n x h =
    list_any_none (λ t. served_in m t (busy_in us m t) x) (range_with_len 0 n) (λ i d l.
    let len = length-range_with_len 0 n in
    let e : get_or (range_with_len 0 n) i d ≡ 0 + i = get_or-range_with_len 0 n i d (omega (arith, l, len)) in
    let t = get_or (range_with_len 0 n) i d in
    let less : t < n = omega (arith, l, len, e) in
    list_any_none (λ s. has_group (going m.groups t s) x) (busy_in us m t) (λ j f q. stands-still t (get_or (busy_in us m t) j f) m.groups x (h t less)))

-- ---- inputs in the image

covered : (logical len physical a : ℕ) → logical ≤ a → a < logical + len → covers a (fmmu_for 1 logical len physical) ≡ true
covered logical len physical a low high =
    let n : (len == 0) ≡ false = ne_eqb len 0 (λ e. absurd (omega (arith, low, high, e))) in
    let t : nat_le logical a ≡ true = grind (arith, nat_tests) in
    ap (covers a) (ap (λ b. cond b unused (record { logical = logical; len = len; physical = physical; kind = 1; active = true })) n)
    ∙ and_from (nat_le logical a) (nat_lt a (logical + len)) t (lt-ltb a (logical + len) high)

any-of-map : (seats : List Seat) (a : ℕ) (xs : List Seat) (i : ℕ) (d : Seat) → i < length xs → list_any (covers a) (records_of seats (get_or xs i d)) ≡ true → is_input (map (records_of seats) xs) a ≡ true
any-of-map seats a [] i d l h = absurd (omega (arith, l))
any-of-map seats a (x ∷ xs) zero d l h = or_left (list_any (covers a) (records_of seats x)) (is_input (map (records_of seats) xs) a) h
any-of-map seats a (x ∷ xs) (suc i) d l h = or_right (list_any (covers a) (records_of seats x)) (is_input (map (records_of seats) xs) a) (any-of-map seats a xs i d (omega (arith, l)) h)

address-most : (seats : List Seat) (b : List ℕ) → (65536 ≤ address_of seats b) × (address_of seats b ≤ 65536 + total_of seats)
unfolding address_of total_of
address-most seats b = let c = count_by-le-length (λ a. is_before a b) (process_bytes seats) in (omega arith, omega (arith, c))

-- the byte of the image at the address of an input
pub input-after : (seats : List Seat) (image : List ℕ) (ds : List Entry) (i k : ℕ) (d : Seat) → AreKept seats → length image ≡ total_of seats → i < length seats → k < (get_or seats i d).in_bytes →
    get_or (map (byte_after (map (records_of seats) seats) image ds) (range_with_len 0 (length image))) (in_address seats (get_or seats i d) k - 65536) 0
    ≡ unwrap_or (last_byte (in_address seats (get_or seats i d) k) ds) 0
input-after seats image ds i k d kept size l less =
    let x = get_or seats i d in
    let one = all-ones seats i d l in
    let a = in_address seats x k in
    let p = a - 65536 in
    let fmmus = map (records_of seats) seats in
    let here = in-next seats x k kept one (omega (arith, less)) in
    let next = in-next seats x (suc k) kept one (omega (arith, less)) in
    let low = (address-most seats (process_byte x inputs k)).0 in
    let high = (address-most seats (process_byte x inputs (suc k))).1 in
    let back : 65536 + p ≡ a = omega (arith, low) in
    let second = covered (in_address seats x 0) x.in_bytes x.in_at a (omega (arith, here)) (omega (arith, here, less)) in
    let both : list_any (covers a) (records_of seats x) ≡ true =
    or_right (covers a (fmmu_for 2 (address_of seats (process_byte x outputs 0)) x.out_bytes x.out_at)) (covers a (fmmu_for 1 (in_address seats x 0) x.in_bytes x.in_at) || false)
    (or_left (covers a (fmmu_for 1 (in_address seats x 0) x.in_bytes x.in_at)) false second) in
    let input : is_input fmmus a ≡ true = any-of-map seats a seats i d l both in
    get_or-map-range_with_len (byte_after fmmus image ds) 0 (length image) p p 0 (omega (arith, low, high, next, here, size)) (let z : 0 + p ≡ p = omega arith in z)
    ∙ ap (λ w. cond (is_input fmmus w) (unwrap_or (last_byte w ds) 0) (get_or image p 0)) back
    ∙ cond-true (is_input fmmus a) (unwrap_or (last_byte a ds) 0) (get_or image p 0) input

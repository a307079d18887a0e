-- What a layout gives to the frames: groups and records within the image.
use Rattle.std.proofs.Common.{◌≡◌, ℕ, ◌+◌, ◌<◌, ◌≤◌, true, cond, List, [], ◌∷◌, length, map, get_or, take, All, sym, ap, ◌∙◌, subst, inl, inr, arith}
use Rattle.std.specs.List.{list_any}
use Rattle.std.proofs.lemmas.Bool.{false≢true, or_cases, cases_eq, eq-eqb, ne_eqb}
use Rattle.std.proofs.lemmas.List.{get_or_default, take_all}
use Rattle.std.proofs.lemmas.List.Sums.{count_by-le-length}
use Rattle.std.proofs.lemmas.List.FromFn.{fill_by_all}
use Rattle.std.proofs.lemmas.List.Elements.{All-nil, All-head, All-tail, All-cons, All-map}
use Rattle.ec_units.specs.declared.slave.Place.{Place}
use Rattle.ec_units.specs.declared.unit.Unit.{Unit as SyncUnit}
use Rattle.ec_units.specs.Load.{load_of, loads_of}
use Rattle.ec_units.specs.Views.{unit_view}
use Rattle.ec_loads.specs.declared.item.Item.{Item}
use Rattle.ec_loads.specs.Cost.{item, plan_items}
use Rattle.ec_fmmu.specs.declared.fmmu.Fmmu.{Fmmu}
use Rattle.ec_fmmu.specs.declared.group.Group.{Group}
use Rattle.ec_fmmu.specs.declared.seat.Seat.{Seat}
use Rattle.ec_fmmu.specs.Order.{is_before, is_same}
use Rattle.ec_fmmu.specs.Seats.{seats_of, AreKept}
use Rattle.ec_fmmu.specs.Layout.{inputs, outputs, process_byte, process_bytes, address_of, total_of, group_numbers, Fills, AreGroups}
use Rattle.ec_fmmu.specs.Mappings.{unused, fmmu_for, records_of}
use Rattle.ec_fmmu.proofs.OrderLemmas.{same_is}
use Rattle.ec_fmmu.proofs.SeatLemmas.{units_kept}
use Rattle.ec_fmmu.proofs.AddressLemmas.{address-input}
use Rattle.ec_fmmu.proofs.LegalLemmas.{item_numbers}
use Rattle.ec_frame_builder.specs.Frames.{is_input, sent_byte, sent}
use Rattle.ec_frame_builder.specs.Within.{IsWithin, AreWithin, GroupsWithin}
use Rattle.ec_frame_builder.proofs.GoingLemmas.{units-any}

-- groups that fill a range lie in it
fills-low : (a b : ℕ) (gs : List Group) → Fills a gs b → a ≤ b
fills-low a b [] h = omega (arith, h)
fills-low a b (g ∷ gs) h = let r = fills-low (a + g.len) b gs h.1 in omega (arith, r)

fills-within : (a b : ℕ) (gs : List Group) → Fills a gs b → All (λ g. (a ≤ g.start) × (g.start + g.len ≤ b)) gs
fills-within a b [] h = All-nil (λ g. (a ≤ g.start) × (g.start + g.len ≤ b))
fills-within a b (g ∷ gs) h =
    let r = fills-low (a + g.len) b gs h.1 in
    let e = h.0 in
    let rest = fills-within (a + g.len) b gs h.1 in
    All-cons (λ g. (a ≤ g.start) × (g.start + g.len ≤ b)) g gs (omega (arith, e), omega (arith, e, r))
    (λ k d l. let q = rest k d l in (omega (arith, q.0), q.1))

-- each group has a period
found-period : (n : List ℕ) (xs : List Item) → list_any (λ x. is_same (item_numbers x) n) xs ≡ true → All (λ x. 1 ≤ x.period) xs → 1 ≤ get_or n 1 0
found-period n [] e h = absurd (false≢true e)
found-period n (x ∷ xs) e h =
    elim (or_cases (is_same (item_numbers x) n) (list_any (λ x. is_same (item_numbers x) n) xs) e) [
      | inl a ↦ subst (λ w. 1 ≤ get_or w 1 0) (same_is (item_numbers x) n a) (All-head (λ x. 1 ≤ x.period) x xs h)
      | inr b ↦ found-period n xs b (All-tail (λ x. 1 ≤ x.period) x xs h)
    ]

item-periods : (us : List SyncUnit) (ps : List Place) → All (λ x. 1 ≤ x.period) (plan_items (loads_of us) ps)
item-periods [] ps = All-nil (λ x. 1 ≤ x.period)
item-periods (u ∷ us) [] = All-nil (λ x. 1 ≤ x.period)
item-periods (u ∷ us) (p ∷ ps) = All-cons (λ x. 1 ≤ x.period) (item (load_of u) p) (plan_items (loads_of us) ps) u.period_range.0 (item-periods us ps)

pub groups-within : (us : List SyncUnit) (ps : List Place) (gs : List Group) (n : ℕ) → AreGroups (seats_of (map unit_view us) ps) gs → n ≡ total_of (seats_of (map unit_view us) ps) → GroupsWithin n gs
groups-within us ps gs n h e = λ k d l.
    let g = get_or gs k d in
    let f = fills-within 65536 (65536 + total_of (seats_of (map unit_view us) ps)) gs h.filled k d l in
    let p = found-period (group_numbers g) (plan_items (loads_of us) ps) (units-any (λ m. is_same m (group_numbers g)) 0 us ps (h.each k d l).found) (item-periods us ps) in
    (p, f.0, omega (arith, f.1, e))

-- the records of a slave lie within the image
record-within : (kind logical len physical n : ℕ) → (kind ≡ 1 → (65536 ≤ logical) × (logical + len ≤ 65536 + n)) → IsWithin n (fmmu_for kind logical len physical)
record-within kind logical len physical n h k =
    elim (cases_eq len 0) [
      | inl e ↦
          let none : fmmu_for kind logical len physical ≡ unused = ap (λ b. cond b unused (record { logical = logical; len = len; physical = physical; kind = kind; active = true })) (eq-eqb len 0 e) in
          let bad : 0 ≡ 1 = subst (λ f. f.kind ≡ 1) none k in
          absurd (omega (arith, bad))
      | inr e ↦
          let some : fmmu_for kind logical len physical ≡ record { logical = logical; len = len; physical = physical; kind = kind; active = true } =
          ap (λ b. cond b unused (record { logical = logical; len = len; physical = physical; kind = kind; active = true })) (ne_eqb len 0 e) in
          subst (λ f. (65536 ≤ f.logical) × (f.logical + f.len ≤ 65536 + n)) (sym some) (h (subst (λ f. f.kind ≡ 1) some k))
    ]

address-total : (seats : List Seat) (b : List ℕ) → (65536 ≤ address_of seats b) × (address_of seats b ≤ 65536 + total_of seats)
unfolding address_of total_of
address-total seats b = let c = count_by-le-length (λ a. is_before a b) (process_bytes seats) in (omega arith, omega (arith, c))

seat-within : (seats : List Seat) (i n : ℕ) (d : Seat) → AreKept seats → i < length seats → n ≡ total_of seats → All (IsWithin n) (records_of seats (get_or seats i d))
seat-within seats i n d kept l e =
    let x = get_or seats i d in
    let is = get_or_default seats i d x l in
    let start = address-input seats x i 0 l is kept.rising (omega arith) in
    let end = address-input seats x i x.in_bytes l is kept.rising (omega arith) in
    let low = address-total seats (process_byte x inputs 0) in
    let high = address-total seats (process_byte x inputs x.in_bytes) in
    All-cons (IsWithin n) (fmmu_for 2 (address_of seats (process_byte x outputs 0)) x.out_bytes x.out_at) (fmmu_for 1 (address_of seats (process_byte x inputs 0)) x.in_bytes x.in_at ∷ [])
    (record-within 2 (address_of seats (process_byte x outputs 0)) x.out_bytes x.out_at n (λ k. absurd (omega (arith, k))))
    (All-cons (IsWithin n) (fmmu_for 1 (address_of seats (process_byte x inputs 0)) x.in_bytes x.in_at) []
    (record-within 1 (address_of seats (process_byte x inputs 0)) x.in_bytes x.in_at n (λ k. (low.0, omega (arith, start, end, high.1, e))))
    (All-nil (IsWithin n)))

pub records-within : (us : List SyncUnit) (ps : List Place) (n : ℕ) → length us ≤ 48 → n ≡ total_of (seats_of (map unit_view us) ps) → AreWithin n (map (records_of (seats_of (map unit_view us) ps)) (seats_of (map unit_view us) ps))
records-within us ps n few e =
    let seats = seats_of (map unit_view us) ps in
    All-map (λ pair. All (IsWithin n) pair) (records_of seats) seats (λ i d l. seat-within seats i n d (units_kept us ps few) l e)

-- what is sent, once each slave's inputs are 0
pub sent-all : (fmmus : List (List Fmmu)) (image bytes : List ℕ) (i : ℕ) → length fmmus ≤ i → length bytes ≡ length image →
    ((k : ℕ) → get_or bytes k 0 ≡ cond (is_input (take i fmmus) (65536 + k)) 0 (get_or image k 0)) → bytes ≡ sent fmmus image
sent-all fmmus image bytes i l len h =
    fill_by_all (sent_byte fmmus image) bytes (length image) 0 len (λ k m. h k ∙ ap (λ w. cond (is_input w (65536 + k)) 0 (get_or image k 0)) (take_all i fmmus l))

-- One tick more.
-- A loop over ticks keeps all of a run as functions of the first slaves and the ticks so far (`right-more`, `row-more`,
-- `bytes-more`, `fault-more`); the call above needs only `append` lemmas.
use Rattle.std.proofs.Common.{◌≡◌, ◌⊎◌, ℕ, zero, suc, ◌+◌, ◌-◌, ◌<◌, List, [], ◌∷◌, ◌++◌, Option, Some, None, length, length-append, map, filter, sum_by, unwrap_or, inl, inr, refl, sym, ap, ◌∙◌, subst, arith, append-nil, append_assoc}
use Rattle.std.specs.List.{flat_map, range_with_len}
use Rattle.std.proofs.lemmas.List.{map-append}
use Rattle.std.proofs.lemmas.List.FromFn.{length-map-range_with_len}
use Rattle.ec_units.specs.declared.slave.Place.{Place}
use Rattle.ec_units.specs.Load.{loads_of}
use Rattle.ec_loads.specs.Cost.{plan_items, tick_cost}
use Rattle.ec_units.specs.declared.units.Units.{Units}
use Rattle.ec_fmmu.specs.declared.mapping.Mapping.{Mapping}
use Rattle.ec_frames.specs.Reading.{Entry}
use Rattle.ec_slave.specs.Logical.{first_of}
use Rattle.ec_frame_builder.specs.Frames.{IsLayoutFor, carries, slot_frame, sent, sent_byte}
use Rattle.ec_frame_builder.proofs.FrameLemmas.{range-one, tick-wire}
use Rattle.ec_frame_builder.proofs.WithinLemmas.{groups-within}
use Rattle.ec_outcome.specs.declared.play.PlayFault.{PlayFault}
use Rattle.ec_player.specs.declared.rows.TickRow.{TickRow}
use Rattle.ec_player.specs.Sent.{Sent, slot_sent, tick_sents, ticks_sents}
use Rattle.ec_player.specs.Faults.{entries_of, first_fault}
use Rattle.ec_player.specs.Images.{byte_in, last_byte, all_entries}
use Rattle.ec_player.specs.Lines.{came_back, slaves_after, AreRight}
use Rattle.ec_player.specs.Rows.{row_of, row_at, rows_of}
use Rattle.ec_player.proofs.LineLemmas.{came-append, after-append, right-append, fault-first, fault-later}

flat_map-append : {X Y : Type 0} (f : X → List Y) (xs ys : List X) → flat_map f (xs ++ ys) ≡ flat_map f xs ++ flat_map f ys
flat_map-append f [] ys = refl
flat_map-append f (x ∷ xs) ys = ap (λ w. f x ++ w) (flat_map-append f xs ys) ∙ sym (append_assoc (f x) (flat_map f xs) (flat_map f ys))

pub ticks-more : (us : Units) (m : Mapping) (image : List ℕ) (t : ℕ) → ticks_sents us m image (t + 1) ≡ ticks_sents us m image t ++ tick_sents us m image t
ticks-more us m image t =
    ap (flat_map (tick_sents us m image)) (range-one t)
    ∙ flat_map-append (tick_sents us m image) (range_with_len 0 t) (t ∷ [])
    ∙ ap (λ w. ticks_sents us m image t ++ w) (append-nil (tick_sents us m image t))

-- ---- the image

last-append : (a : ℕ) (ds es : List Entry) → last_byte a (ds ++ es) ≡ first_of (last_byte a es) (last_byte a ds)
last-append a [] es = last-none (last_byte a es)
  where
    last-none : (o : Option ℕ) → o ≡ first_of o None
    last-none None = refl
    last-none (Some x) = refl
last-append a (d ∷ ds) es = ap (λ w. first_of w (byte_in a d)) (last-append a ds es) ∙ again (last_byte a es) (last_byte a ds) (byte_in a d)
  where
    again : (o p q : Option ℕ) → first_of (first_of o p) q ≡ first_of o (first_of p q)
    again None p q = refl
    again (Some x) p q = refl

unwrap-first : (o p : Option ℕ) (d : ℕ) → unwrap_or (first_of o p) d ≡ unwrap_or o (unwrap_or p d)
unwrap-first None p d = refl
unwrap-first (Some x) p d = refl

-- what came with some frames and then with others
pub bytes-append : (a d : ℕ) (xs ys : List (List ℕ)) → unwrap_or (last_byte a (all_entries (xs ++ ys))) d ≡ unwrap_or (last_byte a (all_entries ys)) (unwrap_or (last_byte a (all_entries xs)) d)
bytes-append a d xs ys =
    ap (λ w. unwrap_or (last_byte a w) d) (flat_map-append entries_of xs ys)
    ∙ ap (λ w. unwrap_or w d) (last-append a (all_entries xs) (all_entries ys))
    ∙ unwrap-first (last_byte a (all_entries ys)) (last_byte a (all_entries xs)) d

-- ---- the ticks

module _ {X : Type 0} (out : X → List ℕ → List ℕ) (next : X → List ℕ → X) where
  pub rows-more : (us : Units) (m : Mapping) (image : List ℕ) (slaves : List X) (before : List Sent) (t : ℕ) →
      rows_of out next us m image slaves before (t + 1) ≡ rows_of out next us m image slaves before t ++ row_at out next us m image slaves before t ∷ []
  rows-more us m image slaves before t =
      ap (map (row_at out next us m image slaves before)) (range-one t)
      ∙ map-append (row_at out next us m image slaves before) (range_with_len 0 t) (t ∷ [])

  -- rows of slaves that got other frames before
  pub rows-after : (us : Units) (m : Mapping) (image : List ℕ) (slaves : List X) (before : List Sent) (n : ℕ) →
      rows_of out next us m image (slaves_after out next slaves before) [] n ≡ rows_of out next us m image slaves before n
  rows-after us m image slaves before n =
      λ i. map (λ t. row_of (tick_sents us m image t) (came_back out next (sym (after-append out next slaves before (ticks_sents us m image t)) i) (tick_sents us m image t))) (range_with_len 0 n)

  -- a fault of the first ticks is one of more ticks
  pub fault-stays : (us : Units) (m : Mapping) (image : List ℕ) (slaves : List X) (n k : ℕ) (t : ℕ) (f : PlayFault) →
      first_fault n (ticks_sents us m image t) (came_back out next slaves (ticks_sents us m image t)) ≡ Some f →
      first_fault n (ticks_sents us m image (k + t)) (came_back out next slaves (ticks_sents us m image (k + t))) ≡ Some f
  fault-stays us m image slaves n zero t f h =
      subst (λ w. first_fault n (ticks_sents us m image w) (came_back out next slaves (ticks_sents us m image w)) ≡ Some f) (let e : t ≡ zero + t = omega arith in e) h
  fault-stays us m image slaves n (suc k) t f h =
      let e : k + t + 1 ≡ suc k + t = omega arith in
      let more = ticks-more us m image (k + t) in
      subst (λ w. first_fault n (ticks_sents us m image w) (came_back out next slaves (ticks_sents us m image w)) ≡ Some f) e
      (subst (λ w. first_fault n w (came_back out next slaves w) ≡ Some f) (sym more)
      (fault-first out next slaves n (ticks_sents us m image (k + t)) (tick_sents us m image (k + t)) f (fault-stays us m image slaves n k t f h)))

  -- what holds of the ticks below t, and of tick t, holds of the ticks below t + 1
  pub right-more : (us : Units) (m : Mapping) (image : List ℕ) (first now : List X) (from n t : ℕ) → now ≡ slaves_after out next first (ticks_sents us m image t) → n ≡ from + length (ticks_sents us m image t) →
      AreRight out next first from (ticks_sents us m image t) → AreRight out next now n (tick_sents us m image t) → AreRight out next first from (ticks_sents us m image (t + 1))
  right-more us m image first now from n t e d h k =
      subst (AreRight out next first from) (sym (ticks-more us m image t))
      (right-append out next first from (ticks_sents us m image t) (tick_sents us m image t) h
      (sym (λ i. first_fault (d i) (tick_sents us m image t) (came_back out next (e i) (tick_sents us m image t))) ∙ k))

  pub after-more : (us : Units) (m : Mapping) (image : List ℕ) (first now later : List X) (t : ℕ) → now ≡ slaves_after out next first (ticks_sents us m image t) →
      later ≡ slaves_after out next now (tick_sents us m image t) → later ≡ slaves_after out next first (ticks_sents us m image (t + 1))
  after-more us m image first now later t e h =
      h ∙ ap (λ w. slaves_after out next w (tick_sents us m image t)) e
      ∙ sym (after-append out next first (ticks_sents us m image t) (tick_sents us m image t))
      ∙ ap (slaves_after out next first) (sym (ticks-more us m image t))

  pub row-more : (us : Units) (m : Mapping) (image : List ℕ) (first now : List X) (rows : List TickRow) (row : TickRow) (t : ℕ) → now ≡ slaves_after out next first (ticks_sents us m image t) →
      rows ≡ rows_of out next us m image first [] t → row ≡ row_of (tick_sents us m image t) (came_back out next now (tick_sents us m image t)) → rows ++ row ∷ [] ≡ rows_of out next us m image first [] (t + 1)
  row-more us m image first now rows row t e h k =
      (λ i. h i ++ (k ∙ ap (λ w. row_of (tick_sents us m image t) (came_back out next w (tick_sents us m image t))) e) i ∷ [])
      ∙ sym (rows-more us m image first [] t)

  pub bytes-more : (us : Units) (m : Mapping) (image : List ℕ) (first now : List X) (a old new t : ℕ) → now ≡ slaves_after out next first (ticks_sents us m image t) →
      old ≡ unwrap_or (last_byte a (all_entries (came_back out next first (ticks_sents us m image t)))) 0 → new ≡ unwrap_or (last_byte a (all_entries (came_back out next now (tick_sents us m image t)))) old →
      new ≡ unwrap_or (last_byte a (all_entries (came_back out next first (ticks_sents us m image (t + 1))))) 0
  bytes-more us m image first now a old new t e h k =
      let before = ticks_sents us m image t in
      let own = tick_sents us m image t in
      k
      ∙ (λ i. unwrap_or (last_byte a (all_entries (came_back out next (e i) own))) (h i))
      ∙ sym (bytes-append a 0 (came_back out next first before) (came_back out next (slaves_after out next first before) own))
      ∙ ap (λ w. unwrap_or (last_byte a (all_entries w)) 0) (sym (came-append out next first before own))
      ∙ ap (λ w. unwrap_or (last_byte a (all_entries (came_back out next first w))) 0) (sym (ticks-more us m image t))

  pub fault-more : (us : Units) (m : Mapping) (image : List ℕ) (first now : List X) (from n t last : ℕ) (f : PlayFault) → now ≡ slaves_after out next first (ticks_sents us m image t) →
      n ≡ from + length (ticks_sents us m image t) → AreRight out next first from (ticks_sents us m image t) → t < last →
      first_fault n (tick_sents us m image t) (came_back out next now (tick_sents us m image t)) ≡ Some f →
      first_fault from (ticks_sents us m image last) (came_back out next first (ticks_sents us m image last)) ≡ Some f
  fault-more us m image first now from n t last f e d h l k =
      let before = ticks_sents us m image t in
      let own = tick_sents us m image t in
      let here = fault-later out next first from before own f h (sym (λ i. first_fault (d i) own (came_back out next (e i) own)) ∙ k) in
      let more = subst (λ w. first_fault from w (came_back out next first w) ≡ Some f) (sym (ticks-more us m image t)) here in
      let split : last - (t + 1) + (t + 1) ≡ last = omega (arith, l) in
      subst (λ w. first_fault from (ticks_sents us m image w) (came_back out next first (ticks_sents us m image w)) ≡ Some f) split
      (fault-stays us m image first from (last - (t + 1)) (t + 1) f more)

pub number-more : (us : Units) (m : Mapping) (image : List ℕ) (from n t : ℕ) → n ≡ from + length (ticks_sents us m image t) → n + length (tick_sents us m image t) ≡ from + length (ticks_sents us m image (t + 1))
number-more us m image from n t h =
    let a = ap length (ticks-more us m image t) in
    let b = length-append (ticks_sents us m image t) (tick_sents us m image t) in
    omega (arith, h, a, b)

-- one of two, the second of which leads to another
pub either : {A B C : Type 0} → A ⊎ B → (B → C) → A ⊎ C
either (inl a) h = inl a
either (inr b) h = inr (h b)

-- the bytes of rows are what the ticks cost
slots-bytes : (m : Mapping) (image : List ℕ) (t : ℕ) (slots : List ℕ) → map (λ (s : Sent). s.bytes) (map (slot_sent m image t) slots) ≡ map (slot_frame m image t) slots
slots-bytes m image t [] = refl
slots-bytes m image t (s ∷ ss) = ap (λ w. slot_frame m image t s ∷ w) (slots-bytes m image t ss)

tick-costs : (us : Units) (m : Mapping) (image : List ℕ) (ps : List Place) (t : ℕ) → IsLayoutFor us ps m → length image ≡ m.total →
    sum_by (λ (s : Sent). length s.bytes + 24) (tick_sents us m image t) ≡ tick_cost (plan_items (loads_of us.units) ps) us.slots t
tick-costs us m image ps t h e =
    let bytes = sent m.fmmus image in
    tick-wire (λ (s : Sent). s.bytes) (tick_sents us m image t) us.units ps m.groups bytes us.slots t h.layout.groups
    (groups-within us.units ps m.groups (length bytes) h.layout.groups (length-map-range_with_len (sent_byte m.fmmus image) 0 (length image) ∙ e ∙ h.layout.total))
    (slots-bytes m image t (filter (carries m.groups t) (range_with_len 0 us.slots)))

bytes-each : (f : ℕ → TickRow) (g : ℕ → ℕ) → ((t : ℕ) → (f t).bytes ≡ g t) → (ts : List ℕ) → map (λ r. r.bytes) (map f ts) ≡ map g ts
bytes-each f g h [] = refl
bytes-each f g h (t ∷ ts) = λ i. h t i ∷ bytes-each f g h ts i

pub rows-cost : {X : Type 0} (out : X → List ℕ → List ℕ) (next : X → List ℕ → X) (us : Units) (m : Mapping) (image : List ℕ) (slaves : List X) (before : List Sent) (ps : List Place) (n : ℕ) →
    IsLayoutFor us ps m → length image ≡ m.total →
    map (λ r. r.bytes) (rows_of out next us m image slaves before n) ≡ map (tick_cost (plan_items (loads_of us.units) ps) us.slots) (range_with_len 0 n)
rows-cost out next us m image slaves before ps n h e =
    bytes-each (row_at out next us m image slaves before) (tick_cost (plan_items (loads_of us.units) ps) us.slots) (λ t. tick-costs us m image ps t h e) (range_with_len 0 n)

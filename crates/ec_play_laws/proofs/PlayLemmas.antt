-- The frames of ticks come back with the counters of their groups.
-- `GroupsPass` and `Passes` are one record for each kind of run: counters, readiness, and for every property of the
-- slaves so far (`went`) who holds its outputs now.
use Rattle.std.proofs.Common.{◌≡◌, ◌≢◌, ℕ, suc, ◌+◌, ◌-◌, ◌^◌, ◌<◌, ◌≤◌, ◌||◌, Bool, true, false, cond, List, [], ◌∷◌, ◌++◌, length, map, take, drop, filter, get_or, sum_by, refl, ap, sym, ◌∙◌, subst, arith, length-drop, All, Some, None, unwrap_or, append-nil}
use Rattle.std.specs.Prelude.{nat_lt}
use Rattle.std.specs.List.{flat_map, range_with_len, list_any}
use Rattle.std.proofs.lemmas.Bool.{false≢true}
use Rattle.std.proofs.lemmas.List.{take_at, drop_at, length-take-le, length-map}
use Rattle.std.proofs.lemmas.List.FromFn.{length-range_with_len, get_or-range_with_len, length-map-range_with_len}
use Rattle.std.proofs.lemmas.List.Sums.{sum_by-cons, sum_by-le}
use Rattle.std.proofs.lemmas.List.Elements.{All-nil, All-head, All-tail, All-cons, All-append, All-filter, All-map, filter_passes}
use Rattle.std.proofs.Math.ListN.{get_or-append}
use Rattle.std.proofs.lemmas.List.{get_or-append-add}
use Rattle.ec_units.specs.declared.slave.Place.{Place}
use Rattle.ec_units.specs.declared.slave.Slave.{Slave}
use Rattle.ec_units.specs.declared.unit.Unit.{Unit as SyncUnit}
use Rattle.ec_units.specs.declared.units.Units.{Units}
use Rattle.ec_units.specs.Load.{load_of}
use Rattle.ec_units.specs.Together.{stations_of}
use Rattle.ec_units.specs.Views.{slave_view, unit_view}
use Rattle.ec_frames.specs.Reading.{Entry}
use Rattle.ec_frames.specs.Written.{total_of, AreBuildable}
use Rattle.ec_frames.specs.IsReadBack.{read_back}
use Rattle.ec_frames.specs.declared.writing.Datagram.{Datagram}
use Rattle.ec_fmmu.specs.declared.seat.Key.{Key}
use Rattle.ec_fmmu.specs.declared.seat.Seat.{Seat}
use Rattle.ec_fmmu.specs.declared.group.Group.{Group}
use Rattle.ec_fmmu.specs.declared.mapping.Mapping.{Mapping}
use Rattle.ec_fmmu.specs.Records.{record_bytes}
use Rattle.ec_fmmu.specs.Seats.{seat, slave_seats, key_at, seats_from, seats_of, size, seat_counter, AreKept}
use Rattle.ec_fmmu.specs.Layout.{total_of as bytes_total, IsGroup}
use Rattle.ec_fmmu.specs.Mappings.{records_of}
use Rattle.ec_fmmu.proofs.SumLemmas.{sum-filter}
use Rattle.ec_fmmu.proofs.SeatLemmas.{units_kept, sum_most}
use Rattle.ec_fmmu.proofs.AddressLemmas.{before_it, address-output, address-input, total-sum}
use Rattle.ec_slave.specs.Access.{put}
use Rattle.ec_slave.specs.Journey.{through, journey, arrived, passed}
use Rattle.ec_frame_builder.specs.Frames.{IsLayoutFor, going, goes, carries, datagram_of, data_of, frame_of, sent, sent_byte}
use Rattle.ec_frame_builder.specs.Within.{GroupsWithin}
use Rattle.ec_frame_builder.proofs.FrameLemmas.{data-length, none-carried}
use Rattle.ec_frame_builder.proofs.StartLemmas.{length-seats}
use Rattle.ec_frame_builder.proofs.GoingLemmas.{going-payload}
use Rattle.ec_frame_builder.proofs.WithinLemmas.{groups-within}
use Rattle.ec_player.specs.Sent.{Sent, slot_sent, tick_sents}
use Rattle.ec_slave_laws.specs.Datagrams.{framed, AreWhole, entry_out, entry_next}
use Rattle.ec_slave_laws.proofs.ReadLemmas.{written-framed, back-whole, framed-reads}
use Rattle.ec_slave_laws.proofs.LineLemmas.{through-is, whole-is}
use Rattle.ec_frames.proofs.ReadingFrames.{read_is}
use Rattle.ec_slave.specs.Logical.{first_of}
use Rattle.ec_slave.specs.Step.{frame_after, memory_after}
use Rattle.ec_player.specs.Faults.{read_entries, entries_of}
use Rattle.ec_player.specs.Images.{last_byte, all_entries}
use Rattle.ec_player.specs.Lines.{came_back, slaves_after}
use Rattle.ec_player.proofs.LineLemmas.{came-append}
use Rattle.ec_player.proofs.TickLemmas.{bytes-append}
use Rattle.ec_play_laws.proofs.TellLemmas.{in_address, AreasApart, told-line, stays-line}
use Rattle.ec_play_laws.specs.Started.{AreMemories, with_station, with_records, started}
use Rattle.ec_play_laws.specs.IsReady.{IsReady, AreReady}
use Rattle.ec_play_laws.proofs.StartLemmas.{length-named}
use Rattle.ec_play_laws.proofs.KeptLemmas.{length-put}
use Rattle.ec_play_laws.proofs.RangeLemmas.{all-ones}
use Rattle.ec_play_laws.proofs.FmmuLemmas.{Fits}
use Rattle.ec_play_laws.proofs.DataLemmas.{AreServed, served-weaker, served-line, sent-carries}
use Rattle.ec_play_laws.proofs.TickLemmas.{is_in, gain_of, lrw, lrw-line}
use Rattle.ec_play_laws.proofs.StartLaw.{pair-length}
use Rattle.ec_play_laws.proofs.RunLemmas.{Runs, runs-none, runs-append, runs-first}

-- ---- the datagrams of a frame

abbrev pub lrws : ℕ → List ℕ → List Group → List Entry
lrws i bytes [] = []
lrws i bytes (g ∷ gs) = lrw i g.start 0 (data_of bytes g) ∷ lrws (suc i) bytes gs

abbrev LiesIn : ℕ → Group → Type 0
LiesIn n g = (1 ≤ g.period) × (65536 ≤ g.start) × (g.start + g.len ≤ 65536 + n)

length-data : (bytes : List ℕ) (g : Group) → LiesIn (length bytes) g → length (data_of bytes g) ≡ g.len
length-data bytes g h =
    let low = h.1 in
    let high = h.2 in
    length-take-le g.len (drop (g.start - 65536) bytes) (omega (arith, low, high, length-drop (g.start - 65536) bytes))

back-lrws : (i : ℕ) (bytes : List ℕ) (gs : List Group) → GroupsWithin (length bytes) gs → read_back i (map datagram_of gs) (flat_map (data_of bytes) gs) ≡ lrws i bytes gs
back-lrws i bytes [] h = refl
back-lrws i bytes (g ∷ gs) h =
    let own = length-data bytes g (All-head (LiesIn (length bytes)) g gs h) in
    let rest = flat_map (data_of bytes) gs in
    let t = take_at (data_of bytes g) rest g.len own in
    let d = drop_at (data_of bytes g) rest g.len own in
    let more = ap (read_back (suc i) (map datagram_of gs)) d ∙ back-lrws (suc i) bytes gs (All-tail (LiesIn (length bytes)) g gs h) in
    λ j. lrw i g.start 0 (t j) ∷ more j

-- ---- counters

gain-most : (b o i : Bool) → cond b (cond o 2 0 + cond i 1 0) 0 ≤ 3
gain-most true true true = omega arith
gain-most true true false = omega arith
gain-most true false true = omega arith
gain-most true false false = omega arith
gain-most false o i = omega arith

sum-gains : (seats : List Seat) (g : Group) → IsGroup seats g → sum_by (gain_of g) seats ≡ g.counter
sum-gains seats g h = sym (h.counter ∙ sum-filter seat_counter (is_in g) seats)

few-gains : (seats : List Seat) (g : Group) → length seats ≤ 384 → 0 + sum_by (gain_of g) seats < 65536
few-gains seats g few =
    let a = sum_by-le (gain_of g) 3 seats (λ i d l. gain-most (is_in g (get_or seats i d)) (nat_lt 0 (get_or seats i d).out_bytes) (nat_lt 0 (get_or seats i d).in_bytes)) in
    omega (arith, a, few)

-- one of these groups has the slave
abbrev pub has_group : List Group → Seat → Bool
has_group gs s = list_any (λ g. is_in g s) gs

move-or : (a b c : Bool) → ((a || b) || c) ≡ true → (b || (a || c)) ≡ true
move-or true true c h = refl
move-or true false c h = refl
move-or false true c h = refl
move-or false false c h = h

-- an input of a slave, as its memory holds it
abbrev pub held : List Seat → ℕ → ℕ → Seat → List (List ℕ) → ℕ
held seats n k d ms = get_or (get_or ms n []) ((get_or seats n d).in_at + k) 0

join-told : (p q : Bool) (v : ℕ) → first_of (cond p (Some v) None) (cond q (Some v) None) ≡ cond (q || p) (Some v) None
join-told true true v = refl
join-told true false v = refl
join-told false true v = refl
join-told false false v = refl

join-shown : (p q : Bool) (v e : ℕ) → cond q v (cond p v e) ≡ cond (p || q) v e
join-shown true true v e = refl
join-shown true false v e = refl
join-shown false true v e = refl
join-shown false false v e = refl

unwrap-told : (p : Bool) (v e : ℕ) → unwrap_or (cond p (Some v) None) e ≡ cond p v e
unwrap-told true v e = refl
unwrap-told false v e = refl

pub record GroupsPass (seats : List Seat) (image : List ℕ) (gs : List Group) (ms : List (List ℕ)) (ds : List Entry) (counters : List ℕ) : Type 0 where
  pub counted : map (λ d. d.counter) (journey entry_out entry_next ms ds) ≡ counters
  pub ready : AreReady seats seats (arrived entry_out entry_next ms ds)
  pub served : (went : Seat → Bool) → AreServed seats image went seats ms → AreServed seats image (λ s. has_group gs s || went s) seats (arrived entry_out entry_next ms ds)
  pub told : (n k : ℕ) (d : Seat) → n < length seats → k < (get_or seats n d).in_bytes →
      last_byte (in_address seats (get_or seats n d) k) (journey entry_out entry_next ms ds) ≡ cond (has_group gs (get_or seats n d)) (Some (held seats n k d ms)) None
  pub stays : (n k : ℕ) (d : Seat) → n < length seats → k < (get_or seats n d).in_bytes → held seats n k d (arrived entry_out entry_next ms ds) ≡ held seats n k d ms

groups-pass : (seats : List Seat) (image : List ℕ) (gs : List Group) (ms : List (List ℕ)) (i : ℕ) → AreKept seats → All (Fits seats) seats → All AreasApart seats → All (IsGroup seats) gs → GroupsWithin (length image) gs →
    AreReady seats seats ms → GroupsPass seats image gs ms (lrws i (sent (map (records_of seats) seats) image) gs) (map (λ g. g.counter) gs)
groups-pass seats image [] ms i kept fits aparts groups inside ready = record { counted = refl; ready = ready; served = λ went h. h; told = λ n k d l m. refl; stays = λ n k d l m. refl }
groups-pass seats image (g ∷ gs) ms i kept fits aparts groups inside ready =
    let bytes = sent (map (records_of seats) seats) image in
    let size : length bytes ≡ length image = length-map-range_with_len (sent_byte (map (records_of seats) seats) image) 0 (length image) in
    let group = All-head (IsGroup seats) g gs groups in
    let own = All-head (LiesIn (length image)) g gs inside in
    let low = own.1 in
    let high = own.2 in
    let len = length-data bytes g (own.0, low, (let z : g.start + g.len ≤ 65536 + length bytes = omega (arith, high, size) in z)) in
    let few = few-gains seats g kept.few in
    let d = lrw i g.start 0 (data_of bytes g) in
    let here = lrw-line seats g seats ms (data_of bytes g) i 0 kept (all-ones seats) fits group ready len few in
    let rest = groups-pass seats image gs (passed entry_out entry_next ms d) (suc i) kept fits aparts (All-tail (IsGroup seats) g gs groups) (All-tail (LiesIn (length image)) g gs inside) here.ready in
    let sum : 0 + sum_by (gain_of g) seats ≡ g.counter = omega (arith, sum-gains seats g group) in
    record {
      counted = λ j. (here.counted ∙ sum) j ∷ rest.counted j;
      ready = rest.ready;
      served = λ went h.
          served-weaker seats image (λ s. has_group gs s || (is_in g s || went s)) (λ s. (is_in g s || has_group gs s) || went s) seats (arrived entry_out entry_next (passed entry_out entry_next ms d) (lrws (suc i) bytes gs))
          (λ s t. move-or (is_in g s) (has_group gs s) (went s) t)
          (rest.served (λ s. is_in g s || went s)
          (served-line seats image went g seats ms (data_of bytes g) i 0 kept (all-ones seats) fits group ready len few (sent-carries seats image g kept (all-ones seats) group low high) h));
      told = λ n k x l m.
          let y = get_or seats n x in
          let same = stays-line seats g seats ms (data_of bytes g) i 0 n k x kept (all-ones seats) fits aparts group ready len few l m in
          (λ j. first_of ((rest.told n k x l m ∙ ap (λ v. cond (has_group gs y) (Some v) None) same) j) (told-line seats g ms (data_of bytes g) i n k x kept (all-ones seats) fits group ready len few l m j))
          ∙ join-told (has_group gs y) (is_in g y) (held seats n k x ms);
      stays = λ n k x l m. rest.stays n k x l m ∙ stays-line seats g seats ms (data_of bytes g) i 0 n k x kept (all-ones seats) fits aparts group ready len few l m;
    }

-- ---- frames that can be built

short-each : (ds : List Datagram) → total_of ds ≤ 1498 → All (λ d. d.len ≤ 1486) ds
short-each [] h = All-nil (λ d. d.len ≤ 1486)
short-each (d ∷ ds) h =
    let sum = sum_by-cons (λ (x : Datagram). x.len + 12) d ds in
    All-cons (λ d. d.len ≤ 1486) d ds (omega (arith, sum, h)) (short-each ds (omega (arith, sum, h)))

none-goes : (t s : ℕ) (gs : List Group) → carries gs t s ≡ true → map datagram_of (going gs t s) ≢ []
none-goes t s gs h e = absurd (false≢true (sym (none-carried t s gs (sym (length-map (going gs t s) datagram_of) ∙ ap length e)) ∙ h))

-- ---- the whole line

-- a plan with its layout, and an image for it
pub record IsSet (us : Units) (ps : List Place) (m : Mapping) (image : List ℕ) : Type 0 where
  pub laid : IsLayoutFor us ps m
  pub sized : length image ≡ m.total

abbrev pub seats_in : Units → List Place → List Seat
seats_in us ps = seats_of (map unit_view us.units) ps

pub kept-in : (us : Units) (ps : List Place) → AreKept (seats_in us ps)
kept-in us ps = units_kept us.units ps us.unit_count.1

abbrev IsLow : Seat → Type 0
IsLow s = (4096 ≤ s.out_at) × (4096 ≤ s.in_at)

low-slaves : (k : Key) (n i : ℕ) (ss : List Slave) → All IsLow (slave_seats k n i (map slave_view ss))
low-slaves k n i [] = All-nil IsLow
low-slaves k n i (s ∷ ss) = All-cons IsLow (seat k n i (slave_view s)) (slave_seats k n (suc i) (map slave_view ss)) (s.out_area.0, s.in_area.0) (low-slaves k n (suc i) ss)

low-seats : (n : ℕ) (us : List SyncUnit) (ps : List Place) → All IsLow (seats_from n (map unit_view us) ps)
low-seats n [] ps = All-nil IsLow
low-seats n (u ∷ us) [] = All-nil IsLow
low-seats n (u ∷ us) (p ∷ ps) =
    All-append IsLow (slave_seats (key_at (unit_view u) p) n 0 (map slave_view u.slaves)) (seats_from (suc n) (map unit_view us) ps) (low-slaves (key_at (unit_view u) p) n 0 u.slaves) (low-seats (suc n) us ps)

slave-aparts : (k : Key) (n i : ℕ) (ss : List Slave) → All AreasApart (slave_seats k n i (map slave_view ss))
slave-aparts k n i [] = All-nil AreasApart
slave-aparts k n i (s ∷ ss) = All-cons AreasApart (seat k n i (slave_view s)) (slave_seats k n (suc i) (map slave_view ss)) s.apart (slave-aparts k n (suc i) ss)

seat-aparts : (n : ℕ) (us : List SyncUnit) (ps : List Place) → All AreasApart (seats_from n (map unit_view us) ps)
seat-aparts n [] ps = All-nil AreasApart
seat-aparts n (u ∷ us) [] = All-nil AreasApart
seat-aparts n (u ∷ us) (p ∷ ps) =
    All-append AreasApart (slave_seats (key_at (unit_view u) p) n 0 (map slave_view u.slaves)) (seats_from (suc n) (map unit_view us) ps) (slave-aparts (key_at (unit_view u) p) n 0 u.slaves) (seat-aparts (suc n) us ps)

aparts-in : (us : Units) (ps : List Place) → All AreasApart (seats_in us ps)
aparts-in us ps = seat-aparts 0 us.units ps

pub fits-in : (us : Units) (ps : List Place) → All (Fits (seats_in us ps)) (seats_in us ps)
fits-in us ps = λ i d l.
    let seats = seats_in us ps in
    let kept = kept-in us ps in
    let s = get_or seats i d in
    let one = all-ones seats i d l in
    let low = low-seats 0 us.units ps i d l in
    let high = kept.areas i d l in
    let few = sum_most (before_it s) seats kept.few kept.areas in
    let a = address-output seats s one.0 0 one.1 one.2 kept.rising (omega arith) in
    let b = address-input seats s one.0 0 one.1 one.2 kept.rising (omega arith) in
    record {
      out_low = low.0;
      in_low = low.1;
      out_high = high.0;
      in_high = high.1;
      out_top = omega (arith, a, few, high.0);
      in_top = omega (arith, b, few, high.0, high.1);
    }

few-bytes : (us : Units) (ps : List Place) → bytes_total (seats_in us ps) < 2 ^ 31
few-bytes us ps =
    let seats = seats_in us ps in
    let kept = kept-in us ps in
    let few = sum_most (λ s. true) seats kept.few kept.areas in
    let e : sum_by size (filter (λ s. true) seats) ≡ sum_by size seats = sum-filter size (λ s. true) seats in
    omega (arith, few, e, total-sum seats)

-- frames that come back right, and leave the slaves ready
pub record Passes (seats : List Seat) (image : List ℕ) (serves : Seat → Bool) (ms : List (List ℕ)) (sents : List Sent) : Type 0 where
  pub after : List (List ℕ)
  pub runs : Runs ms sents after
  pub ready : AreReady seats seats after
  pub served : (went : Seat → Bool) → AreServed seats image went seats ms → AreServed seats image (λ s. serves s || went s) seats after
  pub told : (n k : ℕ) (d : Seat) → n < length seats → k < (get_or seats n d).in_bytes → (e : ℕ) →
      unwrap_or (last_byte (in_address seats (get_or seats n d) k) (all_entries (came_back frame_after memory_after ms sents))) e ≡ cond (serves (get_or seats n d)) (held seats n k d ms) e
  pub stays : (n k : ℕ) (d : Seat) → n < length seats → k < (get_or seats n d).in_bytes → held seats n k d after ≡ held seats n k d ms

passes-none : (seats : List Seat) (image : List ℕ) (ms : List (List ℕ)) → AreReady seats seats ms → Passes seats image (λ s. false) ms []
passes-none seats image ms ready = record { after = ms; runs = runs-none ms; ready = ready; served = λ went h. h; told = λ n k d l m e. refl; stays = λ n k d l m. refl }

passes-append : (seats : List Seat) (image : List ℕ) (p q : Seat → Bool) (ms : List (List ℕ)) (xs ys : List Sent) (h : Passes seats image p ms xs) → Passes seats image q h.after ys →
    Passes seats image (λ s. p s || q s) ms (xs ++ ys)
passes-append seats image p q ms xs ys h k = record {
  after = k.after;
  runs = runs-append ms h.after k.after xs ys h.runs k.runs;
  ready = k.ready;
  served = λ went w.
      served-weaker seats image (λ s. q s || (p s || went s)) (λ s. (p s || q s) || went s) seats k.after (λ s t. move-or (p s) (q s) (went s) t) (k.served (λ s. p s || went s) (h.served went w));
  told = λ n j d l m e.
      let a = in_address seats (get_or seats n d) j in
      let x = get_or seats n d in
      let shown = λ (bs : List (List ℕ)) (e : ℕ). unwrap_or (last_byte a (all_entries bs)) e in
      ap (λ bs. shown bs e) (came-append frame_after memory_after ms xs ys)
      ∙ bytes-append a e (came_back frame_after memory_after ms xs) (came_back frame_after memory_after (slaves_after frame_after memory_after ms xs) ys)
      ∙ ap (λ w. shown (came_back frame_after memory_after w ys) (shown (came_back frame_after memory_after ms xs) e)) h.runs.left
      ∙ k.told n j d l m (shown (came_back frame_after memory_after ms xs) e)
      ∙ (λ i. cond (q x) (h.stays n j d l m i) (h.told n j d l m e i))
      ∙ join-shown (p x) (q x) (held seats n j d ms) e;
  stays = λ n j d l m. k.stays n j d l m ∙ h.stays n j d l m;
}

abbrev IsBusy : Units → Mapping → ℕ → ℕ → Type 0
IsBusy us m t s = (s < us.slots) × (carries m.groups t s ≡ true)

-- the slaves of the groups that go in one of these slots
abbrev pub served_in : Mapping → ℕ → List ℕ → Seat → Bool
served_in m t ss x = list_any (λ s. has_group (going m.groups t s) x) ss

slot-passes : (us : Units) (ps : List Place) (m : Mapping) (image : List ℕ) (t s : ℕ) (ms : List (List ℕ)) → IsSet us ps m image → IsBusy us m t s → AreReady (seats_in us ps) (seats_in us ps) ms →
    Passes (seats_in us ps) image (has_group (going m.groups t s)) ms (slot_sent m image t s ∷ [])
unfolding frame_of
slot-passes us ps m image t s ms set here ready =
    let seats = seats_in us ps in
    let bytes = sent m.fmmus image in
    let own = sent (map (records_of seats) seats) image in
    let same : own ≡ bytes = ap (λ fs. sent fs image) (sym set.laid.layout.fmmus) in
    let gs = going m.groups t s in
    let groups = set.laid.layout.groups in
    let size : length bytes ≡ bytes_total seats = length-map-range_with_len (sent_byte m.fmmus image) 0 (length image) ∙ set.sized ∙ set.laid.layout.total in
    let inside : GroupsWithin (length bytes) gs = All-filter (goes t s) (LiesIn (length bytes)) m.groups (groups-within us.units ps m.groups (length bytes) groups size) in
    let within : GroupsWithin (length image) gs = subst (λ n. GroupsWithin n gs) (length-map-range_with_len (sent_byte m.fmmus image) 0 (length image)) inside in
    let each : All (IsGroup seats) gs = All-filter (goes t s) (IsGroup seats) m.groups groups.each in
    let pass : GroupsPass seats image gs ms (lrws 0 bytes gs) (map (λ g. g.counter) gs) =
    subst (λ b. GroupsPass seats image gs ms (lrws 0 b gs) (map (λ g. g.counter) gs)) same (groups-pass seats image gs ms 0 (kept-in us ps) (fits-in us ps) (aparts-in us ps) each within ready) in
    let ds = map datagram_of gs in
    let load = flat_map (data_of bytes) gs in
    let sum = data-length bytes gs inside in
    let total : total_of ds ≤ 1498 = let e = going-payload us.units ps m.groups t s groups in let f = set.laid.legal.fits t s here.0 in omega (arith, e, f) in
    let buildable : AreBuildable ds = record { some_datagram = none-goes t s m.groups here.1; short = short-each ds total; room = total } in
    let top : bytes_total seats < 2 ^ 31 = few-bytes us ps in
    let wide : All (λ d. d.address < 2 ^ 32) ds = All-map (λ d. d.address < 2 ^ 32) datagram_of gs (λ i d l. let h = (inside i d l).2 in omega (arith, h, top, size)) in
    let back = back-lrws 0 bytes gs inside in
    let now = arrived entry_out entry_next ms (lrws 0 bytes gs) in
    let is = written-framed ds load sum ∙ ap framed back in
    let whole = subst AreWhole back (back-whole ds load buildable wide sum) in
    let es = journey entry_out entry_next ms (lrws 0 bytes gs) in
    let none : List Sent = [] in
    let there : entries_of (through frame_after memory_after ms (slot_sent m image t s).bytes) ≡ es =
    ap (λ f. entries_of (through frame_after memory_after ms f)) is
    ∙ ap entries_of (through-is ms (lrws 0 bytes gs) whole)
    ∙ ap read_entries ((read_is (framed es) es).1 (framed-reads es (whole-is ms (lrws 0 bytes gs) whole))) in
    record {
      after = now;
      runs = runs-first ms now now (slot_sent m image t s) none (lrws 0 bytes gs) is whole pass.counted refl (runs-none now);
      ready = pass.ready;
      served = pass.served;
      told = λ n k d l m' e.
          ap (λ w. unwrap_or (last_byte (in_address seats (get_or seats n d) k) w) e) (append-nil (entries_of (through frame_after memory_after ms (slot_sent m image t s).bytes)) ∙ there)
          ∙ ap (λ w. unwrap_or w e) (pass.told n k d l m')
          ∙ unwrap-told (has_group gs (get_or seats n d)) (held seats n k d ms) e;
      stays = pass.stays;
    }

slots-pass : (us : Units) (ps : List Place) (m : Mapping) (image : List ℕ) (t : ℕ) (ss : List ℕ) (ms : List (List ℕ)) → IsSet us ps m image → All (IsBusy us m t) ss → AreReady (seats_in us ps) (seats_in us ps) ms →
    Passes (seats_in us ps) image (served_in m t ss) ms (map (slot_sent m image t) ss)
slots-pass us ps m image t [] ms set busy ready = passes-none (seats_in us ps) image ms ready
slots-pass us ps m image t (s ∷ ss) ms set busy ready =
    let here = slot-passes us ps m image t s ms set (All-head (IsBusy us m t) s ss busy) ready in
    passes-append (seats_in us ps) image (has_group (going m.groups t s)) (served_in m t ss) ms (slot_sent m image t s ∷ []) (map (slot_sent m image t) ss) here
    (slots-pass us ps m image t ss here.after set (All-tail (IsBusy us m t) s ss busy) here.ready)

-- the slots that carry something
abbrev pub busy_in : Units → Mapping → ℕ → List ℕ
busy_in us m t = filter (carries m.groups t) (range_with_len 0 us.slots)

tick-passes : (us : Units) (ps : List Place) (m : Mapping) (image : List ℕ) (t : ℕ) (ms : List (List ℕ)) → IsSet us ps m image → AreReady (seats_in us ps) (seats_in us ps) ms →
    Passes (seats_in us ps) image (served_in m t (busy_in us m t)) ms (tick_sents us m image t)
tick-passes us ps m image t ms set ready =
    let below : All (λ s. s < us.slots) (range_with_len 0 us.slots) = λ i d l.
    let n = length-range_with_len 0 us.slots in
    let e : get_or (range_with_len 0 us.slots) i d ≡ 0 + i = get_or-range_with_len 0 us.slots i d (omega (arith, l, n)) in
    omega (arith, l, n, e) in
    let some = All-filter (carries m.groups t) (λ s. s < us.slots) (range_with_len 0 us.slots) below in
    let busy = filter_passes (carries m.groups t) (range_with_len 0 us.slots) in
    slots-pass us ps m image t (busy_in us m t) ms set (λ i d l. (some i d l, busy i d l)) ready

-- the slaves that a tick serves
abbrev pub serves : Units → Mapping → List ℕ → Seat → Bool
serves us m ts x = list_any (λ t. served_in m t (busy_in us m t) x) ts

pub ticks-pass : (us : Units) (ps : List Place) (m : Mapping) (image : List ℕ) (ts : List ℕ) (ms : List (List ℕ)) → IsSet us ps m image → AreReady (seats_in us ps) (seats_in us ps) ms →
    Passes (seats_in us ps) image (serves us m ts) ms (flat_map (tick_sents us m image) ts)
ticks-pass us ps m image [] ms set ready = passes-none (seats_in us ps) image ms ready
ticks-pass us ps m image (t ∷ ts) ms set ready =
    let here = tick-passes us ps m image t ms set ready in
    passes-append (seats_in us ps) image (served_in m t (busy_in us m t)) (serves us m ts) ms (tick_sents us m image t) (flat_map (tick_sents us m image) ts) here
    (ticks-pass us ps m image ts here.after set here.ready)

-- ---- started slaves are ready

put-at : (at : ℕ) (y l : List ℕ) (k : ℕ) → at ≤ length l → k < length y → get_or (put at y l) (at + k) 0 ≡ get_or y k 0
put-at at y l k h less =
    let n = length-take-le at l h in
    let rest = drop (length y) (drop at l) in
    ap (λ i. get_or (take at l ++ (y ++ rest)) i 0) (let z : at + k ≡ length (take at l) + k = omega (arith, n) in z)
    ∙ get_or-append-add (take at l) (y ++ rest) k 0
    ∙ get_or-append y rest 0 k less

one-ready : (seats : List Seat) (x : Seat) (s : ℕ) (m : List ℕ) → length m ≡ 65536 → IsReady seats x (with_records (records_of seats x) (with_station s m))
one-ready seats x s m h =
    let bs = flat_map record_bytes (records_of seats x) in
    let len : length bs ≡ 32 = pair-length seats x in
    let named = length-named s m h in
    record {
      whole = length-put 1536 bs (with_station s m) (omega (arith, named, h, len)) ∙ named ∙ h;
      records = λ k l. put-at 1536 bs (with_station s m) k (omega (arith, named, h)) (omega (arith, l, len));
    }

started-ready : (seats xs : List Seat) (ss : List ℕ) (ms : List (List ℕ)) → length xs ≡ length ss → length ms ≡ length ss → AreMemories ms → AreReady seats xs (started ss (map (records_of seats) xs) ms)
started-ready seats [] [] ms a b whole = tt
started-ready seats [] (s ∷ ss) ms a b whole = absurd (omega (arith, a))
started-ready seats (x ∷ xs) [] ms a b whole = absurd (omega (arith, a))
started-ready seats (x ∷ xs) (s ∷ ss) [] a b whole = absurd (omega (arith, b))
started-ready seats (x ∷ xs) (s ∷ ss) (m ∷ ms) a b whole =
    (one-ready seats x s m (All-head (λ m. length m ≡ 65536) m ms whole), started-ready seats xs ss ms (omega (arith, a)) (omega (arith, b)) (All-tail (λ m. length m ≡ 65536) m ms whole))

pub ready-in : (us : Units) (ps : List Place) (m : Mapping) (image : List ℕ) (ms : List (List ℕ)) → IsSet us ps m image → AreMemories ms → length ms ≡ length (stations_of us.units) →
    AreReady (seats_in us ps) (seats_in us ps) (started (stations_of us.units) m.fmmus ms)
ready-in us ps m image ms set whole even =
    let seats = seats_in us ps in
    let each : length seats ≡ length (stations_of us.units) = length-seats 0 us.units ps (set.laid.legal.whole ∙ length-map us.units load_of) in
    subst (λ fs. AreReady seats seats (started (stations_of us.units) fs ms)) (sym set.laid.layout.fmmus) (started-ready seats seats (stations_of us.units) ms each even whole)

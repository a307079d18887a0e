-- Lines and records, one after the other.
-- Lines of two lists side by side keep `text ++ lines (drop i xs) (drop i ys) ≡ initial ++ lines xs ys`. A lemma here
-- names no term of the code: it leaves each number to a premise at its end, which `omega` proves (`record_parts`,
-- `records_step`, `whole_text`), so that right bodies of another shape prove too.
use Rattle.std.proofs.Common.{◌≡◌, ℕ, suc, ◌+◌, ◌-◌, ◌/◌, ◌%◌, ◌≤◌, ◌<◌, Bool, List, [], ◌∷◌, ◌++◌, length, map, filter, take, get_or, replicate, sum_by, All, refl, sym, ap, ◌∙◌, subst, arith, append_assoc, length-append}
use Rattle.std.specs.List.{flat_map, range_with_len}
use Rattle.std.proofs.lemmas.List.{flat_map_more, get_or-map, length-replicate, length-map, take_more}
use Rattle.std.proofs.lemmas.List.FromFn.{length-map-range_with_len}
use Rattle.std.proofs.lemmas.List.Sums.{length-filter, count_by-le-length, sum_by_push}
use Rattle.std.proofs.lemmas.List.Elements.{All-nil, All-cons}
use Rattle.byteorder.specs.Endian.{little_bytes}
use Rattle.ec_frames.specs.declared.writing.Datagram.{Datagram}
use Rattle.ec_frames.specs.Written.{written, padded, total_of, ethernet_header, datagrams_bytes}
use Rattle.ec_units.specs.declared.slave.Place.{Place}
use Rattle.ec_units.specs.Views.{SlaveView, UnitView, UnitsView, view_loads}
use Rattle.ec_fmmu.specs.declared.group.Group.{Group}
use Rattle.ec_fmmu.specs.declared.seat.Key.{Key}
use Rattle.ec_fmmu.specs.Seats.{slave_seats, key_at, seats_from}
use Rattle.ec_frame_builder.specs.Frames.{datagram_of, data_of, frame_of}
use Rattle.ec_frame_builder.proofs.FrameLemmas.{range-one}
use Rattle.ec_hyper.specs.Lcm.{lcm_of}
use Rattle.ec_units.specs.Load.{periods_of}
use Rattle.ec_wire.specs.Wire.{ns_of}
use Rattle.ec_fmmu.specs.declared.fmmu.Fmmu.{Fmmu}
use Rattle.ec_fmmu.specs.declared.mapping.Mapping.{Mapping}
use Rattle.ec_frame_text.specs.Lines.{stations_in, fmmu_lines, frame_line, frame_lines, wire_bytes, tick_lines, frames_text}
use Rattle.ec_frame_text.specs.Captures.{four_bytes, file_header, frame_record, stamp, tick_records, capture}

-- one number more
pub range_step : {A : Type 0} (f : ℕ → List A) (bs : List A) (n : ℕ) → bs ++ flat_map f (range_with_len 0 (n + 1)) ≡ (bs ++ flat_map f (range_with_len 0 n)) ++ f n
range_step f bs n = ap (λ l. bs ++ flat_map f l) (range-one n) ∙ sym (flat_map_more f bs (range_with_len 0 n) n)

-- parts that are added one by one
pub five_parts : (n0 n1 n2 n3 n4 n5 a b c d e : List ℕ) → n1 ≡ n0 ++ a → n2 ≡ n1 ++ b → n3 ≡ n2 ++ c → n4 ≡ n3 ++ d → n5 ≡ n4 ++ e → n5 ≡ n0 ++ (a ++ (b ++ (c ++ (d ++ e))))
five_parts n0 n1 n2 n3 n4 n5 a b c d e p q r s t =
    let all : n5 ≡ (((((n0 ++ a) ++ b) ++ c) ++ d) ++ e) = cc in
    all ∙ (simp append_assoc)

-- the parts of a record, whose numbers are those of its frame
pub record_parts : (ns : ℕ) (n0 n1 n2 n3 n4 n5 frame : List ℕ) (s n held sent : ℕ) → n1 ≡ n0 ++ four_bytes s → n2 ≡ n1 ++ four_bytes n → n3 ≡ n2 ++ four_bytes held → n4 ≡ n3 ++ four_bytes sent → n5 ≡ n4 ++ frame
    → s ≡ ns / 1000000000 → n ≡ ns % 1000000000 → held ≡ length frame → sent ≡ length frame → n5 ≡ n0 ++ frame_record ns frame
record_parts ns n0 n1 n2 n3 n4 n5 frame s n held sent p q r t u es en eh et =
    five_parts n0 n1 n2 n3 n4 n5 (four_bytes s) (four_bytes n) (four_bytes held) (four_bytes sent) frame p q r t u
    ∙ (λ i. n0 ++ (four_bytes (es i) ++ (four_bytes (en i) ++ (four_bytes (eh i) ++ (four_bytes (et i) ++ frame)))))

pub three_parts : (n0 n1 n2 n3 a b c : List ℕ) → n1 ≡ n0 ++ a → n2 ≡ n1 ++ b → n3 ≡ n2 ++ c → n3 ≡ n0 ++ (a ++ (b ++ c))
three_parts n0 n1 n2 n3 a b c p q r =
    let all : n3 ≡ ((n0 ++ a) ++ b) ++ c = cc in
    all ∙ (simp append_assoc)

-- lines of frames that are made of their slots
pub made_lines : (t : ℕ) (make : ℕ → List ℕ) (ss : List ℕ) → frame_lines t ss (map make ss) ≡ flat_map (λ s. frame_line t s (make s)) ss
made_lines t make [] = refl
made_lines t make (s ∷ ss) = ap (λ w. frame_line t s (make s) ++ w) (made_lines t make ss)

-- a frame has at least 60 bytes
padded_long : (bytes : List ℕ) → 60 ≤ length (padded bytes)
padded_long bytes = let a = length-append bytes (replicate (60 - length bytes) 0) in let b = length-replicate {A = ℕ} (60 - length bytes) 0 in omega (arith, a, b)

written_long : (ds : List Datagram) (bytes : List ℕ) → 60 ≤ length (written ds bytes)
unfolding written
written_long ds bytes = padded_long (ethernet_header ++ little_bytes 2 (total_of ds + 4096) ++ datagrams_bytes 0 ds bytes)

pub frame_long : (groups : List Group) (bytes : List ℕ) → 60 ≤ length (frame_of groups bytes)
unfolding frame_of
frame_long groups bytes = written_long (map datagram_of groups) (flat_map (data_of bytes) groups)

-- frames that are made so have
first_same : {x y : List ℕ} {xs ys : List (List ℕ)} → x ∷ xs ≡ y ∷ ys → x ≡ y
first_same e = cc

rest_same : {x y : List ℕ} {xs ys : List (List ℕ)} → x ∷ xs ≡ y ∷ ys → xs ≡ ys
rest_same e = cc

none_made : {A : Type 0} (x : List ℕ) (xs : List (List ℕ)) → x ∷ xs ≡ [] → A
none_made x xs e = cc

all_long : {F : Type 0} (items : F → List ℕ) (frames : List F) (make : ℕ → List ℕ) (ss : List ℕ) → ((s : ℕ) → 60 ≤ length (make s)) → map items frames ≡ map make ss → All (λ f. 60 ≤ length (items f)) frames
all_long items [] make ss h e = All-nil (λ f. 60 ≤ length (items f))
all_long items (f ∷ fs) make [] h e = none_made (items f) (map items fs) e
all_long items (f ∷ fs) make (s ∷ ss) h e = All-cons (λ f. 60 ≤ length (items f)) f fs (subst (λ w. 60 ≤ length w) (sym (first_same e)) (h s)) (all_long items fs make ss h (rest_same e))

pub long_frames : {F : Type 0} (items : F → List ℕ) (xs frames : List F) (make : ℕ → List ℕ) (ss : List ℕ) → ((s : ℕ) → 60 ≤ length (make s)) → xs ≡ frames → map items frames ≡ map make ss → All (λ f. 60 ≤ length (items f)) xs
long_frames items xs frames make ss h same e = all_long items xs make ss h (ap (map items) same ∙ e)

-- how many frames there are
pub few_frames : {F : Type 0} (items : F → List ℕ) (xs frames : List F) (make : ℕ → List ℕ) (p : ℕ → Bool) (n : ℕ) → n ≤ 8 → xs ≡ frames → map items frames ≡ map make (filter p (range_with_len 0 n)) → length xs ≤ 8
few_frames items xs frames make p n few same e =
    let a = ap length same in
    let b = length-map frames items in
    let c = ap length e in
    let d = length-map (filter p (range_with_len 0 n)) make in
    let f = length-filter p (range_with_len 0 n) in
    let g = count_by-le-length p (range_with_len 0 n) in
    let h = length-map-range_with_len (λ (k : ℕ). k) 0 n in
    let j = length-map (range_with_len 0 n) (λ (k : ℕ). k) in
    omega (arith, a, b, c, d, f, g, h, j)

-- the lines of a tick
pub tick_text : {F : Type 0} (items : F → List ℕ) (old new sl ss : List ℕ) (xs frames : List F) (make : ℕ → List ℕ) (t : ℕ) → new ≡ old ++ frame_lines t sl (map items xs) → sl ≡ ss → xs ≡ frames → map items frames ≡ map make ss
    → new ≡ old ++ flat_map (λ s. frame_line t s (make s)) ss
tick_text items old new sl ss xs frames make t h same there e =
    h ∙ (λ i. old ++ frame_lines t (same i) ((ap (map items) there ∙ e) i)) ∙ ap (λ w. old ++ w) (made_lines t make ss)

-- the whole text
pub whole_text : (m : Mapping) (v : UnitsView) (n0 n1 n2 st : List ℕ) (fs : List (List Fmmu)) (h : ℕ) → n0 ≡ [] → st ≡ stations_in v.units → fs ≡ m.fmmus
    → n1 ≡ n0 ++ fmmu_lines st fs → n2 ≡ n1 ++ flat_map (tick_lines m v.slots) (range_with_len 0 h) → h ≡ lcm_of (periods_of (view_loads v.units)) → n2 ≡ frames_text v m
unfolding frames_text
whole_text m v n0 n1 n2 st fs h e0 e1 e2 e4 e5 e3 =
    e5
    ∙ (λ i. e4 i ++ flat_map (tick_lines m v.slots) (range_with_len 0 (e3 i)))
    ∙ (λ i. (e0 i ++ fmmu_lines (e1 i) (e2 i)) ++ flat_map (tick_lines m v.slots) (range_with_len 0 (lcm_of (periods_of (view_loads v.units)))))

-- a frame more in a capture file
pub sum_step : {F : Type 0} (items : F → List ℕ) (frames : List F) (d : F) (i before : ℕ) (frame : List ℕ) → i < length frames → frame ≡ items (get_or frames i d) → before ≡ sum_by wire_bytes (take i (map items frames))
    → before + wire_bytes frame ≡ sum_by wire_bytes (take (i + 1) (map items frames))
sum_step items frames d i before frame l is had =
    let here : frame ≡ get_or (map items frames) i [] = is ∙ sym (get_or-map items frames i d [] l) in
    let within : i < length (map items frames) = omega (arith, l, length-map frames items) in
    (λ j. had j + wire_bytes (here j))
    ∙ sym (sum_by_push wire_bytes (take i (map items frames)) (get_or (map items frames) i []))
    ∙ ap (sum_by wire_bytes) (sym (take_more (map items frames) i [] within))

pub records_step : {F : Type 0} (items : F → List ℕ) (frames : List F) (d : F) (start i before ns : ℕ) (init old new frame : List ℕ) → i < length frames → frame ≡ items (get_or frames i d)
    → before ≡ sum_by wire_bytes (take i (map items frames))
    → old ≡ init ++ flat_map (λ k. frame_record (stamp start (map items frames) k) (get_or (map items frames) k [])) (range_with_len 0 i) → new ≡ old ++ frame_record ns frame → ns ≡ start + ns_of before
    → new ≡ init ++ flat_map (λ k. frame_record (stamp start (map items frames) k) (get_or (map items frames) k [])) (range_with_len 0 (i + 1))
records_step items frames d start i before ns init old new frame l is had so_far added when =
    let here : frame ≡ get_or (map items frames) i [] = is ∙ sym (get_or-map items frames i d [] l) in
    let stamped : ns ≡ stamp start (map items frames) i = when ∙ ap (λ b. start + ns_of b) had in
    added
    ∙ (λ j. so_far j ++ frame_record (stamped j) (here j))
    ∙ sym (range_step (λ k. frame_record (stamp start (map items frames) k) (get_or (map items frames) k [])) init i)

-- the whole file
pub whole_capture : (m : Mapping) (v : UnitsView) (n0 n1 n2 : List ℕ) (h : ℕ) → n0 ≡ [] → h ≡ lcm_of (periods_of (view_loads v.units)) → n1 ≡ n0 ++ file_header
    → n2 ≡ n1 ++ flat_map (tick_records v m) (range_with_len 0 h) → n2 ≡ capture v m
unfolding capture
whole_capture m v n0 n1 n2 h e0 e1 e2 e3 =
    e3
    ∙ (λ i. e2 i ++ flat_map (tick_records v m) (range_with_len 0 (e1 i)))
    ∙ (λ i. (e0 i ++ file_header) ++ flat_map (tick_records v m) (range_with_len 0 (lcm_of (periods_of (view_loads v.units)))))

-- the stations are as many as the slaves at their places
slave_count : (k : Key) (u i : ℕ) (ss : List SlaveView) → length (slave_seats k u i ss) ≡ length ss
slave_count k u i [] = refl
slave_count k u i (s ∷ ss) = let r = slave_count k u (suc i) ss in omega (arith, r)

pub station_count : (n : ℕ) (us : List UnitView) (ps : List Place) → length ps ≡ length us → length (seats_from n us ps) ≡ length (stations_in us)
station_count n [] ps h = refl
station_count n (u ∷ us) [] h = absurd (omega (arith, h))
station_count n (u ∷ us) (p ∷ ps) h =
    let r = station_count (suc n) us ps (omega (arith, h)) in
    let a = length-append (slave_seats (key_at u p) n 0 u.slaves) (seats_from (suc n) us ps) in
    let b = length-append (map (λ (s : SlaveView). s.station) u.slaves) (stations_in us) in
    let c = slave_count (key_at u p) n 0 u.slaves in
    let d = length-map u.slaves (λ (s : SlaveView). s.station) in
    omega (arith, r, a, b, c, d)

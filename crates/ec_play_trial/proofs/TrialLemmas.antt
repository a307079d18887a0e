-- One tick more, one counter more, one frame more.
use Rattle.std.proofs.Common.{◌≡◌, ℕ, suc, ◌+◌, ◌<◌, Bool, true, false, List, [], ◌∷◌, ◌++◌, length, take, drop, drop_of_length-le, take_all, append-nil, get_or, map, filter, sum_by, refl, sym, ap, ◌∙◌, arith, append_assoc}
use Rattle.std.specs.List.{range_with_len}
use Rattle.std.proofs.lemmas.List.{map-append, drop_more}
use Rattle.std.proofs.lemmas.List.Sums.{sum_by-cons}
use Rattle.ec_frame_text.specs.Captures.{frame_record}
use Rattle.ec_units.specs.declared.units.Units.{Units}
use Rattle.ec_fmmu.specs.declared.mapping.Mapping.{Mapping}
use Rattle.ec_frame_builder.proofs.FrameLemmas.{range-one, busy-yes, busy-no}
use Rattle.ec_slave.specs.Journey.{passed, arrived}
use Rattle.ec_player.specs.Boxes.{Boxed, bytes_in}
use Rattle.ec_player.specs.Sent.{Sent, tick_sents, ticks_sents}
use Rattle.ec_player.specs.Lines.{bytes_of, slaves_after}
use Rattle.ec_player.specs.declared.faults.Wrong.{Wrong}
use Rattle.ec_player.specs.declared.trips.Trip.{Trip}
use Rattle.ec_player.specs.Trips.{sent_in}
use Rattle.ec_play_trial.specs.declared.member.Member.{Member}
use Rattle.ec_play_trial.specs.declared.tick.Tick.{Tick}
use Rattle.ec_play_trial.specs.Members.{handed_on, left}
use Rattle.ec_play_trial.specs.Captures.{passing, pairs}
use Rattle.ec_play_trial.specs.Trials.{tick_in, tick_of, tick_at, ticks_of}

-- a counter more, which differs or doesn't
pub wrongs_yes : (make : ℕ → Wrong) (p : ℕ → Bool) (xs : List Wrong) (x : Wrong) (n : ℕ) → p n ≡ true → x ≡ make n → xs ≡ map make (filter p (range_with_len 0 n))
    → xs ++ x ∷ [] ≡ map make (filter p (range_with_len 0 (n + 1)))
wrongs_yes make p xs x n h e had =
    (λ i. had i ++ e i ∷ [])
    ∙ sym (map-append make (filter p (range_with_len 0 n)) (n ∷ []))
    ∙ ap (map make) (busy-yes p (filter p (range_with_len 0 n)) n h refl)

pub wrongs_no : (make : ℕ → Wrong) (p : ℕ → Bool) (xs : List Wrong) (n : ℕ) → p n ≡ false → xs ≡ map make (filter p (range_with_len 0 n)) → xs ≡ map make (filter p (range_with_len 0 (n + 1)))
wrongs_no make p xs n h had = had ∙ ap (map make) (busy-no p (filter p (range_with_len 0 n)) n h refl)

-- a tick more, of a line that tick 0 found so
pub ticks_step : (us : Units) (m : Mapping) (image : List ℕ) (first now : List Member) (old : List Tick) (tick : Tick) (t : ℕ) → now ≡ slaves_after handed_on left first (ticks_sents us m image t)
    → map tick_in old ≡ ticks_of us m image first t → tick_in tick ≡ tick_of now (tick_sents us m image t) → map tick_in (old ++ tick ∷ []) ≡ ticks_of us m image first (t + 1)
ticks_step us m image first now old tick t e had h =
    map-append tick_in old (tick ∷ [])
    ∙ (λ i. had i ++ (h ∙ ap (λ w. tick_of w (tick_sents us m image t)) e) i ∷ [])
    ∙ sym (map-append (tick_at us m image first) (range_with_len 0 t) (t ∷ []))
    ∙ ap (map (tick_at us m image first)) (sym (range-one t))

-- what is left of frames, and of what came back
pub pairs_step : (trips : List Trip) (backs : List Boxed) (i ns : ℕ) (dt : Trip) (db : Boxed) → i < length trips → i < length backs
    → pairs ns (map sent_in (drop i trips)) (bytes_in (drop i backs))
    ≡ frame_record ns (get_or trips i dt).frame.value.items ++ (frame_record (ns + passing (sent_in (get_or trips i dt))) (get_or backs i db).value.items
    ++ pairs (ns + passing (sent_in (get_or trips i dt))) (map sent_in (drop (i + 1) trips)) (bytes_in (drop (i + 1) backs)))
pairs_step trips backs i ns dt db l k =
    λ j. pairs ns (map sent_in (drop_more trips i dt l j)) (bytes_in (drop_more backs i db k j))

-- a frame more with what came back of it
pub pairs_more : (trips : List Trip) (backs : List Boxed) (i ns then : ℕ) (t : Trip) (b : Boxed) (old one two all sent back : List ℕ) → i < length trips → length backs ≡ length trips
    → t ≡ get_or trips i t → b ≡ get_or backs i b → sent ≡ t.frame.value.items → back ≡ b.value.items → then ≡ ns + passing (sent_in t)
    → one ≡ old ++ frame_record ns sent → two ≡ one ++ frame_record then back
    → old ++ pairs ns (map sent_in (drop i trips)) (bytes_in (drop i backs)) ≡ all
    → two ++ pairs then (map sent_in (drop (i + 1) trips)) (bytes_in (drop (i + 1) backs)) ≡ all
pairs_more trips backs i ns then t b old one two all sent back l each et eb es ek when e1 e2 had =
    let items = λ (held : Boxed). held.value.items in
    let later = pairs then (map sent_in (drop (i + 1) trips)) (bytes_in (drop (i + 1) backs)) in
    let k : i < length backs = omega (arith, l, each) in
    (λ j. (e2 ∙ ap (λ w. w ++ frame_record then back) e1) j ++ later)
    ∙ append_assoc (old ++ frame_record ns sent) (frame_record then back) later
    ∙ append_assoc old (frame_record ns sent) (frame_record then back ++ later)
    ∙ (λ j. old ++ (frame_record ns ((es ∙ ap (λ (w : Trip). w.frame.value.items) et) j) ++ (frame_record ((when ∙ ap (λ (w : Trip). ns + passing (sent_in w)) et) j) ((ek ∙ ap items eb) j)
    ++ pairs ((when ∙ ap (λ (w : Trip). ns + passing (sent_in w)) et) j) (map sent_in (drop (i + 1) trips)) (bytes_in (drop (i + 1) backs)))))
    ∙ ap (λ w. old ++ w) (sym (pairs_step trips backs i ns t b l k))
    ∙ had

-- the time that is left
pub time_step : (trips : List Trip) (i : ℕ) (d : Trip) → i < length trips
    → sum_by passing (map sent_in (drop i trips)) ≡ passing (sent_in (get_or trips i d)) + sum_by passing (map sent_in (drop (i + 1) trips))
time_step trips i d l = ap (λ w. sum_by passing (map sent_in w)) (drop_more trips i d l) ∙ sum_by-cons passing (sent_in (get_or trips i d)) (map sent_in (drop (i + 1) trips))

-- slaves are as many after frames as before
length_passed : {X F : Type 0} (out : X → F → F) (next : X → F → X) (ss : List X) (x : F) → length (passed out next ss x) ≡ length ss
length_passed out next [] x = refl
length_passed out next (s ∷ ss) x = ap suc (length_passed out next ss (out s x))

length_arrived : {X F : Type 0} (out : X → F → F) (next : X → F → X) (ss : List X) (xs : List F) → length (arrived out next ss xs) ≡ length ss
length_arrived out next ss [] = refl
length_arrived out next ss (x ∷ xs) = length_arrived out next (passed out next ss x) xs ∙ length_passed out next ss x

-- so all that was lent is written again
pub written_back : {X : Type 0} (out : X → List ℕ → List ℕ) (next : X → List ℕ → X) (n : ℕ) (now given items : List X) (sents : List Sent) → now ≡ slaves_after out next given sents → given ≡ items → n ≡ length items
    → take n (now ++ drop (length now) items) ≡ now
written_back out next n now given items sents h e k =
    let len : length now ≡ length items = ap length h ∙ length_arrived out next given (bytes_of sents) ∙ ap length e in
    ap (λ w. take n (now ++ w)) (drop_of_length-le items (omega (arith, len))) ∙ ap (take n) (append-nil now) ∙ take_all n now (omega (arith, len, k))

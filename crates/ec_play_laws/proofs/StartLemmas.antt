-- The start frames come back with the counters that are wanted, and leave each slave its station and its records.
-- All is said of `done ++ m :: rest`: the slaves before, the one that is meant, and those behind.
use Rattle.std.proofs.Common.{◌≡◌, ◌≢◌, inl, ℕ, suc, ◌+◌, ◌/◌, ◌<◌, ◌≤◌, ◌==◌, ◌||◌, Bool, true, false, List, [], ◌∷◌, ◌++◌, length, map, take, drop, refl, ap, sym, ◌∙◌, subst, arith, length-append, append_assoc, All}
use Rattle.std.specs.List.{list_any, flat_map}
use Rattle.std.proofs.lemmas.Bool.{true≢false, eq-eqb}
use Rattle.std.proofs.lemmas.List.{drop_at, length-take-le, map-append}
use Rattle.std.proofs.lemmas.List.Elements.{All-head, All-tail, All-cons, All-nil, All-append, All-weaker}
use Rattle.byteorder.specs.Numbers.{little_number-reads_back}
use Rattle.byteorder.specs.Endian.{little_bytes, little_number}
use Rattle.ec_units.specs.Together.{has_same_station}
use Rattle.ec_frames.specs.declared.command.Command.TheVariants as command
use Rattle.ec_fmmu.specs.declared.fmmu.Fmmu.{Fmmu}
use Rattle.ec_fmmu.specs.Records.{record_bytes}
use Rattle.ec_slave.specs.Access.{put, station_of}
use Rattle.ec_frame_builder.specs.Start.{roll_call, naming, mapping_frame, namings, mapping_frames, start_list, position_of}
use Rattle.ec_player.specs.Sent.{start_sent}
use Rattle.ec_play_laws.specs.Started.{AreMemories, with_station, with_records, started}
use Rattle.ec_play_laws.proofs.KeptLemmas.{length-put, put-apart, word-same}
use Rattle.ec_play_laws.proofs.AskLemmas.{ask, Goes, brd-goes, name-goes, map-goes, IsElsewhere}
use Rattle.ec_play_laws.proofs.RunLemmas.{Runs, runs-none, runs-append, runs-start, IsAsked}

abbrev IsMemory : List ℕ → Type 0
IsMemory m = length m ≡ 65536

-- ---- what the writes leave

pub length-named : (s : ℕ) (m : List ℕ) → length m ≡ 65536 → length (with_station s m) ≡ length m
length-named s m h = length-put 16 (little_bytes 2 s) m (omega (arith, h))

pub named-station : (s : ℕ) (m : List ℕ) → length m ≡ 65536 → s < 65536 → s ≡ station_of (with_station s m)
named-station s m h few =
    let n : length (take 16 m) ≡ 16 = length-take-le 16 m (omega (arith, h)) in
    let rest = drop (length (little_bytes 2 s)) (drop 16 m) in
    sym (ap (little_number 2) (drop_at (take 16 m) (little_bytes 2 s ++ rest) 16 n) ∙ little_number-reads_back 2 s rest few)

pub recorded-station : (bs m : List ℕ) → 1536 + length bs ≤ length m → station_of (put 1536 bs m) ≡ station_of m
recorded-station bs m h = word-same m (put 1536 bs m) 16 (put-apart 1536 bs m 16 h (inl (omega arith))) (put-apart 1536 bs m 17 h (inl (omega arith)))

-- ---- the stations

named : List ℕ → List (List ℕ) → List (List ℕ)
named [] ms = []
named (s ∷ ss) [] = []
named (s ∷ ss) (m ∷ ms) = with_station s m ∷ named ss ms

names-run : (ss : List ℕ) (done ms : List (List ℕ)) (i : ℕ) → i ≡ length done → length ss ≡ length ms → length done + length ms < 65536 → AreMemories ms →
    All (λ s. s < 65536) ss → Runs (done ++ ms) (map start_sent (namings i ss)) (done ++ named ss ms)
unfolding named
names-run [] done [] i is even few whole fit = runs-none (done ++ [])
names-run [] done (m ∷ ms) i is even few whole fit = absurd (omega (arith, even))
names-run (s ∷ ss) done [] i is even few whole fit = absurd (omega (arith, even))
names-run (s ∷ ss) done (m ∷ ms) i is even few whole fit =
    let own : length m ≡ 65536 = All-head IsMemory m ms whole in
    let more = done ++ with_station s m ∷ [] in
    let count : suc i ≡ length more = omega (arith, is, length-append done (with_station s m ∷ [])) in
    let low : position_of i < 65536 = omega arith in
    let asked : IsAsked (naming i s) = record { len = refl; short = omega arith; wide = omega (arith, low) } in
    let rest : Runs (more ++ ms) (map start_sent (namings (suc i) ss)) (more ++ named ss ms) =
    names-run ss more ms (suc i) count (omega (arith, even)) (omega (arith, few, count, is)) (All-tail IsMemory m ms whole) (All-tail (λ s. s < 65536) s ss fit) in
    let goes = name-goes done ms m (little_bytes 2 s) i (position_of i) is refl (omega (arith, few, is)) (omega (arith, few)) (omega arith) (omega (arith, own)) in
    runs-start (done ++ m ∷ ms) (done ++ with_station s m ∷ ms) (done ++ with_station s m ∷ named ss ms) (naming i s) (map start_sent (namings (suc i) ss)) asked goes
    (subst (λ w. Runs w (map start_sent (namings (suc i) ss)) (done ++ with_station s m ∷ named ss ms)) (append_assoc done (with_station s m ∷ []) ms)
    (subst (λ w. Runs (more ++ ms) (map start_sent (namings (suc i) ss)) w) (append_assoc done (with_station s m ∷ []) (named ss ms)) rest))

-- ---- the records

recorded : List (List Fmmu) → List (List ℕ) → List (List ℕ)
recorded [] ms = []
recorded (p ∷ ps) [] = []
recorded (p ∷ ps) (m ∷ ms) = with_records p m ∷ recorded ps ms

-- each of these has the station at its place
AreStations : List ℕ → List (List ℕ) → Type 0
AreStations [] ms = Unit {0}
AreStations (s ∷ ss) [] = Unit {0}
AreStations (s ∷ ss) (m ∷ ms) = (s ≡ station_of m) × AreStations ss ms

-- no two of these are one
Spread : List ℕ → Type 0
Spread [] = Unit {0}
Spread (s ∷ ss) = All (λ t. s ≢ t) ss × Spread ss

-- none of these has one of the stations
abbrev AreOther : List ℕ → List (List ℕ) → Type 0
AreOther ss done = All (λ d. All (λ s. IsElsewhere s d) ss) done

elsewhere-from : (s : ℕ) (ss : List ℕ) (ms : List (List ℕ)) → length ss ≡ length ms → AreStations ss ms → All (λ t. s ≢ t) ss → All (IsElsewhere s) ms
unfolding AreStations
elsewhere-from s [] [] even h apart = All-nil (IsElsewhere s)
elsewhere-from s [] (m ∷ ms) even h apart = absurd (omega (arith, even))
elsewhere-from s (t ∷ ts) [] even h apart = absurd (omega (arith, even))
elsewhere-from s (t ∷ ts) (m ∷ ms) even h apart =
    All-cons (IsElsewhere s) m ms (subst (λ n. s ≢ n) h.0 (All-head (λ t. s ≢ t) t ts apart)) (elsewhere-from s ts ms (omega (arith, even)) h.1 (All-tail (λ t. s ≢ t) t ts apart))

abbrev pub IsPair : List Fmmu → Type 0
IsPair p = length (flat_map record_bytes p) ≡ 32

maps-run : (ss : List ℕ) (ps : List (List Fmmu)) (done ms : List (List ℕ)) → length ss ≡ length ms → length ps ≡ length ss → AreMemories ms → All (λ s. s < 65536) ss → All IsPair ps →
    AreStations ss ms → Spread ss → AreOther ss done → Runs (done ++ ms) (map start_sent (mapping_frames ss ps)) (done ++ recorded ps ms)
unfolding recorded AreStations Spread
maps-run [] [] done [] even pairs whole fit thirty names apart other = runs-none (done ++ [])
maps-run [] (p ∷ ps) done ms even pairs whole fit thirty names apart other = absurd (omega (arith, pairs))
maps-run [] [] done (m ∷ ms) even pairs whole fit thirty names apart other = absurd (omega (arith, even))
maps-run (s ∷ ss) [] done ms even pairs whole fit thirty names apart other = absurd (omega (arith, pairs))
maps-run (s ∷ ss) (p ∷ ps) done [] even pairs whole fit thirty names apart other = absurd (omega (arith, even))
maps-run (s ∷ ss) (p ∷ ps) done (m ∷ ms) even pairs whole fit thirty names apart other =
    let own : length m ≡ 65536 = All-head IsMemory m ms whole in
    let bs = flat_map record_bytes p in
    let len : length bs ≡ 32 = All-head IsPair p ps thirty in
    let few : s < 65536 = All-head (λ s. s < 65536) s ss fit in
    let now = with_records p m in
    let more = done ++ now ∷ [] in
    let station : station_of now ≡ s = recorded-station bs m (omega (arith, own, len)) ∙ sym names.0 in
    let asked : IsAsked (mapping_frame s p) = record { len = len; short = omega arith; wide = omega (arith, few) } in
    let before : All (IsElsewhere s) done = All-weaker (λ d. All (λ s. IsElsewhere s d) (s ∷ ss)) (IsElsewhere s) (λ d h. All-head (λ s. IsElsewhere s d) s ss h) done other in
    let others : AreOther ss more =
    All-append (λ d. All (λ s. IsElsewhere s d) ss) done (now ∷ [])
    (All-weaker (λ d. All (λ s. IsElsewhere s d) (s ∷ ss)) (λ d. All (λ s. IsElsewhere s d) ss) (λ d h. All-tail (λ s. IsElsewhere s d) s ss h) done other)
    (All-cons (λ d. All (λ s. IsElsewhere s d) ss) now [] (λ k e l q. apart.0 k e l (sym station ∙ sym q)) (All-nil (λ d. All (λ s. IsElsewhere s d) ss))) in
    let rest : Runs (more ++ ms) (map start_sent (mapping_frames ss ps)) (more ++ recorded ps ms) =
    maps-run ss ps more ms (omega (arith, even)) (omega (arith, pairs)) (All-tail IsMemory m ms whole) (All-tail (λ s. s < 65536) s ss fit) (All-tail IsPair p ps thirty) names.1 apart.1 others in
    let goes = map-goes done ms m bs s few before (elsewhere-from s ss ms (omega (arith, even)) names.1 apart.0) names.0 (omega (arith, len)) (omega (arith, own, len)) in
    runs-start (done ++ m ∷ ms) (done ++ now ∷ ms) (done ++ now ∷ recorded ps ms) (mapping_frame s p) (map start_sent (mapping_frames ss ps)) asked goes
    (subst (λ w. Runs w (map start_sent (mapping_frames ss ps)) (done ++ now ∷ recorded ps ms)) (append_assoc done (now ∷ []) ms)
    (subst (λ w. Runs (more ++ ms) (map start_sent (mapping_frames ss ps)) w) (append_assoc done (now ∷ []) (recorded ps ms)) rest))

-- ---- all of them

named-memories : (ss : List ℕ) (ms : List (List ℕ)) → AreMemories ms → AreMemories (named ss ms)
unfolding named
named-memories [] ms h = All-nil IsMemory
named-memories (s ∷ ss) [] h = All-nil IsMemory
named-memories (s ∷ ss) (m ∷ ms) h =
    let own : length m ≡ 65536 = All-head IsMemory m ms h in
    All-cons IsMemory (with_station s m) (named ss ms) (length-named s m own ∙ own) (named-memories ss ms (All-tail IsMemory m ms h))

length-all-named : (ss : List ℕ) (ms : List (List ℕ)) → length ss ≡ length ms → length ss ≡ length (named ss ms)
unfolding named
length-all-named [] ms h = refl
length-all-named (s ∷ ss) [] h = absurd (omega (arith, h))
length-all-named (s ∷ ss) (m ∷ ms) h = ap suc (length-all-named ss ms (omega (arith, h)))

named-stations : (ss : List ℕ) (ms : List (List ℕ)) → AreMemories ms → All (λ s. s < 65536) ss → AreStations ss (named ss ms)
unfolding named AreStations
named-stations [] ms h fit = tt
named-stations (s ∷ ss) [] h fit = tt
named-stations (s ∷ ss) (m ∷ ms) h fit =
    (named-station s m (All-head IsMemory m ms h) (All-head (λ s. s < 65536) s ss fit), named-stations ss ms (All-tail IsMemory m ms h) (All-tail (λ s. s < 65536) s ss fit))

both-writes : (ss : List ℕ) (ps : List (List Fmmu)) (ms : List (List ℕ)) → length ss ≡ length ms → length ps ≡ length ss → recorded ps (named ss ms) ≡ started ss ps ms
unfolding named recorded
both-writes [] [] ms h k = refl
both-writes [] (p ∷ ps) ms h k = absurd (omega (arith, k))
both-writes (s ∷ ss) [] ms h k = absurd (omega (arith, k))
both-writes (s ∷ ss) (p ∷ ps) [] h k = absurd (omega (arith, h))
both-writes (s ∷ ss) (p ∷ ps) (m ∷ ms) h k = ap (λ w. with_records p (with_station s m) ∷ w) (both-writes ss ps ms (omega (arith, h)) (omega (arith, k)))

or-none : (a b : Bool) → (a || b) ≡ false → (a ≡ false) × (b ≡ false)
or-none true b h = absurd (true≢false h)
or-none false b h = (refl, h)

none-same : (s : ℕ) (ss : List ℕ) → list_any (λ t. s == t) ss ≡ false → All (λ t. s ≢ t) ss
none-same s [] h = All-nil (λ t. s ≢ t)
none-same s (t ∷ ts) h =
    let parts = or-none (s == t) (list_any (λ t. s == t) ts) h in
    All-cons (λ t. s ≢ t) t ts (λ e. true≢false (sym (eq-eqb s t e) ∙ parts.0)) (none-same s ts parts.1)

spread-from : (ss : List ℕ) → has_same_station ss ≡ false → Spread ss
unfolding Spread
spread-from [] h = tt
spread-from (s ∷ ss) h =
    let parts = or-none (list_any (λ t. s == t) ss) (has_same_station ss) h in
    (none-same s ss parts.0, spread-from ss parts.1)

pub starts-run : (ss : List ℕ) (ps : List (List Fmmu)) (ms : List (List ℕ)) → length ms ≡ length ss → length ps ≡ length ss → length ss ≤ 384 → AreMemories ms → All (λ s. s < 65536) ss →
    All IsPair ps → has_same_station ss ≡ false → Runs ms (map start_sent (start_list ss ps)) (started ss ps ms)
starts-run ss ps ms even pairs few whole fit thirty apart =
    let asked : IsAsked (roll_call (length ss)) = record { len = refl; short = omega arith; wide = omega arith } in
    let some : All (λ m. 0 < length m) ms = All-weaker IsMemory (λ m. 0 < length m) (λ m h. omega (arith, h)) ms whole in
    let called = brd-goes ms 0 0 0 some (let z : 0 / 65536 ≡ 0 = omega arith in z) (omega (arith, even, few)) in
    let names = names-run ss [] ms 0 refl (sym even) (omega (arith, even, few)) whole fit in
    let records = maps-run ss ps [] (named ss ms) (length-all-named ss ms (sym even)) pairs (named-memories ss ms whole) fit thirty (named-stations ss ms whole fit) (spread-from ss apart)
    (All-nil (λ d. All (λ s. IsElsewhere s d) ss)) in
    let both : Runs ms (map start_sent (namings 0 ss) ++ map start_sent (mapping_frames ss ps)) (started ss ps ms) =
    subst (Runs ms (map start_sent (namings 0 ss) ++ map start_sent (mapping_frames ss ps))) (both-writes ss ps ms (sym even) pairs)
    (runs-append ms (named ss ms) (recorded ps (named ss ms)) (map start_sent (namings 0 ss)) (map start_sent (mapping_frames ss ps)) names records) in
    let all = subst (λ w. Runs ms w (started ss ps ms)) (sym (map-append start_sent (namings 0 ss) (mapping_frames ss ps))) both in
    runs-start ms ms (started ss ps ms) (roll_call (length ss)) (map start_sent (namings 0 ss ++ mapping_frames ss ps)) asked
    (subst (λ n. Goes ms (ask command.Brd 0 0 (0 ∷ [])) n ms) (let z : 0 + length ms ≡ length ss = omega (arith, even) in z) called) all

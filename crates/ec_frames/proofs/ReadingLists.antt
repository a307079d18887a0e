-- Datagrams one after the other: what `datagrams_from` gives is what the relations say.
use Rattle.std.proofs.Common.{◌≡◌, inl, inr, subst, ℕ, zero, suc, ◌+◌, ◌<◌, ◌≤◌, true, false, not, ◌==◌, List, [], ◌∷◌, length, Result, Ok, Err, refl, ap, ◌∙◌, arith, length-drop}
use Rattle.std.proofs.lemmas.Bool.Decides.{nat_tests}
use Rattle.std.proofs.lemmas.List.{nil_from_length}
use Rattle.ec_frames.specs.declared.reading.FrameFault.{FrameFault}
use Rattle.ec_frames.specs.Reading.{Entry, size_at, BeginsWith, AreDatagrams, Precede, IsFaultAtFront, IsFaultAmong}
use Rattle.ec_frames.specs.Parsing.{ok_map, and_then, datagram_at, joined, datagrams_from}
use Rattle.ec_frames.proofs.ParsingSteps.{shorter, then_ok, ok_map_ok}
use Rattle.ec_frames.proofs.ReadingLaws.{chosen, Begun, front_found, front_reads, front_fault, front_faults}

empty : (rest : List ℕ) → (length rest == 0) ≡ true → rest ≡ []
empty rest h = nil_from_length rest (grind (arith, nat_tests))

last_found : (source : List ℕ) (d : Entry × List ℕ) → (length d.1 == 0) ≡ true → Begun source d → AreDatagrams source (d.0 ∷ [])
last_found source d none h =
    let none_left : d.1 ≡ [] = empty d.1 none in
    rw (none_left) at h

more_found : (source : List ℕ) (d : Entry × List ℕ) (ds : List Entry) → (length d.1 == 0) ≡ false → Begun source d → AreDatagrams d.1 ds → AreDatagrams source (d.0 ∷ ds)
more_found source d [] some h others = absurd others
more_found source d (e ∷ es) some h others = (d.1, rw some at h, others)

joined_found : (source : List ℕ) (d : Entry × List ℕ) (others : Result (List Entry) FrameFault) (ds : List Entry) → Begun source d
    → ((es : List Entry) → others ≡ Ok es → AreDatagrams d.1 es) → joined d others ≡ Ok ds → AreDatagrams source ds
joined_found source d others ds begun ih h =
    elim (chosen (length d.1 == 0) _ _ _ h) [
      | inl none ↦
          let is : d.0 ∷ [] ≡ ds = cc (none.1) in
          subst (λ (x : List Entry). AreDatagrams source x) is (last_found source d none.0 begun)
      | inr some ↦
          let (es, read, same) = ok_map_ok _ others ds some.1 in
          subst (λ (x : List Entry). AreDatagrams source x) same (more_found source d es some.0 begun (ih es read))
    ]

-- what is read are datagrams
pub list_found : (n : ℕ) (source : List ℕ) (ds : List Entry) → datagrams_from n source ≡ Ok ds → AreDatagrams source ds
list_found zero source ds h = absurd (cc (h))
list_found (suc n) source ds h =
    let (d, read, then) = then_ok (datagram_at source) (λ d. joined d (datagrams_from n d.1)) ds h in
    joined_found source d (datagrams_from n d.1) ds (front_found source d read) (λ es. list_found n d.1 es) then

-- datagrams have 12 bytes and more
pub AreDatagrams-length : (source : List ℕ) (ds : List Entry) → AreDatagrams source ds → 12 ≤ length source
AreDatagrams-length source [] h = absurd h
AreDatagrams-length source (d ∷ []) h = let l = h.fits in omega arith
AreDatagrams-length source (d ∷ e ∷ ds) h = let l = h.1.fits in omega arith

some_left : (source : List ℕ) → 0 < length source → (length source == 0) ≡ false
some_left source h = grind (arith, nat_tests)

step_more : (n : ℕ) (source : List ℕ) (d : Entry) (rest : List ℕ) → 0 < length rest → BeginsWith source d true rest
    → datagrams_from (suc n) source ≡ ok_map (λ ds. d ∷ ds) (datagrams_from n rest)
step_more n source d rest some h =
    let left = some_left rest some in
    let flag : true ≡ not (length rest == 0) = rw left refl in
    let read = front_reads source d rest true flag h in
    rw (read, left) refl

-- datagrams are read
pub list_reads : (ds : List Entry) (source : List ℕ) (n : ℕ) → length source < n → AreDatagrams source ds → datagrams_from n source ≡ Ok ds
list_reads ds source zero room h = absurd (omega arith)
list_reads [] source (suc n) room h = absurd h
list_reads (d ∷ []) source (suc n) room h =
    let read = front_reads source d [] false refl h in
    rw read refl
list_reads (d ∷ e ∷ es) source (suc n) room h =
    let (rest, begun, others) = h in
    let some : 0 < length rest = let l = AreDatagrams-length rest (e ∷ es) others in omega arith in
    let less : length rest < n = let l = ap length begun.after in omega (arith, l, length-drop (size_at source + 12) source) in
    step_more n source d rest some begun ∙ ap (λ r. ok_map (λ ds. d ∷ ds) r) (list_reads (e ∷ es) rest n less others)

-- a fault among the datagrams of the rest is one among these
later : (source : List ℕ) (d : Entry × List ℕ) (f : FrameFault) → (length d.1 == 0) ≡ false → Begun source d → IsFaultAmong f d.1 → IsFaultAmong f source
later source d f some begun h =
    let (ds, rest, before, is) = h in
    (d.0 ∷ ds, rest, (d.1, rw some at begun, grind (arith, nat_tests), before), is)

map_err : {A B E : Type 0} (f : A → B) (r : Result A E) (e : E) → ok_map f r ≡ Err e → r ≡ Err e
map_err f (Ok x) e h = absurd (cc (h))
map_err f (Err d) e h = let same : d ≡ e = cc (h) in ap (λ x. Err x) same

list_fault_at : (n : ℕ) (source : List ℕ) (f : FrameFault) (r : Result (Entry × List ℕ) FrameFault) → datagram_at source ≡ r
    → ((d : Entry × List ℕ) → datagram_at source ≡ Ok d → datagrams_from n d.1 ≡ Err f → IsFaultAmong f d.1)
    → and_then r (λ d. joined d (datagrams_from n d.1)) ≡ Err f → IsFaultAmong f source
list_fault_at n source f (Err g) read ih h =
    let same : g ≡ f = cc (h) in
    ([], source, refl, front_fault source f (read ∙ ap (λ x. Err x) same))
list_fault_at n source f (Ok d) read ih h =
    elim (chosen (length d.1 == 0) _ _ _ h) [
      | inl none ↦ absurd (cc (none.1))
      | inr some ↦ later source d f some.0 (front_found source d read) (ih d read (map_err _ _ f some.1))
    ]

-- a fault that is given is one among the datagrams
pub list_fault : (n : ℕ) (source : List ℕ) (f : FrameFault) → length source < n → datagrams_from n source ≡ Err f → IsFaultAmong f source
list_fault zero source f room h = absurd (omega arith)
list_fault (suc n) source f room h =
    list_fault_at n source f (datagram_at source) refl (λ d read e. let l = shorter source d read in list_fault n d.1 f (omega arith) e) h

front_err : (n : ℕ) (source : List ℕ) (f : FrameFault) → datagram_at source ≡ Err f → datagrams_from (suc n) source ≡ Err f
front_err n source f h = rw h refl

list_faults_at : (ds : List Entry) (source rest : List ℕ) (f : FrameFault) (n : ℕ) → length source < n → Precede source ds rest → IsFaultAtFront f rest → datagrams_from n source ≡ Err f
list_faults_at ds source rest f zero room before is = absurd (omega arith)
list_faults_at [] source rest f (suc n) room before is = front_err n source f (ap datagram_at before ∙ front_faults rest f is)
list_faults_at (d ∷ ds) source rest f (suc n) room before is =
    let (next, begun, some, others) = before in
    let less : length next < n = let l = ap length begun.after in omega (arith, l, length-drop (size_at source + 12) source) in
    step_more n source d next some begun ∙ ap (λ r. ok_map (λ ds. d ∷ ds) r) (list_faults_at ds next rest f n less others is)

-- a fault among the datagrams is given
pub list_faults : (source : List ℕ) (f : FrameFault) (n : ℕ) → length source < n → IsFaultAmong f source → datagrams_from n source ≡ Err f
list_faults source f n room h =
    let (ds, rest, before, is) = h in
    list_faults_at ds source rest f n room before is

-- What is written is read again.
-- The round trip is proved field by field of the relation, with no decoding: a lemma for each field, by
-- `little_number-reads_back`, `take_at` and `drop_at`; then an induction over the datagrams, with the rest of the list
-- as what follows. That nothing else is read follows from `law_one_reading`.
use Rattle.std.proofs.Common.{◌≡◌, ◌≢◌, ℕ, suc, ◌+◌, ◌-◌, ◌/◌, ◌%◌, ◌^◌, ◌<◌, ◌≤◌, max, Bool, true, false, ◌==◌, List, [], ◌∷◌, ◌++◌, length, take, drop, replicate, slice_index, sum_by, Some, refl, ap, sym, ◌∙◌, arith, length-drop, length-append, append_assoc, All}
use Rattle.std.proofs.lemmas.List.{take_at, drop_at, drop-drop, length-replicate, length-take-le}
use Rattle.std.proofs.lemmas.List.Sums.{sum_by-cons}
use Rattle.byteorder.specs.Numbers.{little_number-reads_back}
use Rattle.byteorder.specs.Endian.{little_number, little_bytes}
use Rattle.ec_frames.specs.declared.command.Command.{Command}
use Rattle.ec_frames.specs.declared.command.Command.TheVariants as command
use Rattle.ec_frames.specs.declared.writing.Datagram.{Datagram}
use Rattle.ec_frames.specs.Table.{command_with}
use Rattle.ec_frames.specs.Written.{code_in, length_word, datagram_bytes, datagrams_bytes, more_than_none, total_of, ethernet_header, padded, written, AreBuildable}
use Rattle.ec_frames.specs.Reading.{Entry, word_at, size_at, BeginsWith, AreDatagrams, header_at, length_at, type_at, payload_of, ReadsAs}
use Rattle.ec_frames.specs.IsReadBack.{read_back, IsReadBack}
use Rattle.ec_frames.proofs.ReadingFrames.{law_one_reading}

code_again : (c : Command) → command_with (code_in c) ≡ Some c
code_again command.Nop = refl
code_again command.Aprd = refl
code_again command.Apwr = refl
code_again command.Aprw = refl
code_again command.Fprd = refl
code_again command.Fpwr = refl
code_again command.Fprw = refl
code_again command.Brd = refl
code_again command.Bwr = refl
code_again command.Brw = refl
code_again command.Lrd = refl
code_again command.Lwr = refl
code_again command.Lrw = refl
code_again command.Armw = refl
code_again command.Frmw = refl

-- the parts of a length word
record IsWord (word len : ℕ) (more : Bool) : Type 0 where
  size : word % 2048 ≡ len
  circulating : (word / 16384 % 2 == 1) ≡ false
  more_bit : (word / 32768 % 2 == 1) ≡ more
  fits : word < 256 ^ 2

word_parts : (len : ℕ) (more : Bool) → len ≤ 1486 → IsWord (length_word len more) len more
word_parts len true h =
    let a : (len + 32768) / 16384 % 2 ≡ 0 = omega arith in
    let b : (len + 32768) / 32768 % 2 ≡ 1 = omega arith in
    record { size = omega arith; circulating = rw a refl; more_bit = rw b refl; fits = omega arith }
word_parts len false h =
    let a : len / 16384 % 2 ≡ 0 = omega arith in
    let b : len / 32768 % 2 ≡ 0 = omega arith in
    record { size = omega arith; circulating = rw a refl; more_bit = rw b refl; fits = omega arith }

abbrev entry_of : Datagram → ℕ → List ℕ → Entry
entry_of d i bs = record { command = d.command; index = i; address = d.address; circulating = false; event = 0; counter = 0; bytes = bs }

word_again : (d : Datagram) (i : ℕ) (m : Bool) (bs rest : List ℕ) → d.len ≤ 1486 → word_at (datagram_bytes d i m bs ++ rest) ≡ length_word d.len m
unfolding datagram_bytes
word_again d i m bs rest h = little_number-reads_back 2 (length_word d.len m) (((0 ∷ 0 ∷ []) ++ bs ++ 0 ∷ 0 ∷ []) ++ rest) (word_parts d.len m h).fits

length_all : (d : Datagram) (i : ℕ) (m : Bool) (bs rest : List ℕ) → length (datagram_bytes d i m bs ++ rest) ≡ 12 + length bs + length rest
unfolding datagram_bytes
length_all d i m bs rest = omega (arith, length-append (bs ++ 0 ∷ 0 ∷ []) rest, length-append bs (0 ∷ 0 ∷ []))

tail_of : (d : Datagram) (i : ℕ) (m : Bool) (bs rest : List ℕ) → drop 10 (datagram_bytes d i m bs ++ rest) ≡ bs ++ 0 ∷ 0 ∷ rest
unfolding datagram_bytes
tail_of d i m bs rest = append_assoc bs (0 ∷ 0 ∷ []) rest

address_again : (d : Datagram) (i : ℕ) (m : Bool) (bs rest : List ℕ) → d.address < 2 ^ 32 → little_number 4 (drop 2 (datagram_bytes d i m bs ++ rest)) ≡ d.address
unfolding datagram_bytes
address_again d i m bs rest h = little_number-reads_back 4 d.address ((little_bytes 2 (length_word d.len m) ++ (0 ∷ 0 ∷ []) ++ bs ++ 0 ∷ 0 ∷ []) ++ rest) h

front_again : (d : Datagram) (i : ℕ) (m : Bool) (bs rest : List ℕ) → (slice_index (datagram_bytes d i m bs ++ rest) 0 ≡ code_in d.command) × (slice_index (datagram_bytes d i m bs ++ rest) 1 ≡ i)
    × (little_number 2 (drop 8 (datagram_bytes d i m bs ++ rest)) ≡ 0)
unfolding datagram_bytes
front_again d i m bs rest = (refl, refl, refl)

more_drop : (k n : ℕ) (xs ys : List ℕ) → drop k xs ≡ ys → drop (k + n) xs ≡ drop n ys
more_drop k n xs ys e = sym (drop-drop n k xs) ∙ ap (drop n) e

past_of : (d : Datagram) (i : ℕ) (m : Bool) (bs rest : List ℕ) → drop (10 + length bs) (datagram_bytes d i m bs ++ rest) ≡ 0 ∷ 0 ∷ rest
past_of d i m bs rest = more_drop 10 (length bs) _ _ (tail_of d i m bs rest) ∙ drop_at bs (0 ∷ 0 ∷ rest) (length bs) refl

-- a written datagram begins the bytes
begins_again : (d : Datagram) (i : ℕ) (m : Bool) (bs rest : List ℕ) → length bs ≡ d.len → d.len ≤ 1486 → d.address < 2 ^ 32
    → BeginsWith (datagram_bytes d i m bs ++ rest) (entry_of d i bs) m rest
begins_again d i m bs rest len small wide =
    let t = datagram_bytes d i m bs ++ rest in
    let size = length_all d i m bs rest in
    let parts = word_parts d.len m small in
    let w : word_at t ≡ length_word d.len m = word_again d i m bs rest small in
    let l : size_at t ≡ length bs = ap (λ x. x % 2048) w ∙ parts.size ∙ sym len in
    let (code, index, event) = front_again d i m bs rest in
    let past : drop (10 + length bs) t ≡ 0 ∷ 0 ∷ rest = past_of d i m bs rest in
    let places : length bs + 12 ≡ 10 + length bs + 2 = omega arith in
    let after : drop (size_at t + 12) t ≡ rest = ap (λ n. drop (n + 12) t) l ∙ ap (λ n. drop n t) places ∙ more_drop (10 + length bs) 2 t _ past in
    let bytes : take (size_at t) (drop 10 t) ≡ bs = ap (λ n. take n (drop 10 t)) l ∙ ap (take (length bs)) (tail_of d i m bs rest) ∙ take_at bs (0 ∷ 0 ∷ rest) (length bs) refl in
    let counter : little_number 2 (drop (10 + size_at t) t) ≡ 0 = ap (λ n. little_number 2 (drop (10 + n) t)) l ∙ ap (little_number 2) past in
    record {
      header = omega arith;
      command = ap command_with code ∙ code_again d.command;
      index = sym index;
      address = sym (address_again d i m bs rest wide);
      circulating = sym (ap (λ x. x / 16384 % 2 == 1) w ∙ parts.circulating);
      more_bit = sym (ap (λ x. x / 32768 % 2 == 1) w ∙ parts.more_bit);
      event = sym event;
      fits = omega arith;
      bytes = sym bytes;
      counter = sym counter;
      after = sym after;
    }

tail_all : {X : Type 0} (P : X → Type 0) (x : X) (xs : List X) → All P (x ∷ xs) → All P xs
tail_all P x xs h k d l = h (suc k) d (omega arith)

head_all : {X : Type 0} (P : X → Type 0) (x : X) (xs : List X) → All P (x ∷ xs) → P x
head_all P x xs h = h 0 x (omega arith)

cut : (d : Datagram) (ds : List Datagram) (bytes : List ℕ) → sum_by (λ x. x.len) (d ∷ ds) ≡ length bytes
    → (length (take d.len bytes) ≡ d.len) × (sum_by (λ x. x.len) ds ≡ length (drop d.len bytes))
cut d ds bytes h =
    let sum = sum_by-cons (λ x. x.len) d ds in
    (length-take-le d.len bytes (omega arith), omega (arith, length-drop d.len bytes))

abbrev IsShort : Datagram → Type 0
IsShort d = d.len ≤ 1486

abbrev IsWide : Datagram → Type 0
IsWide d = d.address < 2 ^ 32

-- written datagrams are these datagrams
list_again : (i : ℕ) (ds : List Datagram) (bytes : List ℕ) → ds ≢ [] → All (λ d. d.len ≤ 1486) ds → All (λ d. d.address < 2 ^ 32) ds → sum_by (λ d. d.len) ds ≡ length bytes
    → AreDatagrams (datagrams_bytes i ds bytes) (read_back i ds bytes)
list_again i [] bytes some short wide sum = absurd (some refl)
list_again i (d ∷ []) bytes some short wide sum =
    begins_again d i false (take d.len bytes) [] (cut d [] bytes sum).0 (head_all IsShort d [] short) (head_all IsWide d [] wide)
list_again i (d ∷ e ∷ es) bytes some short wide sum =
    let parts = cut d (e ∷ es) bytes sum in
    let rest = datagrams_bytes (suc i) (e ∷ es) (drop d.len bytes) in (
      rest,
      begins_again d i true (take d.len bytes) rest parts.0 (head_all IsShort d (e ∷ es) short) (head_all IsWide d (e ∷ es) wide),
      list_again (suc i) (e ∷ es) (drop d.len bytes) (λ h. cc (h)) (tail_all IsShort d (e ∷ es) short) (tail_all IsWide d (e ∷ es) wide) parts.1,
    )

-- the bytes of written datagrams
pub length-datagrams_bytes : (i : ℕ) (ds : List Datagram) (bytes : List ℕ) → sum_by (λ d. d.len) ds ≡ length bytes → length (datagrams_bytes i ds bytes) ≡ total_of ds
length-datagrams_bytes i [] bytes sum = refl
length-datagrams_bytes i (d ∷ ds) bytes sum =
    let parts = cut d ds bytes sum in
    omega (
      arith,
      sum_by-cons (λ x. x.len + 12) d ds,
      length_all d i (more_than_none ds) (take d.len bytes) (datagrams_bytes (suc i) ds (drop d.len bytes)),
      length-datagrams_bytes (suc i) ds (drop d.len bytes) parts.1,
    )

-- the bytes after the headers
abbrev after_headers : List Datagram → List ℕ → List ℕ
after_headers ds bytes = datagrams_bytes 0 ds bytes ++ replicate (60 - length (ethernet_header ++ little_bytes 2 (total_of ds + 4096) ++ datagrams_bytes 0 ds bytes)) 0

header_again : (ds : List Datagram) (bytes : List ℕ) → total_of ds ≤ 1498 → header_at (written ds bytes) ≡ total_of ds + 4096
unfolding written
header_again ds bytes room = little_number-reads_back 2 (total_of ds + 4096) (after_headers ds bytes) (omega arith)

after_again : (ds : List Datagram) (bytes : List ℕ) → (drop 16 (written ds bytes) ≡ after_headers ds bytes) × (slice_index (written ds bytes) 12 ≡ 136) × (slice_index (written ds bytes) 13 ≡ 164)
unfolding written
after_again ds bytes = (refl, refl, refl)

length_front : (x : ℕ) (ds : List ℕ) → length (ethernet_header ++ little_bytes 2 x ++ ds) ≡ 16 + length ds
length_front x ds = omega (arith, length-append (ethernet_header ++ little_bytes 2 x) ds)

length-padded : (front : List ℕ) → length (padded front) ≡ max 60 (length front)
length-padded front = omega (arith, length-append front (replicate (60 - length front) 0), length-replicate {A = ℕ} (60 - length front) 0)

-- a frame has 16 bytes of headers and its datagrams, and at least 60 bytes
pub length-written : (ds : List Datagram) (bytes : List ℕ) → sum_by (λ d. d.len) ds ≡ length bytes → length (written ds bytes) ≡ max 60 (total_of ds + 16)
unfolding written
length-written ds bytes sum =
    let size = length-datagrams_bytes 0 ds bytes sum in
    let front = length_front (total_of ds + 4096) (datagrams_bytes 0 ds bytes) in
    let whole : length (ethernet_header ++ little_bytes 2 (total_of ds + 4096) ++ datagrams_bytes 0 ds bytes) ≡ total_of ds + 16 = omega arith in
    length-padded (ethernet_header ++ little_bytes 2 (total_of ds + 4096) ++ datagrams_bytes 0 ds bytes) ∙ ap (λ n. max 60 n) whole

-- what is written is read as the same datagrams
pub written_reads : (ds : List Datagram) (bytes : List ℕ) → AreBuildable ds → All (λ d. d.address < 2 ^ 32) ds → sum_by (λ d. d.len) ds ≡ length bytes → ReadsAs (written ds bytes) (read_back 0 ds bytes)
written_reads ds bytes buildable wide sum =
    let room : total_of ds ≤ 1498 = buildable.room in
    let header = header_again ds bytes room in
    let (after, low, high) = after_again ds bytes in
    let size : length_at (written ds bytes) ≡ total_of ds = ap (λ x. x % 2048) header ∙ (let n : (total_of ds + 4096) % 2048 ≡ total_of ds = omega arith in n) in
    let kind : type_at (written ds bytes) ≡ 1 = ap (λ x. x / 4096) header ∙ (let n : (total_of ds + 4096) / 4096 ≡ 1 = omega arith in n) in
    let whole = length-written ds bytes sum in
    let datagrams : payload_of (written ds bytes) ≡ datagrams_bytes 0 ds bytes =
    ap (λ n. take n (drop 16 (written ds bytes))) size ∙ ap (take (total_of ds)) after ∙ take_at (datagrams_bytes 0 ds bytes) _ (total_of ds) (length-datagrams_bytes 0 ds bytes sum) in
    record {
      framed = record {
        headers = omega arith;
        ether_type = (low, high);
        frame_type = kind;
        fits = omega arith;
      };
      datagrams = rw datagrams (list_again 0 ds bytes buildable.some_datagram buildable.short wide sum);
    }

pub read_again : (ds : List Datagram) (bytes : List ℕ) → AreBuildable ds → All (λ d. d.address < 2 ^ 32) ds → sum_by (λ d. d.len) ds ≡ length bytes → IsReadBack ds bytes
read_again ds bytes buildable wide sum =
    let reads = written_reads ds bytes buildable wide sum in
    (reads, λ es h. law_one_reading (written ds bytes) es (read_back 0 ds bytes) h reads)

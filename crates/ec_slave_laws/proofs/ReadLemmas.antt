-- The frame of datagrams is read as these, and a written frame is one.
use Rattle.std.proofs.Common.{◌≡◌, ◌≢◌, ℕ, suc, ◌+◌, ◌-◌, ◌/◌, ◌%◌, ◌^◌, ◌<◌, ◌≤◌, Bool, true, false, ◌==◌, List, [], ◌∷◌, ◌++◌, length, take, drop, replicate, slice_index, sum_by, Some, refl, ap, sym, ◌∙◌, arith, length-drop, length-append, append_assoc, All}
use Rattle.std.proofs.lemmas.List.{take_at, drop_at, drop-drop, length-take-le}
use Rattle.std.proofs.lemmas.List.Sums.{sum_by-cons}
use Rattle.std.proofs.lemmas.List.Elements.{All-head, All-tail, All-cons, All-nil}
use Rattle.byteorder.specs.Numbers.{little_number-reads_back}
use Rattle.byteorder.specs.Endian.{little_number, little_bytes}
use Rattle.ec_frames.specs.declared.command.Command.{Command}
use Rattle.ec_frames.specs.declared.command.Command.TheVariants as command
use Rattle.ec_frames.specs.declared.writing.Datagram.{Datagram}
use Rattle.ec_frames.specs.Table.{command_with}
use Rattle.ec_frames.specs.Written.{code_in, length_word, datagram_bytes, datagrams_bytes, more_than_none, total_of, written, AreBuildable}
use Rattle.ec_frames.specs.Reading.{Entry, word_at, size_at, BeginsWith, AreDatagrams, header_at, length_at, type_at, payload_of, ReadsAs}
use Rattle.ec_frames.specs.IsReadBack.{read_back}
use Rattle.ec_frames.proofs.WrittenReads.{length-datagrams_bytes}
use Rattle.ec_slave.specs.Step.{extent}
use Rattle.ec_slave_laws.specs.Datagrams.{entry_bytes, some_follow, entries_bytes, headers, framed, IsWhole, AreWhole}
use Rattle.ec_slave_laws.proofs.StepLemmas.{length-entries, length-framed}

code_again : (c : Command) → command_with (code_in c) ≡ Some c
code_again command.Nop = refl
code_again command.Aprd = refl
code_again command.Apwr = refl
code_again command.Aprw = refl
code_again command.Fprd = refl
code_again command.Fpwr = refl
code_again command.Fprw = refl
code_again command.Brd = refl
code_again command.Bwr = refl
code_again command.Brw = refl
code_again command.Lrd = refl
code_again command.Lwr = refl
code_again command.Lrw = refl
code_again command.Armw = refl
code_again command.Frmw = refl

-- the parts of a length word
record IsWord (word len : ℕ) (more : Bool) : Type 0 where
  size : word % 2048 ≡ len
  circulating : (word / 16384 % 2 == 1) ≡ false
  more_bit : (word / 32768 % 2 == 1) ≡ more
  fits : word < 256 ^ 2

word_parts : (len : ℕ) (more : Bool) → len ≤ 1486 → IsWord (length_word len more) len more
word_parts len true h =
    let a : (len + 32768) / 16384 % 2 ≡ 0 = omega arith in
    let b : (len + 32768) / 32768 % 2 ≡ 1 = omega arith in
    record { size = omega arith; circulating = rw a refl; more_bit = rw b refl; fits = omega arith }
word_parts len false h =
    let a : len / 16384 % 2 ≡ 0 = omega arith in
    let b : len / 32768 % 2 ≡ 0 = omega arith in
    record { size = omega arith; circulating = rw a refl; more_bit = rw b refl; fits = omega arith }

-- what is read of the bytes of a datagram
word_again : (d : Entry) (m : Bool) (rest : List ℕ) → length d.bytes ≤ 1486 → word_at (entry_bytes d m ++ rest) ≡ length_word (length d.bytes) m
unfolding entry_bytes
word_again d m rest h = little_number-reads_back 2 (length_word (length d.bytes) m) ((0 ∷ 0 ∷ []) ++ ((d.bytes ++ little_bytes 2 d.counter) ++ rest)) (word_parts (length d.bytes) m h).fits

length_all : (d : Entry) (m : Bool) (rest : List ℕ) → length (entry_bytes d m ++ rest) ≡ 12 + length d.bytes + length rest
unfolding entry_bytes
length_all d m rest = omega (arith, length-append (d.bytes ++ little_bytes 2 d.counter) rest, length-append d.bytes (little_bytes 2 d.counter))

tail_of : (d : Entry) (m : Bool) (rest : List ℕ) → drop 10 (entry_bytes d m ++ rest) ≡ d.bytes ++ (little_bytes 2 d.counter ++ rest)
unfolding entry_bytes
tail_of d m rest = append_assoc d.bytes (little_bytes 2 d.counter) rest

address_again : (d : Entry) (m : Bool) (rest : List ℕ) → d.address < 2 ^ 32 → little_number 4 (drop 2 (entry_bytes d m ++ rest)) ≡ d.address
unfolding entry_bytes
address_again d m rest h = little_number-reads_back 4 d.address (little_bytes 2 (length_word (length d.bytes) m) ++ (0 ∷ 0 ∷ []) ++ ((d.bytes ++ little_bytes 2 d.counter) ++ rest)) h

front_again : (d : Entry) (m : Bool) (rest : List ℕ) → (slice_index (entry_bytes d m ++ rest) 0 ≡ code_in d.command) × (slice_index (entry_bytes d m ++ rest) 1 ≡ d.index)
    × (little_number 2 (drop 8 (entry_bytes d m ++ rest)) ≡ 0)
unfolding entry_bytes
front_again d m rest = (refl, refl, refl)

more_drop : (k n : ℕ) (xs ys : List ℕ) → drop k xs ≡ ys → drop (k + n) xs ≡ drop n ys
more_drop k n xs ys e = sym (drop-drop n k xs) ∙ ap (drop n) e

past_of : (d : Entry) (m : Bool) (rest : List ℕ) → drop (10 + length d.bytes) (entry_bytes d m ++ rest) ≡ little_bytes 2 d.counter ++ rest
past_of d m rest = more_drop 10 (length d.bytes) _ _ (tail_of d m rest) ∙ drop_at d.bytes (little_bytes 2 d.counter ++ rest) (length d.bytes) refl

-- a datagram's bytes begin with it
begins_again : (d : Entry) (m : Bool) (rest : List ℕ) → IsWhole d → BeginsWith (entry_bytes d m ++ rest) d m rest
begins_again d m rest h =
    let t = entry_bytes d m ++ rest in
    let n = length d.bytes in
    let size = length_all d m rest in
    let parts = word_parts n m h.short in
    let w : word_at t ≡ length_word n m = word_again d m rest h.short in
    let l : size_at t ≡ n = ap (λ x. x % 2048) w ∙ parts.size in
    let (code, index, event) = front_again d m rest in
    let past : drop (10 + n) t ≡ little_bytes 2 d.counter ++ rest = past_of d m rest in
    let places : n + 12 ≡ 10 + n + 2 = omega arith in
    let after : drop (size_at t + 12) t ≡ rest = ap (λ n. drop (n + 12) t) l ∙ ap (λ n. drop n t) places ∙ more_drop (10 + n) 2 t _ past in
    let bytes : take (size_at t) (drop 10 t) ≡ d.bytes = ap (λ n. take n (drop 10 t)) l ∙ ap (take n) (tail_of d m rest) ∙ take_at d.bytes (little_bytes 2 d.counter ++ rest) n refl in
    let counter : little_number 2 (drop (10 + size_at t) t) ≡ d.counter =
    ap (λ n. little_number 2 (drop (10 + n) t)) l ∙ ap (little_number 2) past ∙ little_number-reads_back 2 d.counter rest h.counter in
    record {
      header = omega (arith, size);
      command = ap command_with code ∙ code_again d.command;
      index = sym index;
      address = sym (address_again d m rest h.address);
      circulating = h.still ∙ sym (ap (λ x. x / 16384 % 2 == 1) w ∙ parts.circulating);
      more_bit = sym (ap (λ x. x / 32768 % 2 == 1) w ∙ parts.more_bit);
      event = h.quiet ∙ sym event;
      fits = omega (arith, size, l);
      bytes = sym bytes;
      counter = sym counter;
      after = sym after;
    }

append-none : (xs : List ℕ) → xs ++ [] ≡ xs
append-none [] = refl
append-none (x ∷ xs) = ap (λ w. x ∷ w) (append-none xs)

list_again : (ds : List Entry) → ds ≢ [] → All IsWhole ds → AreDatagrams (entries_bytes ds) ds
list_again [] some h = absurd (some refl)
list_again (d ∷ []) some h = begins_again d false [] (All-head IsWhole d [] h)
list_again (d ∷ e ∷ es) some h =
    (entries_bytes (e ∷ es), begins_again d true (entries_bytes (e ∷ es)) (All-head IsWhole d (e ∷ es) h), list_again (e ∷ es) (λ q. cc (q)) (All-tail IsWhole d (e ∷ es) h))

header_again : (ds : List Entry) → extent ds ≤ 1498 → header_at (framed ds) ≡ extent ds + 4096
unfolding framed
header_again ds room = little_number-reads_back 2 (extent ds + 4096) (entries_bytes ds ++ replicate (44 - extent ds) 0) (omega (arith, room))

after_again : (ds : List Entry) → (drop 16 (framed ds) ≡ entries_bytes ds ++ replicate (44 - extent ds) 0) × (slice_index (framed ds) 12 ≡ 136) × (slice_index (framed ds) 13 ≡ 164)
unfolding framed
after_again ds = (refl, refl, refl)

pub framed-reads : (ds : List Entry) → AreWhole ds → ReadsAs (framed ds) ds
framed-reads ds h =
    let room = h.room in
    let header = header_again ds room in
    let (after, low, high) = after_again ds in
    let size : length_at (framed ds) ≡ extent ds = ap (λ x. x % 2048) header ∙ (let n : (extent ds + 4096) % 2048 ≡ extent ds = omega (arith, room) in n) in
    let kind : type_at (framed ds) ≡ 1 = ap (λ x. x / 4096) header ∙ (let n : (extent ds + 4096) / 4096 ≡ 1 = omega (arith, room) in n) in
    let whole = length-framed ds room in
    let datagrams : payload_of (framed ds) ≡ entries_bytes ds =
    ap (λ n. take n (drop 16 (framed ds))) size ∙ ap (take (extent ds)) after ∙ take_at (entries_bytes ds) _ (extent ds) (length-entries ds) in
    record {
      framed = record {
        headers = omega (arith, whole);
        ether_type = (low, high);
        frame_type = kind;
        fits = omega (arith, whole, size);
      };
      datagrams = rw datagrams (list_again ds h.some_datagram h.each);
    }

-- ---- written frames

cut : (d : Datagram) (ds : List Datagram) (bytes : List ℕ) → sum_by (λ x. x.len) (d ∷ ds) ≡ length bytes
    → (length (take d.len bytes) ≡ d.len) × (sum_by (λ x. x.len) ds ≡ length (drop d.len bytes))
cut d ds bytes h =
    let sum = sum_by-cons (λ x. x.len) d ds in
    (length-take-le d.len bytes (omega (arith, sum, h)), omega (arith, length-drop d.len bytes, sum, h))

abbrev new_entry : Datagram → ℕ → List ℕ → Entry
new_entry d i bs = record { command = d.command; index = i; address = d.address; circulating = false; event = 0; counter = 0; bytes = bs }

one-written : (d : Datagram) (i : ℕ) (more : Bool) (bs : List ℕ) → length bs ≡ d.len → datagram_bytes d i more bs ≡ entry_bytes (new_entry d i bs) more
unfolding datagram_bytes entry_bytes
one-written d i more bs e =
    ap (λ n. (code_in d.command ∷ i ∷ []) ++ little_bytes 4 d.address ++ little_bytes 2 (length_word n more) ++ (0 ∷ 0 ∷ []) ++ (bs ++ (0 ∷ 0 ∷ []))) (sym e)

follow-written : (i : ℕ) (ds : List Datagram) (bytes : List ℕ) → some_follow (read_back i ds bytes) ≡ more_than_none ds
follow-written i [] bytes = refl
follow-written i (d ∷ ds) bytes = refl

all-written : (i : ℕ) (ds : List Datagram) (bytes : List ℕ) → sum_by (λ d. d.len) ds ≡ length bytes → datagrams_bytes i ds bytes ≡ entries_bytes (read_back i ds bytes)
all-written i [] bytes sum = refl
all-written i (d ∷ ds) bytes sum =
    let parts = cut d ds bytes sum in
    let here = one-written d i (more_than_none ds) (take d.len bytes) parts.0 ∙ ap (entry_bytes (new_entry d i (take d.len bytes))) (sym (follow-written (suc i) ds (drop d.len bytes))) in
    λ j. here j ++ all-written (suc i) ds (drop d.len bytes) parts.1 j

extent-written : (i : ℕ) (ds : List Datagram) (bytes : List ℕ) → sum_by (λ d. d.len) ds ≡ length bytes → extent (read_back i ds bytes) ≡ total_of ds
extent-written i ds bytes sum = sym (length-entries (read_back i ds bytes)) ∙ ap length (sym (all-written i ds bytes sum)) ∙ length-datagrams_bytes i ds bytes sum

pub written-framed : (ds : List Datagram) (bytes : List ℕ) → sum_by (λ d. d.len) ds ≡ length bytes → written ds bytes ≡ framed (read_back 0 ds bytes)
unfolding written framed
written-framed ds bytes sum =
    let e = extent-written 0 ds bytes sum in
    let all = all-written 0 ds bytes sum in
    let size = length-datagrams_bytes 0 ds bytes sum in
    let front = headers (total_of ds) in
    let pad : 60 - length (front ++ datagrams_bytes 0 ds bytes) ≡ 44 - total_of ds = omega (arith, length-append front (datagrams_bytes 0 ds bytes), size) in
    append_assoc front (datagrams_bytes 0 ds bytes) (replicate (60 - length (front ++ datagrams_bytes 0 ds bytes)) 0)
    ∙ ap (λ n. front ++ (datagrams_bytes 0 ds bytes ++ replicate n 0)) pad
    ∙ (λ i. headers (sym e i) ++ (all i ++ replicate (44 - sym e i) 0))

abbrev IsShort : Datagram → Type 0
IsShort d = d.len ≤ 1486

abbrev IsWide : Datagram → Type 0
IsWide d = d.address < 2 ^ 32

each-whole : (i : ℕ) (ds : List Datagram) (bytes : List ℕ) → All IsShort ds → All IsWide ds → sum_by (λ d. d.len) ds ≡ length bytes → All IsWhole (read_back i ds bytes)
each-whole i [] bytes short wide sum = All-nil IsWhole
each-whole i (d ∷ ds) bytes short wide sum =
    let parts = cut d ds bytes sum in
    let small : d.len ≤ 1486 = All-head IsShort d ds short in
    All-cons IsWhole (new_entry d i (take d.len bytes)) (read_back (suc i) ds (drop d.len bytes))
    (record { address = All-head IsWide d ds wide; still = refl; quiet = refl; counter = omega arith; short = omega (arith, parts.0, small) })
    (each-whole (suc i) ds (drop d.len bytes) (All-tail IsShort d ds short) (All-tail IsWide d ds wide) parts.1)

none-back : (ds : List Datagram) (bytes : List ℕ) → ds ≢ [] → read_back 0 ds bytes ≢ []
none-back [] bytes some h = some refl
none-back (d ∷ ds) bytes some h = absurd (cc (h))

pub back-whole : (ds : List Datagram) (bytes : List ℕ) → AreBuildable ds → All IsWide ds → sum_by (λ d. d.len) ds ≡ length bytes → AreWhole (read_back 0 ds bytes)
back-whole ds bytes b wide sum =
    record {
      some_datagram = none-back ds bytes b.some_datagram;
      each = each-whole 0 ds bytes b.short wide sum;
      room = let r = b.room in omega (arith, r, extent-written 0 ds bytes sum);
    }

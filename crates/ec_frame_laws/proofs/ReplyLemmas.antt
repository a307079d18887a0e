-- A reply is read as as many datagrams, and frames that pass a line of slaves are replies.
-- All that reading asks of a datagram stands in bytes that no slave may change; so do the lengths, by which one finds the next.
use Rattle.std.proofs.Common.{◌≡◌, ◌⊎◌, inl, inr, ℕ, suc, ◌+◌, ◌*◌, ◌/◌, ◌%◌, ◌<◌, ◌≤◌, ◌==◌, ◌&&◌, ◌||◌, Bool, true, false, List, [], ◌∷◌, length, take, drop, get_or, refl, ap, sym, ◌∙◌, subst, arith, length-take, length-drop, drop_of_length-le}
use Rattle.std.specs.Prelude.{nat_lt, nat_le, slice_index}
use Rattle.std.proofs.lemmas.Bool.Decides.{nat_tests}
use Rattle.std.proofs.lemmas.List.{get_or-drop, get_or-take}
use Rattle.byteorder.specs.Endian.{little_number}
use Rattle.ec_frames.specs.declared.command.Command.{Command}
use Rattle.ec_frames.specs.Table.{command_with}
use Rattle.ec_frames.specs.Reading.{Entry, word_at, size_at, circulates, header_at, length_at, payload_of, BeginsWith, AreDatagrams, IsFramed, ReadsAs}
use Rattle.ec_frames.proofs.ReadingFrames.{law_one_reading}
use Rattle.ec_slave.specs.Requests.{row_of}
use Rattle.ec_slave.specs.Step.{memory_after, frame_after, is_raised, datagrams_step}
use Rattle.ec_slave.specs.Journey.{through}
use Rattle.ec_slave.proofs.StepLemmas.{extent_fits, step_read}
use Rattle.ec_player.specs.Faults.{is_open, may_change}
use Rattle.ec_play_laws.specs.IsReply.{IsReply}
use Rattle.ec_play_laws.proofs.KeptLemmas.{word-same, steps-kept, open-out}
use Rattle.ec_frame_laws.specs.Replies.{IsBackOf, AreBackOf, ReadsBackOf}

-- ---- bytes that no slave may change

and-none : (b : Bool) → (b && false) ≡ false
and-none true = refl
and-none false = refl

outside : (low high k : ℕ) → (k < low) ⊎ (high ≤ k) → (nat_le low k && nat_lt k high) ≡ false
outside low high k (inl a) = let e : nat_le low k ≡ false = grind (arith, nat_tests) in ap (λ b. b && nat_lt k high) e
outside low high k (inr a) = let e : nat_lt k high ≡ false = grind (arith, nat_tests) in ap (λ b. nat_le low k && b) e ∙ and-none (nat_le low k)

shut-if : (k at : ℕ) (d : Entry) → (k < at + 2) ⊎ (at + 4 ≤ k) → (k < at + 10) ⊎ (at + 12 + length d.bytes ≤ k) → is_open at d k ≡ false
shut-if k at d p q =
    let r = is_raised (row_of d.command).kind in
    let e = outside (at + 2) (at + 4) k p in
    let f = outside (at + 10) (at + 12 + length d.bytes) k q in
    (λ i. (r && e i) || f i) ∙ ap (λ b. b || false) (and-none r)

-- in front of the datagrams
front-shut : (k at : ℕ) (ds : List Entry) → k < at → may_change at ds k ≡ false
front-shut k at [] l = refl
front-shut k at (d ∷ ds) l = λ i. shut-if k at d (inl (omega (arith, l))) (inl (omega (arith, l))) i || front-shut k (at + (length d.bytes + 12)) ds (omega (arith, l)) i

moved : (at j : ℕ) → (j < 2) ⊎ (4 ≤ j) → (at + j < at + 2) ⊎ (at + 4 ≤ at + j)
moved at j (inl a) = inl (omega (arith, a))
moved at j (inr a) = inr (omega (arith, a))

-- of a header but for the position
head-shut : (at j : ℕ) (d : Entry) (ds : List Entry) → (j < 2) ⊎ (4 ≤ j) → j < 10 → may_change at (d ∷ ds) (at + j) ≡ false
head-shut at j d ds p l = λ i. shut-if (at + j) at d (moved at j p) (inl (omega (arith, l))) i || front-shut (at + j) (at + (length d.bytes + 12)) ds (omega (arith, l)) i

-- of a whole header, where slaves don't count the position up
whole-shut : (at j : ℕ) (d : Entry) (ds : List Entry) → is_raised (row_of d.command).kind ≡ false → j < 10 → may_change at (d ∷ ds) (at + j) ≡ false
whole-shut at j d ds r l =
    let f = outside (at + 10) (at + 12 + length d.bytes) (at + j) (inl (omega (arith, l))) in
    λ i. ((r i && (nat_le (at + 2) (at + j) && nat_lt (at + j) (at + 4))) || f i) || front-shut (at + j) (at + (length d.bytes + 12)) ds (omega (arith, l)) i

-- bytes that agree where no slave may change them
abbrev Agree : ℕ → List Entry → List ℕ → List ℕ → Type 0
Agree at ds p q = (k : ℕ) → k < length p → may_change at ds (at + k) ≡ false → get_or q k 0 ≡ get_or p k 0

agree-rest : (at : ℕ) (d : Entry) (ds : List Entry) (p q : List ℕ) (n : ℕ) → n ≡ length d.bytes + 12 → n ≤ length p → Agree at (d ∷ ds) p q → Agree (at + (length d.bytes + 12)) ds (drop n p) (drop n q)
agree-rest at d ds p q n e l h = λ k m shut.
    let c = length-drop n p in
    let place : at + (length d.bytes + 12) + k ≡ at + (n + k) = omega (arith, e) in
    let own = shut-if (at + (n + k)) at d (inr (omega (arith, e))) (inr (omega (arith, e))) in
    get_or-drop n q k 0
    ∙ h (n + k) (omega (arith, c, l, m)) (λ i. own i || (ap (may_change (at + (length d.bytes + 12)) ds) (sym place) ∙ shut) i)
    ∙ sym (get_or-drop n p k 0)

-- ---- one datagram

four-same : (p q : List ℕ) (n : ℕ) → ((j : ℕ) → j < 4 → get_or q (n + j) 0 ≡ get_or p (n + j) 0) → little_number 4 (drop n q) ≡ little_number 4 (drop n p)
four-same p q n h =
    let byte : (j : ℕ) → j < 4 → get_or (drop n q) j 0 ≡ get_or (drop n p) j 0 = λ j l. get_or-drop n q j 0 ∙ h j l ∙ sym (get_or-drop n p j 0) in
    let a = byte 0 (omega arith) in
    let b = byte 1 (omega arith) in
    let c = byte 2 (omega arith) in
    let d = byte 3 (omega arith) in
    λ i. a i + 256 * (b i + 256 * (c i + 256 * (d i + 256 * 0)))

-- what bytes are read as that begin with a datagram of this command
abbrev entry_at : List ℕ → Command → Entry
entry_at q c = record {
  command = c;
  index = slice_index q 1;
  address = little_number 4 (drop 2 q);
  circulating = circulates q;
  event = little_number 2 (drop 8 q);
  counter = little_number 2 (drop (10 + size_at q) q);
  bytes = take (size_at q) (drop 10 q);
}

record IsSame (d : Entry) (more : Bool) (rest p q : List ℕ) : Type 0 where
  size : size_at q ≡ size_at p
  own : length d.bytes ≡ size_at p
  begins : BeginsWith q (entry_at q d.command) more (drop (size_at q + 12) q)
  back : IsBackOf d (entry_at q d.command)

is-same : (at : ℕ) (d : Entry) (ds : List Entry) (more : Bool) (rest p q : List ℕ) → length q ≡ length p → BeginsWith p d more rest → Agree at (d ∷ ds) p q → IsSame d more rest p q
is-same at d ds more rest p q n b h =
    let l = b.header in
    let fits = b.fits in
    let byte : (j : ℕ) → (j < 2) ⊎ (4 ≤ j) → j < 10 → get_or q j 0 ≡ get_or p j 0 = λ j c m. h j (omega (arith, l, m)) (head-shut at j d ds c m) in
    let word : word_at q ≡ word_at p = word-same p q 6 (byte 6 (inr (omega arith)) (omega arith)) (byte 7 (inr (omega arith)) (omega arith)) in
    let event : little_number 2 (drop 8 q) ≡ little_number 2 (drop 8 p) = word-same p q 8 (byte 8 (inr (omega arith)) (omega arith)) (byte 9 (inr (omega arith)) (omega arith)) in
    let size : size_at q ≡ size_at p = ap (λ w. w % 2048) word in
    let x = length-drop 10 p in
    let y = length-drop 10 q in
    let own : length d.bytes ≡ size_at p = omega (arith, fits, x, ap length b.bytes, length-take (size_at p) (drop 10 p)) in
    let now : length (take (size_at q) (drop 10 q)) ≡ size_at q = omega (arith, fits, size, n, y, length-take (size_at q) (drop 10 q)) in
    record {
      size = size;
      own = own;
      begins = record {
        header = omega (arith, l, n);
        command = ap command_with (byte 0 (inl (omega arith)) (omega arith)) ∙ b.command;
        index = refl;
        address = refl;
        circulating = refl;
        more_bit = b.more_bit ∙ ap (λ w. w / 32768 % 2 == 1) (sym word);
        event = refl;
        fits = omega (arith, fits, size, n);
        bytes = refl;
        counter = refl;
        after = refl;
      };
      back = record {
        command = refl;
        index = byte 1 (inl (omega arith)) (omega arith) ∙ sym b.index;
        address = λ r. four-same p q 2 (λ j m. h (2 + j) (omega (arith, l, m)) (whole-shut at (2 + j) d ds r (omega (arith, m)))) ∙ sym b.address;
        circulating = ap (λ w. w / 16384 % 2 == 1) word ∙ sym b.circulating;
        event = event ∙ sym b.event;
        size = now ∙ size ∙ sym own;
      };
    }

-- ---- one datagram after the other

record AreRead (ds : List Entry) (q : List ℕ) : Type 0 where
  entries : List Entry
  reads : AreDatagrams q entries
  back : AreBackOf ds entries

joined : (q rest : List ℕ) (e : Entry) (es : List Entry) → BeginsWith q e true rest → AreDatagrams rest es → AreDatagrams q (e ∷ es)
joined q rest e [] b a = absurd a
joined q rest e (f ∷ fs) b a = (rest, b, a)

nothing-left : (p q : List ℕ) (n : ℕ) → length q ≡ length p → [] ≡ drop n p → drop n q ≡ []
nothing-left p q n e h = drop_of_length-le q (omega (arith, e, ap length h, length-drop n p))

read-on : (at : ℕ) (ds : List Entry) (p q : List ℕ) → length q ≡ length p → AreDatagrams p ds → Agree at ds p q → AreRead ds q
read-on at [] p q n a h = absurd a
read-on at (d ∷ []) p q n a h =
    let same = is-same at d [] false [] p q n a h in
    let size = same.size in
    let left = nothing-left p q (size_at p + 12) n a.after in
    record {
      entries = entry_at q d.command ∷ [];
      reads = subst (BeginsWith q (entry_at q d.command) false) (ap (λ m. drop (m + 12) q) size ∙ left) same.begins;
      back = (same.back, tt);
    }
read-on at (d ∷ c ∷ ds) p q n a h =
    let same = is-same at d (c ∷ ds) true a.0 p q n a.1 h in
    let size = same.size in
    let own = same.own in
    let after = a.1.after in
    let rest = drop (size_at q + 12) q in
    let agree = agree-rest at d (c ∷ ds) p q (size_at p + 12) (omega (arith, own)) a.1.fits h in
    let left : drop (size_at p + 12) q ≡ rest = ap (λ m. drop (m + 12) q) (sym size) in
    let x = length-drop (size_at p + 12) p in
    let y = length-drop (size_at q + 12) q in
    let more = read-on (at + (length d.bytes + 12)) (c ∷ ds) a.0 rest (omega (arith, x, y, n, size, ap length after)) a.2
    (subst (λ r. Agree (at + (length d.bytes + 12)) (c ∷ ds) r rest) (sym after) (subst (Agree (at + (length d.bytes + 12)) (c ∷ ds) (drop (size_at p + 12) p)) left agree)) in
    record {
      entries = entry_at q d.command ∷ more.entries;
      reads = joined q rest (entry_at q d.command) more.entries same.begins more.reads;
      back = (same.back, more.back);
    }

-- ---- a frame

framed-same : (sent back : List ℕ) → length back ≡ length sent → ((j : ℕ) → j < 16 → get_or back j 0 ≡ get_or sent j 0) → header_at back ≡ header_at sent → IsFramed sent → IsFramed back
framed-same sent back e byte header h =
    let l = h.headers in
    let fits = h.fits in
    let size : length_at back ≡ length_at sent = ap (λ x. x % 2048) header in
    record {
      headers = omega (arith, l, e);
      ether_type = (byte 12 (omega arith) ∙ h.ether_type.0, byte 13 (omega arith) ∙ h.ether_type.1);
      frame_type = ap (λ x. x / 4096) header ∙ h.frame_type;
      fits = omega (arith, fits, size, e);
    }

pub reply-reads : (sent back : List ℕ) (ds : List Entry) → ReadsAs sent ds → IsReply ds sent back → ReadsBackOf ds back
reply-reads sent back ds h r =
    let l = h.framed.headers in
    let fits = h.framed.fits in
    let same = r.len in
    let byte : (j : ℕ) → j < 16 → get_or back j 0 ≡ get_or sent j 0 = λ j m. r.bytes j (omega (arith, l, m)) (front-shut j 16 ds m) in
    let header : header_at back ≡ header_at sent = word-same sent back 14 (byte 14 (omega arith)) (byte 15 (omega arith)) in
    let size : length_at back ≡ length_at sent = ap (λ x. x % 2048) header in
    let a = length-take (length_at sent) (drop 16 sent) in
    let b = length-drop 16 sent in
    let c = length-take (length_at back) (drop 16 back) in
    let d = length-drop 16 back in
    let read = read-on 16 ds (payload_of sent) (payload_of back) (omega (arith, a, b, c, d, same, size, fits)) h.datagrams
    (λ j m shut.
    ap (λ n. get_or (take n (drop 16 back)) j 0) size
    ∙ get_or-take (length_at sent) (drop 16 back) j 0 (omega (arith, a, b, fits, m))
    ∙ get_or-drop 16 back j 0
    ∙ r.bytes (16 + j) (omega (arith, a, b, fits, m)) shut
    ∙ sym (get_or-drop 16 sent j 0)
    ∙ sym (get_or-take (length_at sent) (drop 16 sent) j 0 (omega (arith, a, b, fits, m)))) in
    record {
      entries = read.entries;
      reads = record { framed = framed-same sent back same byte header h.framed; datagrams = read.reads };
      back = read.back;
    }

back-length : (ds es : List Entry) → AreBackOf ds es → length es ≡ length ds
back-length [] [] h = refl
back-length [] (e ∷ es) h = absurd h
back-length (d ∷ ds) [] h = absurd h
back-length (d ∷ ds) (e ∷ es) h = ap suc (back-length ds es h.1)

pub as-many : (sent back : List ℕ) (ds es : List Entry) → ReadsAs sent ds → ReadsAs back es → IsReply ds sent back → length es ≡ length ds
as-many sent back ds es h k r =
    let read = reply-reads sent back ds h r in
    ap length (law_one_reading back es read.entries k read.reads) ∙ back-length ds read.entries read.back

-- ---- a slave, and a line of slaves

pub frame-kept : (memory frame : List ℕ) (ds : List Entry) → ReadsAs frame ds → IsReply ds frame (frame_after memory frame)
frame-kept memory frame ds h =
    let fits = extent_fits frame ds h in
    let step : frame_after memory frame ≡ (datagrams_step 16 ds (memory, frame)).1 = ap (λ s. s.1) (step_read memory frame ds h) in
    subst (IsReply ds frame) (sym step)
    (record {
      len = (steps-kept ds 16 0 memory frame (omega (arith, fits)) (front-shut 0 16 ds (omega arith))).0;
      bytes = λ k l shut. (steps-kept ds 16 k memory frame (omega (arith, fits)) shut).1;
    })

back-may : (at k : ℕ) (ds es : List Entry) → AreBackOf ds es → may_change at es k ≡ may_change at ds k
back-may at k [] [] h = refl
back-may at k [] (e ∷ es) h = absurd h
back-may at k (d ∷ ds) [] h = absurd h
back-may at k (d ∷ ds) (e ∷ es) h =
    let rest = ap (λ m. may_change (at + (m + 12)) es k) h.0.size ∙ back-may (at + (length d.bytes + 12)) k ds es h.1 in
    λ i. open-out at k d e h.0.command h.0.size i || rest i

pub line-kept : (slaves : List (List ℕ)) (frame : List ℕ) (ds : List Entry) → ReadsAs frame ds → IsReply ds frame (through frame_after memory_after slaves frame)
line-kept [] frame ds h = record { len = refl; bytes = λ k l shut. refl }
line-kept (s ∷ ss) frame ds h =
    let first = frame-kept s frame ds h in
    let read = reply-reads frame (frame_after s frame) ds h first in
    let rest = line-kept ss (frame_after s frame) read.entries read.reads in
    let same = first.len in
    record {
      len = rest.len ∙ first.len;
      bytes = λ k l shut. rest.bytes k (omega (arith, l, same)) (back-may 16 k ds read.entries read.back ∙ shut) ∙ first.bytes k l shut;
    }

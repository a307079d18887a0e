-- Frames: what `frame_read` gives is what `ReadsAs` and `HasFault` say.
-- The header tests are one `data` type with a constructor for each outcome; the laws go by its cases. `Ok {E = ..} x`
-- isn't accepted: `same_ok`, whose proof is `cc`, takes `Ok ds ≡ Ok es` to `ds ≡ es`. `read_is` and `fault_is` are what
-- `ec_slave` cites.
use Rattle.std.proofs.Common.{◌≡◌, ◌≢◌, ◌⊎◌, ◌↔◌, inl, inr, subst, ℕ, suc, ◌+◌, Bool, true, false, not, ◌&&◌, ◌==◌, List, length, slice_index, Result, Ok, Err, refl, ap, sym, ◌∙◌, arith}
use Rattle.std.specs.Prelude.{nat_lt}
use Rattle.std.proofs.lemmas.Bool.Decides.{nat_tests}
use Rattle.ec_frames.specs.declared.reading.FrameFault.{FrameFault}
use Rattle.ec_frames.specs.declared.reading.FrameFault.TheVariants as fault
use Rattle.ec_frames.specs.Reading.{Entry, IsEtherCat, length_at, type_at, payload_of, IsFramed, ReadsAs, IsFaultAmong, HasFault}
use Rattle.ec_frames.specs.Parsing.{and_then, is_ether_cat, payload_in, payload_read, frame_read}
use Rattle.ec_frames.proofs.ReadingLists.{list_found, list_reads, list_fault, list_faults}

both_equal : (a b m n : ℕ) → ((a == m) && (b == n)) ≡ true → (a ≡ m) × (b ≡ n)
both_equal a b m n h = (grind (arith, nat_tests), grind (arith, nat_tests))

ether_cat_true : (frame : List ℕ) → is_ether_cat frame ≡ true → IsEtherCat frame
ether_cat_true frame h = both_equal (slice_index frame 12) (slice_index frame 13) 0x88 0xA4 h

true_ether_cat : (frame : List ℕ) → IsEtherCat frame → is_ether_cat frame ≡ true
true_ether_cat frame h = rw (h.0, h.1) refl

not_true : (b : Bool) → not b ≡ true → b ≡ true → ⊥
not_true true h e = cc (h)
not_true false h e = cc (e)

not_false : (b : Bool) → not b ≡ false → b ≡ true
not_false true h = refl
not_false false h = absurd (cc (h))

false_ether_cat : (b : Bool) → ¬ (b ≡ true) → not b ≡ true
false_ether_cat true h = absurd (h refl)
false_ether_cat false h = refl

-- right headers give the payload
framed_in : (frame : List ℕ) → IsFramed frame → payload_in frame ≡ Ok (payload_of frame)
unfolding payload_in
framed_in frame h =
    let headers : nat_lt (length frame) 16 ≡ false = let l = h.headers in grind (arith, nat_tests) in
    let ether_type = true_ether_cat frame h.ether_type in
    let kind : (type_at frame == 1) ≡ true = let l = h.frame_type in grind (arith, nat_tests) in
    let fits : nat_lt (length frame) (length_at frame + 16) ≡ false = let l = h.fits in grind (arith, nat_tests) in
    rw (headers, ether_type, kind, fits) refl

-- what the tests of the headers say, one after the other
data Headers (frame : List ℕ) : Type 0 where
  short : nat_lt (length frame) 16 ≡ true → Headers frame
  other : nat_lt (length frame) 16 ≡ false → not (is_ether_cat frame) ≡ true → Headers frame
  kind : nat_lt (length frame) 16 ≡ false → not (is_ether_cat frame) ≡ false → not (type_at frame == 1) ≡ true → Headers frame
  past : nat_lt (length frame) 16 ≡ false → not (is_ether_cat frame) ≡ false → not (type_at frame == 1) ≡ false → nat_lt (length frame) (length_at frame + 16) ≡ true → Headers frame
  right : nat_lt (length frame) 16 ≡ false → not (is_ether_cat frame) ≡ false → not (type_at frame == 1) ≡ false → nat_lt (length frame) (length_at frame + 16) ≡ false → Headers frame

true_or_false : (b : Bool) → (b ≡ true) ⊎ (b ≡ false)
true_or_false true = inl refl
true_or_false false = inr refl

headers_of : (frame : List ℕ) → Headers frame
headers_of frame =
    elim (true_or_false (nat_lt (length frame) 16)) [
      | inl a ↦ short a
      | inr a ↦ elim (true_or_false (not (is_ether_cat frame))) [
        | inl b ↦ other a b
        | inr b ↦ elim (true_or_false (not (type_at frame == 1))) [
          | inl c ↦ kind a b c
          | inr c ↦ elim (true_or_false (nat_lt (length frame) (length_at frame + 16))) [
            | inl d ↦ past a b c d
            | inr d ↦ right a b c d
          ]
        ]
      ]
    ]

not_one : (n : ℕ) → not (n == 1) ≡ true → n ≢ 1
not_one n h = grind (arith, nat_tests)

one : (n : ℕ) → not (n == 1) ≡ false → n ≡ 1
one n h = grind (arith, nat_tests)

-- the payload, or a fault of the headers whose condition holds
data Payload (frame : List ℕ) : Type 0 where
  whole : IsFramed frame → Payload frame
  broken : (f : FrameFault) → payload_in frame ≡ Err f → HasFault f frame → Payload frame

payload_by : (frame : List ℕ) → Headers frame → Payload frame
unfolding payload_in
payload_by frame (short a) = broken fault.Short (rw a refl) (grind (arith, nat_tests))
payload_by frame (other a b) =
    broken fault.NotEtherCat (rw (a, b) refl) (grind (arith, nat_tests, a), λ e. not_true (is_ether_cat frame) b (true_ether_cat frame e))
payload_by frame (kind a b c) =
    broken (fault.FrameType (type_at frame)) (rw (a, b, c) refl)
    (grind (arith, nat_tests, a), ether_cat_true frame (not_false (is_ether_cat frame) b), refl, not_one (type_at frame) c)
payload_by frame (past a b c d) =
    broken fault.Length (rw (a, b, c, d) refl)
    (grind (arith, nat_tests, a), ether_cat_true frame (not_false (is_ether_cat frame) b), one (type_at frame) c, grind (arith, nat_tests, d))
payload_by frame (right a b c d) = whole (record {
  headers = grind (arith, nat_tests, a);
  ether_type = ether_cat_true frame (not_false (is_ether_cat frame) b);
  frame_type = one (type_at frame) c;
  fits = grind (arith, nat_tests, d);
})

same_ok : (r : Result (List Entry) FrameFault) (ds es : List Entry) → r ≡ Ok ds → r ≡ Ok es → ds ≡ es
same_ok r ds es a b = cc

same_err : (r : Result (List Entry) FrameFault) (f g : FrameFault) → r ≡ Err f → r ≡ Err g → f ≡ g
same_err r f g a b = cc

through : (frame : List ℕ) → IsFramed frame → frame_read frame ≡ payload_read (payload_of frame)
through frame framed = ap (λ r. and_then r payload_read) (framed_in frame framed)

stopped : (frame : List ℕ) (f : FrameFault) → payload_in frame ≡ Err f → frame_read frame ≡ Err f
stopped frame f h = ap (λ r. and_then r payload_read) h

found_by : (frame : List ℕ) (ds : List Entry) → Payload frame → frame_read frame ≡ Ok ds → ReadsAs frame ds
unfolding payload_read
found_by frame ds (whole framed) h =
    let read : payload_read (payload_of frame) ≡ Ok ds = sym (through frame framed) ∙ h in
    record { framed = framed; datagrams = list_found (suc (length (payload_of frame))) (payload_of frame) ds read }
found_by frame ds (broken f is has) h = absurd (cc (stopped frame f is, h))

found : (frame : List ℕ) (ds : List Entry) → frame_read frame ≡ Ok ds → ReadsAs frame ds
found frame ds = found_by frame ds (payload_by frame (headers_of frame))

reads : (frame : List ℕ) (ds : List Entry) → ReadsAs frame ds → frame_read frame ≡ Ok ds
unfolding payload_read
reads frame ds h = through frame h.framed ∙ list_reads ds (payload_of frame) (suc (length (payload_of frame))) (omega arith) h.datagrams

among : (frame : List ℕ) (f : FrameFault) → IsFramed frame → IsFaultAmong f (payload_of frame) → HasFault f frame
among frame fault.Short framed h = absurd h.3
among frame fault.NotEtherCat framed h = absurd h.3
among frame (fault.FrameType n) framed h = absurd h.3
among frame fault.Length framed h = absurd h.3
among frame (fault.UnknownCommand code) framed h = (framed, h)
among frame fault.DataPastEnd framed h = (framed, h)
among frame fault.MoreAtEnd framed h = (framed, h)
among frame fault.RestAfterLast framed h = (framed, h)

fault_by : (frame : List ℕ) (f : FrameFault) → Payload frame → frame_read frame ≡ Err f → HasFault f frame
unfolding payload_read
fault_by frame f (whole framed) h =
    let read : payload_read (payload_of frame) ≡ Err f = sym (through frame framed) ∙ h in
    among frame f framed (list_fault (suc (length (payload_of frame))) (payload_of frame) f (omega arith) read)
fault_by frame f (broken g is has) h =
    subst (λ (x : FrameFault). HasFault x frame) (same_err (frame_read frame) g f (stopped frame g is) h) has

fault_found : (frame : List ℕ) (f : FrameFault) → frame_read frame ≡ Err f → HasFault f frame
fault_found frame f = fault_by frame f (payload_by frame (headers_of frame))

fault_among : (frame : List ℕ) (f : FrameFault) → IsFramed frame → IsFaultAmong f (payload_of frame) → frame_read frame ≡ Err f
unfolding payload_read
fault_among frame f framed h = through frame framed ∙ list_faults (payload_of frame) f (suc (length (payload_of frame))) (omega arith) h

fault_reads : (frame : List ℕ) (f : FrameFault) → HasFault f frame → frame_read frame ≡ Err f
unfolding payload_in
fault_reads frame fault.Short h =
    let a : nat_lt (length frame) 16 ≡ true = grind (arith, nat_tests) in
    stopped frame fault.Short (rw a refl)
fault_reads frame fault.NotEtherCat h =
    let a : nat_lt (length frame) 16 ≡ false = let l = h.0 in grind (arith, nat_tests) in
    let b : not (is_ether_cat frame) ≡ true = false_ether_cat (is_ether_cat frame) (λ e. h.1 (ether_cat_true frame e)) in
    stopped frame fault.NotEtherCat (rw (a, b) refl)
fault_reads frame (fault.FrameType n) h =
    let a : nat_lt (length frame) 16 ≡ false = let l = h.0 in grind (arith, nat_tests) in
    let b = true_ether_cat frame h.1 in
    let c : (type_at frame == 1) ≡ false = let l = h.2 in let m = h.3 in grind (arith, nat_tests) in
    stopped frame (fault.FrameType n) (rw (a, b, c) (ap (λ x. Err (fault.FrameType x)) (sym h.2)))
fault_reads frame fault.Length h =
    let a : nat_lt (length frame) 16 ≡ false = let l = h.0 in grind (arith, nat_tests) in
    let b = true_ether_cat frame h.1 in
    let c : (type_at frame == 1) ≡ true = let l = h.2 in grind (arith, nat_tests) in
    let d : nat_lt (length frame) (length_at frame + 16) ≡ true = let l = h.3 in grind (arith, nat_tests) in
    stopped frame fault.Length (rw (a, b, c, d) refl)
fault_reads frame (fault.UnknownCommand code) h = fault_among frame (fault.UnknownCommand code) h.0 h.1
fault_reads frame fault.DataPastEnd h = fault_among frame fault.DataPastEnd h.0 h.1
fault_reads frame fault.MoreAtEnd h = fault_among frame fault.MoreAtEnd h.0 h.1
fault_reads frame fault.RestAfterLast h = fault_among frame fault.RestAfterLast h.0 h.1

-- what is read is what the relation says
pub read_is : (frame : List ℕ) (ds : List Entry) → (frame_read frame ≡ Ok ds) ↔ ReadsAs frame ds
read_is frame ds = (found frame ds, reads frame ds)

-- a fault that is given is the one whose condition holds
pub fault_is : (frame : List ℕ) (f : FrameFault) → (frame_read frame ≡ Err f) ↔ HasFault f frame
fault_is frame f = (fault_found frame f, fault_reads frame f)

-- one reading at most
pub law_one_reading : (frame : List ℕ) (ds es : List Entry) → ReadsAs frame ds → ReadsAs frame es → ds ≡ es
law_one_reading frame ds es a b = same_ok (frame_read frame) ds es (reads frame ds a) (reads frame es b)

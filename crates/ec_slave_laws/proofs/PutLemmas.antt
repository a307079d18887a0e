-- Bytes that are put into a datagram in the midst of a frame.
-- A frame is a list of datagrams (`framed`). Each write of a slave's step is `put` in the midst of `front ++ (bytes ++
-- rest)`: `put-mid` serves position, data and counter, and no offset is counted twice.
use Rattle.std.proofs.Common.{◌≡◌, ℕ, ◌+◌, ◌*◌, ◌/◌, ◌%◌, ◌<◌, ◌==◌, Bool, true, false, cond, List, [], ◌∷◌, ◌++◌, length, take, drop, Option, Some, None, unwrap_or, refl, ap, sym, ◌∙◌, arith, length-append, append_assoc}
use Rattle.std.proofs.lemmas.List.{take_at, drop_at}
use Rattle.byteorder.specs.Endian.{little_bytes}
use Rattle.ec_frames.specs.declared.command.AddressKind.{AddressKind}
use Rattle.ec_frames.specs.Reading.{Entry}
use Rattle.ec_frames.specs.Written.{code_in, length_word}
use Rattle.ec_slave.specs.Access.{Effect, put, low_half, offset_of}
use Rattle.ec_slave.specs.Step.{is_raised, raised, replied, counted, after_effect}
use Rattle.ec_slave_laws.specs.Datagrams.{head_of, entry_bytes, raised_address, entry_done}

put-mid : (a x b y : List ℕ) (n : ℕ) → n ≡ length a → length y ≡ length x → put n y (a ++ (x ++ b)) ≡ a ++ (y ++ b)
put-mid a x b y n e l =
    let t : take n (a ++ (x ++ b)) ≡ a = take_at a (x ++ b) n (sym e) in
    let d : drop n (a ++ (x ++ b)) ≡ x ++ b = drop_at a (x ++ b) n (sym e) in
    let r : drop (length y) (x ++ b) ≡ b = drop_at x b (length y) (sym l) in
    λ i. t i ++ (y ++ (ap (drop (length y)) d ∙ r) i)

abbrev with_address : Entry → ℕ → Entry
with_address d a = record { command = d.command; index = d.index; address = a; circulating = d.circulating; event = d.event; counter = d.counter; bytes = d.bytes }

abbrev with_bytes : Entry → List ℕ → Entry
with_bytes d bs = record { command = d.command; index = d.index; address = d.address; circulating = d.circulating; event = d.event; counter = d.counter; bytes = bs }

abbrev with_counter : Entry → ℕ → Entry
with_counter d k = record { command = d.command; index = d.index; address = d.address; circulating = d.circulating; event = d.event; counter = k; bytes = d.bytes }

-- the bytes of an address with another low half
address-bytes : (lo a : ℕ) → lo < 65536 → little_bytes 2 lo ++ drop 2 (little_bytes 4 a) ≡ little_bytes 4 (lo + 65536 * (a / 65536))
address-bytes lo a l =
    let b0 : lo % 256 ≡ (lo + 65536 * (a / 65536)) % 256 = omega (arith, l) in
    let b1 : lo / 256 % 256 ≡ (lo + 65536 * (a / 65536)) / 256 % 256 = omega (arith, l) in
    let b2 : a / 65536 % 256 ≡ (lo + 65536 * (a / 65536)) / 65536 % 256 = omega (arith, l) in
    let b3 : a / 16777216 % 256 ≡ (lo + 65536 * (a / 65536)) / 16777216 % 256 = omega (arith, l) in
    λ i. b0 i ∷ b1 i ∷ b2 i ∷ b3 i ∷ []

low-put : (front rest : List ℕ) (d : Entry) (more : Bool) (at lo : ℕ) → at ≡ length front → lo < 65536 →
    put (at + 2) (little_bytes 2 lo) (front ++ (entry_bytes d more ++ rest)) ≡ front ++ (entry_bytes (with_address d (lo + 65536 * offset_of d.address)) more ++ rest)
unfolding entry_bytes
low-put front rest d more at lo e l =
    let code : List ℕ = code_in d.command ∷ d.index ∷ [] in
    let word = little_bytes 2 (length_word (length d.bytes) more) in
    let tail : List ℕ = word ++ (0 ∷ 0 ∷ []) ++ ((d.bytes ++ little_bytes 2 d.counter) ++ rest) in
    let n : at + 2 ≡ length (front ++ code) = omega (arith, e, length-append front code) in
    ap (put (at + 2) (little_bytes 2 lo)) (sym (append_assoc front code (little_bytes 2 d.address ++ (drop 2 (little_bytes 4 d.address) ++ tail))))
    ∙ put-mid (front ++ code) (little_bytes 2 d.address) (drop 2 (little_bytes 4 d.address) ++ tail) (little_bytes 2 lo) (at + 2) n refl
    ∙ append_assoc front code (little_bytes 2 lo ++ (drop 2 (little_bytes 4 d.address) ++ tail))
    ∙ ap (λ A. front ++ (code ++ (A ++ tail))) (address-bytes lo d.address l)

raised-by : (b : Bool) (front rest : List ℕ) (d : Entry) (more : Bool) (at lo : ℕ) → at ≡ length front → lo < 65536 →
    cond b (put (at + 2) (little_bytes 2 lo) (front ++ (entry_bytes d more ++ rest))) (front ++ (entry_bytes d more ++ rest))
    ≡ front ++ (entry_bytes (with_address d (cond b (lo + 65536 * offset_of d.address) d.address)) more ++ rest)
unfolding entry_bytes
raised-by true front rest d more at lo e l = low-put front rest d more at lo e l
raised-by false front rest d more at lo e l = refl

raised-in : (front rest : List ℕ) (d : Entry) (more : Bool) (at : ℕ) (k : AddressKind) → at ≡ length front →
    raised k at d.address (front ++ (entry_bytes d more ++ rest)) ≡ front ++ (entry_bytes (with_address d (raised_address k d.address)) more ++ rest)
raised-in front rest d more at k e = raised-by (is_raised k) front rest d more at ((low_half d.address + 1) % 65536) e (omega arith)

-- the data of a datagram apart from what stands before and behind
open-bytes : (front head bs ctr rest : List ℕ) → front ++ (head ++ ((bs ++ ctr) ++ rest)) ≡ (front ++ head) ++ (bs ++ (ctr ++ rest))
open-bytes front head bs ctr rest = ap (λ z. front ++ (head ++ z)) (append_assoc bs ctr rest) ∙ sym (append_assoc front head (bs ++ (ctr ++ rest)))

replied-in : (front rest : List ℕ) (d : Entry) (more : Bool) (at : ℕ) (o : Option (List ℕ)) → at ≡ length front → length (unwrap_or o d.bytes) ≡ length d.bytes →
    replied (at + 10) o (front ++ (entry_bytes d more ++ rest)) ≡ front ++ (entry_bytes (with_bytes d (unwrap_or o d.bytes)) more ++ rest)
unfolding entry_bytes
replied-in front rest d more at None e l = refl
replied-in front rest d more at (Some bs) e l =
    let head = head_of d more in
    let ctr = little_bytes 2 d.counter in
    let n : at + 10 ≡ length (front ++ head) = omega (arith, e, length-append front head) in
    ap (put (at + 10) bs) (open-bytes front head d.bytes ctr rest)
    ∙ put-mid (front ++ head) d.bytes (ctr ++ rest) bs (at + 10) n l
    ∙ sym (open-bytes front head bs ctr rest)
    ∙ ap (λ m. front ++ (((code_in d.command ∷ d.index ∷ []) ++ little_bytes 4 d.address ++ little_bytes 2 (length_word m more) ++ (0 ∷ 0 ∷ [])) ++ ((bs ++ ctr) ++ rest))) (sym l)

counted-by : (b : Bool) (front rest : List ℕ) (d : Entry) (more : Bool) (at n : ℕ) → at ≡ length front + 10 + length d.bytes →
    cond b (front ++ (entry_bytes d more ++ rest)) (put at (little_bytes 2 n) (front ++ (entry_bytes d more ++ rest))) ≡ front ++ (entry_bytes (with_counter d (cond b d.counter n)) more ++ rest)
unfolding entry_bytes
counted-by true front rest d more at n e = refl
counted-by false front rest d more at n e =
    let head = head_of d more in
    let ctr = little_bytes 2 d.counter in
    let a = (front ++ head) ++ d.bytes in
    let m : at ≡ length a = omega (arith, e, length-append (front ++ head) d.bytes, length-append front head) in
    ap (put at (little_bytes 2 n)) (open-bytes front head d.bytes ctr rest ∙ sym (append_assoc (front ++ head) d.bytes (ctr ++ rest)))
    ∙ put-mid a ctr rest (little_bytes 2 n) at m refl
    ∙ append_assoc (front ++ head) d.bytes (little_bytes 2 n ++ rest)
    ∙ sym (open-bytes front head d.bytes (little_bytes 2 n) rest)

-- the frame after a datagram in its midst did this
pub effect-in : (front rest : List ℕ) (d : Entry) (more : Bool) (at : ℕ) (k : AddressKind) (e : Effect) → at ≡ length front → length (unwrap_or e.reply d.bytes) ≡ length d.bytes →
    (after_effect at d k e (front ++ (entry_bytes d more ++ rest))).1 ≡ front ++ (entry_bytes (entry_done d k e) more ++ rest)
effect-in front rest d more at k e is len =
    let first = with_address d (raised_address k d.address) in
    let second = with_bytes first (unwrap_or e.reply d.bytes) in
    let place : at + 10 + length d.bytes ≡ length front + 10 + length second.bytes = omega (arith, is, len) in
    ap (λ f. counted (at + 10 + length d.bytes) d.counter e.gain (replied (at + 10) e.reply f)) (raised-in front rest d more at k is)
    ∙ ap (counted (at + 10 + length d.bytes) d.counter e.gain) (replied-in front rest first more at e.reply is len)
    ∙ counted-by (e.gain == 0) front rest second more (at + 10 + length d.bytes) ((d.counter + e.gain) % 65536) place

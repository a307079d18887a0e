-- A frame that passes modelled slaves keeps each byte that no slave may change, so it is a reply.
-- Byte by byte: each `put` keeps byte k if it stands apart (`put-apart`). Which bytes may change depends on commands
-- and lengths alone, which no slave changes.
use Rattle.std.proofs.Common.{◌≡◌, ◌⊎◌, inl, inr, ℕ, ◌+◌, ◌-◌, ◌*◌, ◌%◌, ◌<◌, ◌≤◌, ◌==◌, ◌&&◌, ◌||◌, Bool, true, false, cond, List, [], ◌∷◌, ◌++◌, length, take, drop, get_or, Option, Some, None, unwrap_or, refl, ap, sym, ◌∙◌, subst, arith, length-append, length-drop}
use Rattle.std.specs.Prelude.{nat_lt, nat_le}
use Rattle.std.proofs.lemmas.Bool.{true≢false, cases_lt, and_from, lt-ltb}
use Rattle.std.proofs.lemmas.Bool.Decides.{nat_tests}
use Rattle.std.proofs.lemmas.List.{get_or-drop, get_or-take, get_or-append-add, length-take-le}
use Rattle.std.proofs.Math.ListN.{get_or-append}
use Rattle.byteorder.specs.Endian.{little_bytes, little_number}
use Rattle.ec_frames.specs.declared.command.AddressKind.{AddressKind}
use Rattle.ec_frames.specs.Reading.{Entry}
use Rattle.ec_slave.specs.declared.request.Request.{Request}
use Rattle.ec_slave.specs.Requests.{request_of, row_of}
use Rattle.ec_slave.specs.Access.{Effect, put, low_half}
use Rattle.ec_slave.specs.Journey.{outs, line_outs, journey}
use Rattle.ec_slave.specs.Step.{effect_of, is_raised, raised, replied, counted, after_effect, asked, datagram_step, datagrams_step, extent}
use Rattle.ec_slave.proofs.StepLemmas.{extent-more, extent_fits, step_read}
use Rattle.ec_slave.proofs.JourneyLemmas.{frames_alike}
use Rattle.ec_slave.proofs.WriteLemmas.{put-before, put-behind}
use Rattle.ec_player.specs.Faults.{is_open, may_change}
use Rattle.ec_slave_laws.specs.Datagrams.{framed, AreWhole, out_by, entry_out, entry_next}
use Rattle.ec_slave_laws.proofs.StepLemmas.{out-length, effect-even, framed-step, length-framed, extent-outs}
use Rattle.ec_slave_laws.proofs.WholeLemmas.{outs-whole}
use Rattle.ec_slave_laws.proofs.ReadLemmas.{framed-reads}
use Rattle.ec_play_laws.specs.IsReply.{IsReply}

-- ---- bytes that are put into a list

pub length-put : (at : ℕ) (y l : List ℕ) → at + length y ≤ length l → length (put at y l) ≡ length l
length-put at y l h =
    omega (
      arith,
      h,
      length-append (take at l) (y ++ drop (length y) (drop at l)),
      length-append y (drop (length y) (drop at l)),
      length-take-le at l (omega (arith, h)),
      length-drop (length y) (drop at l),
      length-drop at l,
    )

-- a byte apart from those that are put
pub put-apart : (at : ℕ) (y l : List ℕ) (k : ℕ) → at + length y ≤ length l → (k < at) ⊎ (at + length y ≤ k) → get_or (put at y l) k 0 ≡ get_or l k 0
put-apart at y l k h (inl a) = put-before at y l k h a
put-apart at y l k h (inr b) = put-behind at y l k h b

-- two bytes that are the same are one number
pub word-same : (p q : List ℕ) (n : ℕ) → get_or q n 0 ≡ get_or p n 0 → get_or q (n + 1) 0 ≡ get_or p (n + 1) 0 → little_number 2 (drop n q) ≡ little_number 2 (drop n p)
word-same p q n e f =
    let low = get_or-drop n q 0 0 ∙ ap (λ k. get_or q k 0) (let z : n + 0 ≡ n = omega arith in z) ∙ e ∙ ap (λ k. get_or p k 0) (let z : n ≡ n + 0 = omega arith in z) ∙ sym (get_or-drop n p 0 0) in
    let high = get_or-drop n q 1 0 ∙ f ∙ sym (get_or-drop n p 1 0) in
    λ i. low i + 256 * (high i + 256 * 0)

-- ---- a datagram

or-none : (a b : Bool) → (a || b) ≡ false → (a ≡ false) × (b ≡ false)
or-none true b h = absurd (true≢false h)
or-none false b h = (refl, h)

at-most : (a b : ℕ) → a ≤ b → nat_le a b ≡ true
at-most a b h = grind (arith, nat_tests)

shut-apart : (low high k : ℕ) → (nat_le low k && nat_lt k high) ≡ false → (k < low) ⊎ (high ≤ k)
shut-apart low high k h =
    elim (cases_lt k low) [
      | inl a ↦ inl a
      | inr b ↦ elim (cases_lt k high) [
        | inl c ↦ absurd (true≢false (sym (and_from (nat_le low k) (nat_lt k high) (at-most low k b) (lt-ltb k high c)) ∙ h))
        | inr d ↦ inr d
      ]
    ]

-- the same length, and the same byte k
abbrev pub IsKept : ℕ → List ℕ → List ℕ → Type 0
IsKept k old new = (length new ≡ length old) × (get_or new k 0 ≡ get_or old k 0)

kept-on : (k : ℕ) (a b c : List ℕ) → IsKept k a b → IsKept k b c → IsKept k a c
kept-on k a b c h g = (g.0 ∙ h.0, g.1 ∙ h.1)

kept-put : (at : ℕ) (y l : List ℕ) (k : ℕ) → at + length y ≤ length l → (k < at) ⊎ (at + length y ≤ k) → IsKept k l (put at y l)
kept-put at y l k h a = (length-put at y l h, put-apart at y l k h a)

kept-if : (b : Bool) (k : ℕ) (l p : List ℕ) → (b ≡ true → IsKept k l p) → IsKept k l (cond b p l)
kept-if true k l p h = h refl
kept-if false k l p h = (refl, refl)

kept-unless : (b : Bool) (k : ℕ) (l p : List ℕ) → IsKept k l p → IsKept k l (cond b l p)
kept-unless true k l p h = (refl, refl)
kept-unless false k l p h = h

replied-kept : (at : ℕ) (o : Option (List ℕ)) (bytes l : List ℕ) (k : ℕ) → length (unwrap_or o bytes) ≡ length bytes → at + length bytes ≤ length l → (k < at) ⊎ (at + length bytes ≤ k) →
    IsKept k l (replied at o l)
replied-kept at None bytes l k e h a = (refl, refl)
replied-kept at (Some y) bytes l k e h a =
    kept-put at y l k (omega (arith, e, h)) (subst (λ n. (k < at) ⊎ (at + n ≤ k)) (sym e) a)

asked-raised : (b : Bool) (lo hi k : ℕ) → (b && (nat_le lo k && nat_lt k hi)) ≡ false → b ≡ true → (k < lo) ⊎ (hi ≤ k)
asked-raised true lo hi k h t = shut-apart lo hi k h
asked-raised false lo hi k h t = absurd (true≢false (sym t))

sum-place : (at k n m : ℕ) → n ≡ m → (k < at) ⊎ (n ≤ k) → (k < at) ⊎ (m ≤ k)
sum-place at k n m e h = subst (λ w. (k < at) ⊎ (w ≤ k)) e h

-- the data and the counter lie in one stretch
data-apart : (at k n : ℕ) → (k < at + 10) ⊎ (at + 12 + n ≤ k) → (k < at + 10) ⊎ (at + 10 + n ≤ k)
data-apart at k n (inl a) = inl a
data-apart at k n (inr b) = inr (omega (arith, b))

counter-apart : (at k n : ℕ) → (k < at + 10) ⊎ (at + 12 + n ≤ k) → (k < at + 10 + n) ⊎ (at + 10 + n + 2 ≤ k)
counter-apart at k n (inl a) = inl (omega (arith, a))
counter-apart at k n (inr b) = inr (omega (arith, b))

low-apart : (at k : ℕ) → (k < at + 2) ⊎ (at + 4 ≤ k) → (k < at + 2) ⊎ (at + 2 + 2 ≤ k)
low-apart at k (inl a) = inl a
low-apart at k (inr b) = inr (omega (arith, b))

effect-kept : (at k : ℕ) (d : Entry) (r : AddressKind) (e : Effect) (l : List ℕ) → at + 12 + length d.bytes ≤ length l → length (unwrap_or e.reply d.bytes) ≡ length d.bytes →
    (is_raised r && (nat_le (at + 2) k && nat_lt k (at + 4))) ≡ false → (nat_le (at + 10) k && nat_lt k (at + 12 + length d.bytes)) ≡ false →
    IsKept k l (after_effect at d r e l).1
effect-kept at k d r e l fits even low shut =
    let n = length d.bytes in
    let apart = shut-apart (at + 10) (at + 12 + n) k shut in
    let lo : List ℕ = little_bytes 2 ((low_half d.address + 1) % 65536) in
    let f1 = raised r at d.address l in
    let h1 : IsKept k l f1 = kept-if (is_raised r) k l (put (at + 2) lo l)
    (λ t. kept-put (at + 2) lo l k (omega (arith, fits)) (low-apart at k (asked-raised (is_raised r) (at + 2) (at + 4) k low t))) in
    let n1 = h1.0 in
    let f2 = replied (at + 10) e.reply f1 in
    let h2 : IsKept k f1 f2 = replied-kept (at + 10) e.reply d.bytes f1 k even (omega (arith, fits, n1)) (data-apart at k n apart) in
    let n2 = h2.0 in
    let ctr : List ℕ = little_bytes 2 ((d.counter + e.gain) % 65536) in
    let h3 : IsKept k f2 (counted (at + 10 + n) d.counter e.gain f2) =
    kept-unless (e.gain == 0) k f2 (put (at + 10 + n) ctr f2) (kept-put (at + 10 + n) ctr f2 k (omega (arith, fits, n1, n2)) (counter-apart at k n apart)) in
    kept-on k l f1 (counted (at + 10 + n) d.counter e.gain f2) h1 (kept-on k f1 f2 (counted (at + 10 + n) d.counter e.gain f2) h2 h3)

-- a command that is left out leaves the frame, any other is as its row says
asked-kept : (o : Option Request) (at k : ℕ) (d : Entry) (memory l : List ℕ) → at + 12 + length d.bytes ≤ length l → ((r : Request) → o ≡ Some r → r.kind ≡ (row_of d.command).kind) →
    is_open at d k ≡ false → IsKept k l (asked at d o (memory, l)).1
asked-kept None at k d memory l fits is shut = (refl, refl)
asked-kept (Some r) at k d memory l fits is shut =
    let parts = or-none (is_raised (row_of d.command).kind && (nat_le (at + 2) k && nat_lt k (at + 4))) (nat_le (at + 10) k && nat_lt k (at + 12 + length d.bytes)) shut in
    effect-kept at k d r.kind (effect_of r memory d.address d.bytes) l fits (effect-even r memory d.address d.bytes)
    (ap (λ x. is_raised x && (nat_le (at + 2) k && nat_lt k (at + 4))) (is r refl) ∙ parts.0) parts.1

some-row : (b : Bool) (x r : Request) → cond b None (Some x) ≡ Some r → r.kind ≡ x.kind
some-row true x r h = absurd (cc (h))
some-row false x r h = let e : x ≡ r = cc (h) in ap (λ y. y.kind) (sym e)

datagram-kept : (at k : ℕ) (d : Entry) (memory l : List ℕ) → at + 12 + length d.bytes ≤ length l → is_open at d k ≡ false → IsKept k l (datagram_step at d (memory, l)).1
unfolding datagram_step
datagram-kept at k d memory l fits shut = asked-kept (request_of d.command) at k d memory l fits (λ r h. some-row _ (row_of d.command) r h) shut

pub steps-kept : (ds : List Entry) (at k : ℕ) (memory l : List ℕ) → at + extent ds ≤ length l → may_change at ds k ≡ false → IsKept k l (datagrams_step at ds (memory, l)).1
steps-kept [] at k memory l fits shut = (refl, refl)
steps-kept (d ∷ ds) at k memory l fits shut =
    let parts = or-none (is_open at d k) (may_change (at + (length d.bytes + 12)) ds k) shut in
    let more = extent-more d ds in
    let here = datagram-kept at k d memory l (omega (arith, fits, more)) parts.0 in
    let n = here.0 in
    let s = datagram_step at d (memory, l) in
    kept-on k l s.1 (datagrams_step (at + (length d.bytes + 12)) ds s).1 here
    (steps-kept ds (at + (length d.bytes + 12)) k s.0 s.1 (omega (arith, fits, more, n)) parts.1)

-- ---- a line of slaves

out-command : (memory : List ℕ) (d : Entry) (o : Option Request) → (out_by memory d o).command ≡ d.command
out-command memory d None = refl
out-command memory d (Some r) = refl

command-out : (memory : List ℕ) (d : Entry) → (entry_out memory d).command ≡ d.command
unfolding entry_out
command-out memory d = out-command memory d (request_of d.command)

pub open-out : (at k : ℕ) (d e : Entry) → e.command ≡ d.command → length e.bytes ≡ length d.bytes → is_open at e k ≡ is_open at d k
open-out at k d e c n = λ i. (is_raised (row_of (c i)).kind && (nat_le (at + 2) k && nat_lt k (at + 4))) || (nat_le (at + 10) k && nat_lt k (at + 12 + n i))

may-outs : (ds : List Entry) (memory : List ℕ) (at k : ℕ) → may_change at (outs entry_out entry_next memory ds) k ≡ may_change at ds k
may-outs [] memory at k = refl
may-outs (d ∷ ds) memory at k =
    let n = out-length memory d in
    let rest = ap (λ m. may_change (at + (m + 12)) (outs entry_out entry_next (entry_next memory d) ds) k) n ∙ may-outs ds (entry_next memory d) (at + (length d.bytes + 12)) k in
    λ i. open-out at k d (entry_out memory d) (command-out memory d) n i || rest i

frame-kept : (memory : List ℕ) (ds : List Entry) (k : ℕ) → AreWhole ds → may_change 16 ds k ≡ false → get_or (framed (outs entry_out entry_next memory ds)) k 0 ≡ get_or (framed ds) k 0
frame-kept memory ds k h shut =
    let reads = framed-reads ds h in
    let fits = extent_fits (framed ds) ds reads in
    let step : framed (outs entry_out entry_next memory ds) ≡ (datagrams_step 16 ds (memory, framed ds)).1 =
    ap (λ s. s.1) (sym (framed-step memory ds reads) ∙ step_read memory (framed ds) ds reads) in
    ap (λ l. get_or l k 0) step ∙ (steps-kept ds 16 k memory (framed ds) (omega (arith, fits)) shut).1

line-kept : (slaves : List (List ℕ)) (ds : List Entry) (k : ℕ) → AreWhole ds → may_change 16 ds k ≡ false → get_or (framed (line_outs entry_out entry_next slaves ds)) k 0 ≡ get_or (framed ds) k 0
line-kept [] ds k h shut = refl
line-kept (s ∷ ss) ds k h shut =
    line-kept ss (outs entry_out entry_next s ds) k (outs-whole s ds h) (may-outs ds s 16 k ∙ shut) ∙ frame-kept s ds k h shut

extent-line : (slaves : List (List ℕ)) (ds : List Entry) → extent (line_outs entry_out entry_next slaves ds) ≡ extent ds
extent-line [] ds = refl
extent-line (s ∷ ss) ds = extent-line ss (outs entry_out entry_next s ds) ∙ extent-outs s ds

-- what comes back is a reply
pub line-reply : (slaves : List (List ℕ)) (ds : List Entry) → AreWhole ds → IsReply ds (framed ds) (framed (journey entry_out entry_next slaves ds))
line-reply slaves ds h =
    let alike = frames_alike entry_out entry_next slaves ds in
    let room = h.room in
    let e = extent-line slaves ds in
    subst (λ es. IsReply ds (framed ds) (framed es)) alike
    (record {
      len = length-framed (line_outs entry_out entry_next slaves ds) (omega (arith, e, room)) ∙ ap (λ n. 16 + (n + (44 - n))) e ∙ sym (length-framed ds room);
      bytes = λ k l shut. line-kept slaves ds k h shut;
    })

-- What a slave makes of the datagrams in the midst of a frame.
use Rattle.std.proofs.Common.{◌≡◌, ℕ, ◌+◌, ◌-◌, ◌≤◌, Bool, true, false, cond, List, [], ◌∷◌, ◌++◌, length, drop, replicate, Option, Some, None, unwrap_or, refl, ap, sym, ◌∙◌, arith, length-append, append_assoc, length-drop}
use Rattle.std.specs.Prelude.{nat_lt, nat_le}
use Rattle.std.proofs.lemmas.Bool.{and_parts, leb-true}
use Rattle.std.proofs.lemmas.List.{length-take-le, length-replicate}
use Rattle.std.proofs.lemmas.List.FromFn.{length-map-range_with_len}
use Rattle.byteorder.specs.Endian.{little_bytes}
use Rattle.ec_frames.specs.declared.command.AddressKind.{AddressKind}
use Rattle.ec_frames.specs.declared.command.AddressKind.TheVariants as kind
use Rattle.ec_frames.specs.Reading.{Entry, ReadsAs}
use Rattle.ec_slave.specs.declared.request.Request.{Request}
use Rattle.ec_slave.specs.Requests.{request_of}
use Rattle.ec_slave.specs.Access.{Effect, no_effect, is_addressed, is_within, reading, access_gain, accessed, put, offset_of}
use Rattle.ec_slave.specs.Fmmus.{fmmus_in}
use Rattle.ec_slave.specs.Logical.{read_from, mapped}
use Rattle.ec_slave.specs.Journey.{outs, final}
use Rattle.ec_slave.specs.Step.{effect_at, effect_by, effect_of, asked, datagram_step, datagrams_step, extent, slave_step}
use Rattle.ec_slave.proofs.StepLemmas.{extent-more, step_read}
use Rattle.ec_slave_laws.specs.Datagrams.{entry_bytes, some_follow, entries_bytes, headers, framed, out_by, next_by, entry_out, entry_next}
use Rattle.ec_slave_laws.proofs.PutLemmas.{effect-in}

either-way : (P : Effect → Type 0) (b : Bool) (x y : Effect) → (b ≡ true → P x) → P y → P (cond b x y)
either-way P true x y h k = h refl
either-way P false x y h k = k

-- a reply has as many bytes as came
abbrev IsEven : List ℕ → Effect → Type 0
IsEven bytes e = length (unwrap_or e.reply bytes) ≡ length bytes

reading-length : (k : AddressKind) (memory : List ℕ) (offset : ℕ) (bytes : List ℕ) → offset + length bytes ≤ length memory → length (reading k memory offset bytes) ≡ length bytes
reading-length kind.None memory offset bytes h = length-take-le (length bytes) (drop offset memory) (omega (arith, h, length-drop offset memory))
reading-length kind.Position memory offset bytes h = length-take-le (length bytes) (drop offset memory) (omega (arith, h, length-drop offset memory))
reading-length kind.Station memory offset bytes h = length-take-le (length bytes) (drop offset memory) (omega (arith, h, length-drop offset memory))
reading-length kind.Broadcast memory offset bytes h = length-map-range_with_len _ 0 (length bytes)
reading-length kind.Logical memory offset bytes h = length-take-le (length bytes) (drop offset memory) (omega (arith, h, length-drop offset memory))

reply-length : (b : Bool) (reply bytes : List ℕ) → length reply ≡ length bytes → length (unwrap_or (cond b (Some reply) None) bytes) ≡ length bytes
reply-length true reply bytes h = h
reply-length false reply bytes h = refl

within-is : (memory : List ℕ) (offset n : ℕ) → is_within memory offset n ≡ true → offset + n ≤ length memory
within-is memory offset n h = leb-true (offset + n) (length memory) (and_parts (nat_lt 0 n) (nat_le (offset + n) (length memory)) h).1

at-even : (r : Request) (memory : List ℕ) (address : ℕ) (bytes : List ℕ) → IsEven bytes (effect_at r memory address bytes)
at-even r memory address bytes =
    let n = length bytes in
    let offset = offset_of address in
    either-way (IsEven bytes) (is_addressed r.kind memory address) (accessed r memory offset bytes) (no_effect memory)
    (λ t. either-way (IsEven bytes) (is_within memory offset n)
    (record { memory = cond r.writes (put offset bytes memory) memory; reply = cond r.reads (Some (reading r.kind memory offset bytes)) None; gain = access_gain r.reads r.writes })
    (no_effect memory)
    (λ w. reply-length r.reads (reading r.kind memory offset bytes) bytes (reading-length r.kind memory offset bytes (within-is memory offset n w)))
    refl)
    refl

mapped-even : (r : Request) (memory : List ℕ) (address : ℕ) (bytes : List ℕ) → IsEven bytes (mapped r memory address bytes)
unfolding read_from
mapped-even r memory address bytes = reply-length r.reads (read_from (fmmus_in memory) memory address bytes) bytes (length-map-range_with_len _ 0 (length bytes))

by-even : (k : AddressKind) (r : Request) (memory : List ℕ) (address : ℕ) (bytes : List ℕ) → IsEven bytes (effect_by k r memory address bytes)
by-even kind.None r memory address bytes = at-even r memory address bytes
by-even kind.Position r memory address bytes = at-even r memory address bytes
by-even kind.Station r memory address bytes = at-even r memory address bytes
by-even kind.Broadcast r memory address bytes = at-even r memory address bytes
by-even kind.Logical r memory address bytes = mapped-even r memory address bytes

pub effect-even : (r : Request) (memory : List ℕ) (address : ℕ) (bytes : List ℕ) → IsEven bytes (effect_of r memory address bytes)
unfolding effect_of
effect-even r memory address bytes = by-even r.kind r memory address bytes

out-by-length : (memory : List ℕ) (d : Entry) (o : Option Request) → length (out_by memory d o).bytes ≡ length d.bytes
out-by-length memory d None = refl
out-by-length memory d (Some r) = effect-even r memory d.address d.bytes

pub out-length : (memory : List ℕ) (d : Entry) → length (entry_out memory d).bytes ≡ length d.bytes
unfolding entry_out
out-length memory d = out-by-length memory d (request_of d.command)

-- one datagram
asked-in : (front rest : List ℕ) (memory : List ℕ) (d : Entry) (more : Bool) (at : ℕ) (o : Option Request) → at ≡ length front →
    asked at d o (memory, front ++ (entry_bytes d more ++ rest)) ≡ (next_by memory d o, front ++ (entry_bytes (out_by memory d o) more ++ rest))
asked-in front rest memory d more at None e = refl
asked-in front rest memory d more at (Some r) e =
    ap (λ f. ((effect_of r memory d.address d.bytes).memory, f))
    (effect-in front rest d more at r.kind (effect_of r memory d.address d.bytes) e (effect-even r memory d.address d.bytes))

step-in : (front rest : List ℕ) (memory : List ℕ) (d : Entry) (more : Bool) (at : ℕ) → at ≡ length front →
    datagram_step at d (memory, front ++ (entry_bytes d more ++ rest)) ≡ (entry_next memory d, front ++ (entry_bytes (entry_out memory d) more ++ rest))
unfolding datagram_step entry_out entry_next
step-in front rest memory d more at e = asked-in front rest memory d more at (request_of d.command) e

length-entry : (d : Entry) (more : Bool) → length (entry_bytes d more) ≡ length d.bytes + 12
unfolding entry_bytes
length-entry d more = omega (arith, length-append d.bytes (little_bytes 2 d.counter))

follow-outs : (memory : List ℕ) (ds : List Entry) → some_follow (outs entry_out entry_next memory ds) ≡ some_follow ds
follow-outs memory [] = refl
follow-outs memory (d ∷ ds) = refl

-- one datagram after the other
steps-in : (ds : List Entry) (front rest memory : List ℕ) (at : ℕ) → at ≡ length front →
    datagrams_step at ds (memory, front ++ (entries_bytes ds ++ rest))
    ≡ (final entry_out entry_next memory ds, front ++ (entries_bytes (outs entry_out entry_next memory ds) ++ rest))
steps-in [] front rest memory at e = refl
steps-in (d ∷ ds) front rest memory at e =
    let more = some_follow ds in
    let here = entry_out memory d in
    let now = entry_next memory d in
    let later = entries_bytes (outs entry_out entry_next now ds) in
    let next : at + (length d.bytes + 12) ≡ length (front ++ entry_bytes here more) =
    omega (arith, e, length-append front (entry_bytes here more), length-entry here more, out-length memory d) in
    ap (λ f. datagrams_step (at + (length d.bytes + 12)) ds (datagram_step at d (memory, front ++ f))) (append_assoc (entry_bytes d more) (entries_bytes ds) rest)
    ∙ ap (datagrams_step (at + (length d.bytes + 12)) ds) (step-in front (entries_bytes ds ++ rest) memory d more at e)
    ∙ ap (λ f. datagrams_step (at + (length d.bytes + 12)) ds (now, f)) (sym (append_assoc front (entry_bytes here more) (entries_bytes ds ++ rest)))
    ∙ steps-in ds (front ++ entry_bytes here more) rest now (at + (length d.bytes + 12)) next
    ∙ ap (λ f. (final entry_out entry_next now ds, f))
    (append_assoc front (entry_bytes here more) (later ++ rest)
    ∙ ap (λ f. front ++ f) (sym (append_assoc (entry_bytes here more) later rest))
    ∙ ap (λ m. front ++ ((entry_bytes here m ++ later) ++ rest)) (sym (follow-outs now ds)))

pub extent-outs : (memory : List ℕ) (ds : List Entry) → extent (outs entry_out entry_next memory ds) ≡ extent ds
extent-outs memory [] = refl
extent-outs memory (d ∷ ds) =
    omega (
      arith,
      extent-more d ds,
      extent-more (entry_out memory d) (outs entry_out entry_next (entry_next memory d) ds),
      out-length memory d,
      extent-outs (entry_next memory d) ds,
    )

pub length-entries : (ds : List Entry) → length (entries_bytes ds) ≡ extent ds
length-entries [] = refl
length-entries (d ∷ ds) =
    omega (arith, length-append (entry_bytes d (some_follow ds)) (entries_bytes ds), length-entry d (some_follow ds), length-entries ds, extent-more d ds)

pub length-framed : (ds : List Entry) → extent ds ≤ 1498 → length (framed ds) ≡ 16 + (extent ds + (44 - extent ds))
unfolding framed
length-framed ds h =
    omega (arith, length-append (entries_bytes ds) (replicate (44 - extent ds) 0), length-entries ds, length-replicate {A = ℕ} (44 - extent ds) 0)

-- a frame that is read as its datagrams is passed on as the frame of what the slave makes of them
pub framed-step : (memory : List ℕ) (ds : List Entry) → ReadsAs (framed ds) ds →
    slave_step memory (framed ds) ≡ (final entry_out entry_next memory ds, framed (outs entry_out entry_next memory ds))
unfolding framed
framed-step memory ds h =
    step_read memory (framed ds) ds h
    ∙ steps-in ds (headers (extent ds)) (replicate (44 - extent ds) 0) memory 16 refl
    ∙ ap (λ n. (final entry_out entry_next memory ds, headers n ++ (entries_bytes (outs entry_out entry_next memory ds) ++ replicate (44 - n) 0))) (sym (extent-outs memory ds))

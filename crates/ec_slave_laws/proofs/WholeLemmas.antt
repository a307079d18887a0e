-- What a slave makes of datagrams that a frame can hold, a frame can hold.
use Rattle.std.proofs.Common.{◌≡◌, ◌≢◌, ℕ, ◌+◌, ◌*◌, ◌/◌, ◌%◌, ◌^◌, ◌<◌, ◌==◌, Bool, true, false, cond, List, [], ◌∷◌, length, Option, Some, None, refl, arith, All}
use Rattle.std.proofs.lemmas.List.Elements.{All-head, All-tail, All-cons, All-nil}
use Rattle.ec_frames.specs.Reading.{Entry}
use Rattle.ec_slave.specs.declared.request.Request.{Request}
use Rattle.ec_slave.specs.Requests.{request_of}
use Rattle.ec_slave.specs.Journey.{outs}
use Rattle.ec_slave.specs.Step.{effect_of, is_raised}
use Rattle.ec_slave_laws.specs.Datagrams.{IsWhole, AreWhole, out_by, entry_out, entry_next}
use Rattle.ec_slave_laws.proofs.StepLemmas.{out-length, extent-outs}

address-fits : (b : Bool) (a : ℕ) → a < 2 ^ 32 → cond b ((a % 65536 + 1) % 65536 + 65536 * (a / 65536)) a < 2 ^ 32
address-fits true a h = omega (arith, h)
address-fits false a h = h

counter-fits : (b : Bool) (c n : ℕ) → c < 65536 → cond b c (n % 65536) < 65536
counter-fits true c n h = h
counter-fits false c n h = omega arith

by-fits : (memory : List ℕ) (d : Entry) (o : Option Request) → IsWhole d → length (out_by memory d o).bytes ≡ length d.bytes → IsWhole (out_by memory d o)
by-fits memory d None h e = h
by-fits memory d (Some r) h e =
    let short = h.short in
    let gain = (effect_of r memory d.address d.bytes).gain in
    record {
      address = address-fits (is_raised r.kind) d.address h.address;
      still = h.still;
      quiet = h.quiet;
      counter = counter-fits (gain == 0) d.counter (d.counter + gain) h.counter;
      short = omega (arith, e, short);
    }

out-fits : (memory : List ℕ) (d : Entry) → IsWhole d → IsWhole (entry_out memory d)
unfolding entry_out
out-fits memory d h = by-fits memory d (request_of d.command) h (out-length memory d)

outs-fit : (memory : List ℕ) (ds : List Entry) → All IsWhole ds → All IsWhole (outs entry_out entry_next memory ds)
outs-fit memory [] h = All-nil IsWhole
outs-fit memory (d ∷ ds) h =
    All-cons IsWhole (entry_out memory d) (outs entry_out entry_next (entry_next memory d) ds) (out-fits memory d (All-head IsWhole d ds h))
    (outs-fit (entry_next memory d) ds (All-tail IsWhole d ds h))

none-out : (memory : List ℕ) (ds : List Entry) → ds ≢ [] → outs entry_out entry_next memory ds ≢ []
none-out memory [] some h = some refl
none-out memory (d ∷ ds) some h = absurd (cc (h))

pub outs-whole : (memory : List ℕ) (ds : List Entry) → AreWhole ds → AreWhole (outs entry_out entry_next memory ds)
outs-whole memory ds h =
    let room = h.room in
    record {
      some_datagram = none-out memory ds h.some_datagram;
      each = outs-fit memory ds h.each;
      room = omega (arith, room, extent-outs memory ds);
    }

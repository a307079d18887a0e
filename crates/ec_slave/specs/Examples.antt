-- Worked examples, which the definitions compute by themselves: single datagrams at a slave with 32 bytes of memory.
use Rattle.std.specs.Prelude.{◌≡◌, ℕ, false, true, List, [], ◌∷◌, ◌++◌, replicate, Some, refl}
use Rattle.ec_frames.specs.Reading.{Entry}
use Rattle.ec_frames.specs.declared.command.Command.{Command}
use Rattle.ec_frames.specs.declared.command.Command.TheVariants as command
use Rattle.ec_slave.specs.declared.fmmu.Fmmu.{Fmmu}
use Rattle.ec_slave.specs.declared.fmmu.Fmmus.{Fmmus}
use Rattle.ec_slave.specs.declared.fmmu.Direction.TheVariants as direction
use Rattle.ec_slave.specs.Requests.{row_of}
use Rattle.ec_slave.specs.Logical.{read_from, written_to, meets, mapped_by}
use Rattle.ec_slave.specs.Step.{effect_of, datagram_step}

abbrev memory : List ℕ
memory = replicate 32 0

-- a datagram with these data at this address, its counter 0
abbrev of : Command → ℕ → List ℕ → Entry
of c address bytes = record { command = c; index = 0; address = address; circulating = false; event = 0; counter = 0; bytes = bytes }

-- the position 65535 rises to 0, and nothing else happens
not_addressed : datagram_step 0 (of command.Apwr 0x0014FFFF (1 ∷ [])) (memory, 2 ∷ 0 ∷ 255 ∷ 255 ∷ 20 ∷ 0 ∷ 1 ∷ 0 ∷ 0 ∷ 0 ∷ 1 ∷ 0 ∷ 0 ∷ [])
    ≡ (memory, 2 ∷ 0 ∷ 0 ∷ 0 ∷ 20 ∷ 0 ∷ 1 ∷ 0 ∷ 0 ∷ 0 ∷ 1 ∷ 0 ∷ 0 ∷ [])
unfolding datagram_step effect_of
not_addressed = refl

-- the position 0 is addressed: the byte is written, the position rises to 1 and the counter to 1
addressed : datagram_step 0 (of command.Apwr 0x00140000 (1 ∷ [])) (memory, 2 ∷ 0 ∷ 0 ∷ 0 ∷ 20 ∷ 0 ∷ 1 ∷ 0 ∷ 0 ∷ 0 ∷ 1 ∷ 0 ∷ 0 ∷ [])
    ≡ (replicate 20 0 ++ (1 ∷ []) ++ replicate 11 0, 2 ∷ 0 ∷ 1 ∷ 0 ∷ 20 ∷ 0 ∷ 1 ∷ 0 ∷ 0 ∷ 0 ∷ 1 ∷ 1 ∷ 0 ∷ [])
unfolding datagram_step effect_of
addressed = refl

-- the station 0 gets the byte and gives the one that was there; the counter rises by 3
read_and_written : datagram_step 0 (of command.Fprw 0x00140000 (7 ∷ [])) (memory, 6 ∷ 0 ∷ 0 ∷ 0 ∷ 20 ∷ 0 ∷ 1 ∷ 0 ∷ 0 ∷ 0 ∷ 7 ∷ 0 ∷ 0 ∷ [])
    ≡ (replicate 20 0 ++ (7 ∷ []) ++ replicate 11 0, 6 ∷ 0 ∷ 0 ∷ 0 ∷ 20 ∷ 0 ∷ 1 ∷ 0 ∷ 0 ∷ 0 ∷ 0 ∷ 3 ∷ 0 ∷ [])
unfolding datagram_step effect_of
read_and_written = refl

-- a broadcast past the end reads nothing, and its position rises
past_the_end : datagram_step 0 (of command.Brd 0x001F0000 (9 ∷ 9 ∷ [])) (memory, 7 ∷ 0 ∷ 0 ∷ 0 ∷ 31 ∷ 0 ∷ 2 ∷ 0 ∷ 0 ∷ 0 ∷ 9 ∷ 9 ∷ 0 ∷ 0 ∷ [])
    ≡ (memory, 7 ∷ 0 ∷ 1 ∷ 0 ∷ 31 ∷ 0 ∷ 2 ∷ 0 ∷ 0 ∷ 0 ∷ 9 ∷ 9 ∷ 0 ∷ 0 ∷ [])
unfolding datagram_step effect_of
past_the_end = refl

-- a command that is left out
left_out : datagram_step 0 (of command.Armw 0x00140000 (1 ∷ [])) (memory, 13 ∷ 0 ∷ 0 ∷ 0 ∷ 20 ∷ 0 ∷ 1 ∷ 0 ∷ 0 ∷ 0 ∷ 1 ∷ 0 ∷ 0 ∷ [])
    ≡ (memory, 13 ∷ 0 ∷ 0 ∷ 0 ∷ 20 ∷ 0 ∷ 1 ∷ 0 ∷ 0 ∷ 0 ∷ 1 ∷ 0 ∷ 0 ∷ [])
unfolding datagram_step
left_out = refl

-- 2 bytes of outputs at 24 and 2 bytes of inputs at 28
abbrev outputs : Fmmu
outputs = record { logical = 0x00010000; len = 2; physical = 24; reads = false; writes = true }

abbrev inputs : Fmmu
inputs = record { logical = 0x00010002; len = 2; physical = 28; reads = true; writes = false }

abbrev both : Fmmus
both = record { first = outputs; second = inputs }

written_and_read : mapped_by both (row_of command.Lrw) (replicate 28 0 ++ (5 ∷ 6 ∷ 0 ∷ 0 ∷ [])) 0x00010000 (1 ∷ 2 ∷ 3 ∷ 4 ∷ [])
    ≡ record { memory = replicate 24 0 ++ (1 ∷ 2 ∷ 0 ∷ 0 ∷ 5 ∷ 6 ∷ 0 ∷ 0 ∷ []); reply = Some (1 ∷ 2 ∷ 5 ∷ 6 ∷ []); gain = 3 }
unfolding read_from written_to meets
written_and_read = refl

-- where both write one byte of the memory, FMMU 1 counts
abbrev again : Fmmu
again = record { logical = 0x00010001; len = 2; physical = 24; reads = false; writes = true }

last_counts : written_to (record { first = outputs; second = again }) memory 0x00010000 (1 ∷ 2 ∷ 3 ∷ []) ≡ replicate 24 0 ++ (2 ∷ 3 ∷ 0 ∷ 0 ∷ 0 ∷ 0 ∷ 0 ∷ 0 ∷ [])
unfolding written_to
last_counts = refl

-- bytes past 0xFFFFFFFF don't meet the map
last_logical : meets (record { first = outputs; second = record { logical = 0xFFFFFFFE; len = 4; physical = 0; reads = true; writes = false } }) 32 direction.Reads 0xFFFFFFFF 2 ≡ true
unfolding meets
last_logical = refl

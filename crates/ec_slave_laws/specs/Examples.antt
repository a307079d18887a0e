-- Worked examples, which the definitions compute by themselves: two datagrams through a slave with 32 bytes of memory.
use Rattle.std.specs.Prelude.{◌≡◌, ℕ, false, List, [], ◌∷◌, ◌++◌, replicate, refl}
use Rattle.ec_frames.specs.Reading.{Entry}
use Rattle.ec_frames.specs.declared.command.Command.{Command}
use Rattle.ec_frames.specs.declared.command.Command.TheVariants as command
use Rattle.ec_slave.specs.Step.{effect_of}
use Rattle.ec_slave.specs.Journey.{journey, arrived}
use Rattle.ec_slave_laws.specs.Datagrams.{entry_bytes, framed, entry_out, entry_next}

abbrev of : Command → ℕ → ℕ → List ℕ → Entry
of c address counter bytes = record { command = c; index = 0; address = address; circulating = false; event = 0; counter = counter; bytes = bytes }

abbrev two : List Entry
two = of command.Bwr 0x00140000 0 (7 ∷ []) ∷ of command.Brd 0x00140000 0 (0 ∷ []) ∷ []

-- 26 bytes of datagrams, the first with the more bit
frame : framed two
    ≡ (255 ∷ 255 ∷ 255 ∷ 255 ∷ 255 ∷ 255 ∷ 2 ∷ 0 ∷ 0 ∷ 0 ∷ 0 ∷ 1 ∷ 0x88 ∷ 0xA4 ∷ 26 ∷ 0x10 ∷ [])
    ++ (8 ∷ 0 ∷ 0 ∷ 0 ∷ 20 ∷ 0 ∷ 1 ∷ 0x80 ∷ 0 ∷ 0 ∷ 7 ∷ 0 ∷ 0 ∷ [])
    ++ (7 ∷ 0 ∷ 0 ∷ 0 ∷ 20 ∷ 0 ∷ 1 ∷ 0 ∷ 0 ∷ 0 ∷ 0 ∷ 0 ∷ 0 ∷ [])
    ++ replicate 18 0
unfolding framed entry_bytes
frame = refl

-- the second reads what the first wrote; each position and each counter is 1 higher
passed_on : journey entry_out entry_next (replicate 32 0 ∷ []) two ≡ of command.Bwr 0x00140001 1 (7 ∷ []) ∷ of command.Brd 0x00140001 1 (7 ∷ []) ∷ []
unfolding entry_out entry_next effect_of
passed_on = refl

left : arrived entry_out entry_next (replicate 32 0 ∷ []) two ≡ (replicate 20 0 ++ (7 ∷ []) ++ replicate 11 0) ∷ []
unfolding entry_out entry_next effect_of
left = refl

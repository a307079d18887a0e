-- Worked examples, which the definitions compute by themselves: the start frames of one slave with 2 bytes of outputs and 4 of inputs.
use Rattle.std.specs.Prelude.{◌≡◌, ℕ, List, [], ◌∷◌, ◌++◌, map, replicate, refl}
use Rattle.ec_fmmu.specs.declared.fmmu.Fmmu.{Fmmu}
use Rattle.ec_fmmu.specs.Mappings.{fmmu_for}
use Rattle.ec_frames.specs.Written.{written, datagram_bytes}
use Rattle.ec_frame_builder.specs.Start.{position_of, roll_call, naming, mapping_frame, start_list, start_bytes}

abbrev records : List Fmmu
records = fmmu_for 2 0x00010000 2 4096 ∷ fmmu_for 1 0x00010002 4 8192 ∷ []

-- Ethernet and EtherCAT header, of so many bytes of datagrams
abbrev headers : ℕ → List ℕ
headers n = 255 ∷ 255 ∷ 255 ∷ 255 ∷ 255 ∷ 255 ∷ 2 ∷ 0 ∷ 0 ∷ 0 ∷ 0 ∷ 1 ∷ 0x88 ∷ 0xA4 ∷ n ∷ 0x10 ∷ []

-- BRD of position 0, offset 0, 1 byte
first : start_bytes (roll_call 1) ≡ headers 13 ++ (7 ∷ 0 ∷ 0 ∷ 0 ∷ 0 ∷ 0 ∷ 1 ∷ 0 ∷ 0 ∷ 0 ∷ 0 ∷ 0 ∷ 0 ∷ []) ++ replicate 31 0
unfolding written datagram_bytes
first = refl

-- APWR of position 0, offset 0x0010, with the station 1001
second : start_bytes (naming 0 1001) ≡ headers 14 ++ (2 ∷ 0 ∷ 0 ∷ 0 ∷ 0x10 ∷ 0 ∷ 2 ∷ 0 ∷ 0 ∷ 0 ∷ 0xE9 ∷ 3 ∷ 0 ∷ 0 ∷ []) ++ replicate 30 0
unfolding written datagram_bytes
second = refl

-- FPWR of station 1001, offset 0x0600, with the records of outputs and of inputs
third : start_bytes (mapping_frame 1001 records)
    ≡ headers 44 ++ (5 ∷ 0 ∷ 0xE9 ∷ 3 ∷ 0 ∷ 6 ∷ 32 ∷ 0 ∷ 0 ∷ 0 ∷ [])
    ++ (0 ∷ 0 ∷ 1 ∷ 0 ∷ 2 ∷ 0 ∷ 0 ∷ 7 ∷ 0 ∷ 0x10 ∷ 0 ∷ 2 ∷ 1 ∷ 0 ∷ 0 ∷ 0 ∷ [])
    ++ (2 ∷ 0 ∷ 1 ∷ 0 ∷ 4 ∷ 0 ∷ 0 ∷ 7 ∷ 0 ∷ 0x20 ∷ 0 ∷ 1 ∷ 1 ∷ 0 ∷ 0 ∷ 0 ∷ []) ++ (0 ∷ 0 ∷ [])
unfolding written datagram_bytes
third = refl

-- three frames for one slave, each wanted with counter 1; five for two, the first wanted with counter 2
wanted : map (λ f. f.want) (start_list (1001 ∷ []) (records ∷ [])) ≡ 1 ∷ 1 ∷ 1 ∷ []
wanted = refl

wanted_of_two : map (λ f. f.want) (start_list (1001 ∷ 1002 ∷ []) (records ∷ records ∷ [])) ≡ 2 ∷ 1 ∷ 1 ∷ 1 ∷ 1 ∷ []
wanted_of_two = refl

-- the position of slave 0 is 0, of slave 1 it is 65535, which slave 0 raises to 0
positions : map position_of (0 ∷ 1 ∷ 2 ∷ []) ≡ 0 ∷ 65535 ∷ 65534 ∷ []
positions = refl

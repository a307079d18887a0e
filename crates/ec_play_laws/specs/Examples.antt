-- Worked examples, which the definitions compute by themselves: the first start frame of one slave, and the image of one unit with 2
-- bytes of outputs and 4 of inputs.
use Rattle.std.specs.Prelude.{◌≡◌, ℕ, List, [], ◌∷◌, ◌++◌, take, replicate, Some, None, refl}
use Rattle.ec_frames.specs.declared.reading.FrameFault.TheVariants as frame
use Rattle.ec_frames.specs.Parsing.{datagram_at, payload_read, payload_in}
use Rattle.ec_frames.specs.Written.{written, datagram_bytes}
use Rattle.ec_fmmu.specs.declared.fmmu.Fmmu.{Fmmu}
use Rattle.ec_fmmu.specs.Mappings.{fmmu_for}
use Rattle.ec_frame_builder.specs.Start.{roll_call}
use Rattle.ec_outcome.specs.declared.play.PlayFault.TheVariants as fault
use Rattle.ec_player.specs.Sent.{Sent, start_sent}
use Rattle.ec_player.specs.Faults.{is_reply_of, fault_of}
use Rattle.ec_player.specs.Images.{image_after}
use Rattle.ec_play_laws.specs.Started.{with_station}

abbrev first : Sent
first = start_sent (roll_call 1)

-- it comes back as it was sent: nobody counted it
unchanged : fault_of 0 first first.bytes ≡ Some (fault.StartCounter 0 1 0)
unfolding fault_of is_reply_of written datagram_bytes datagram_at payload_read payload_in
unchanged = refl

-- nothing comes back, or one byte too few
nothing : fault_of 0 first [] ≡ Some (fault.Frame frame.Short)
unfolding fault_of payload_in
nothing = refl

cut : fault_of 0 first (take 59 first.bytes) ≡ Some (fault.Reply 0)
unfolding fault_of is_reply_of written datagram_bytes datagram_at payload_read payload_in
cut = refl

-- Ethernet and EtherCAT header, of so many bytes of datagrams
abbrev headers : ℕ → List ℕ
headers n = 255 ∷ 255 ∷ 255 ∷ 255 ∷ 255 ∷ 255 ∷ 2 ∷ 0 ∷ 0 ∷ 0 ∷ 0 ∷ 1 ∷ 0x88 ∷ 0xA4 ∷ n ∷ 0x10 ∷ []

-- the slave raised the position, put a byte into the data and counted
counted : fault_of 0 first (headers 13 ++ (7 ∷ 0 ∷ 1 ∷ 0 ∷ 0 ∷ 0 ∷ 1 ∷ 0 ∷ 0 ∷ 0 ∷ 9 ∷ 1 ∷ 0 ∷ []) ++ replicate 31 0) ≡ None
unfolding fault_of is_reply_of written datagram_bytes datagram_at payload_read payload_in
counted = refl

-- another source
marked : fault_of 0 first ((255 ∷ 255 ∷ 255 ∷ 255 ∷ 255 ∷ 255 ∷ 3 ∷ 0 ∷ 0 ∷ 0 ∷ 0 ∷ 1 ∷ 0x88 ∷ 0xA4 ∷ 13 ∷ 0x10 ∷ []) ++ (7 ∷ 0 ∷ 1 ∷ 0 ∷ 0 ∷ 0 ∷ 1 ∷ 0 ∷ 0 ∷ 0 ∷ 9 ∷ 1 ∷ 0 ∷ []) ++ replicate 31 0) ≡ Some (fault.Reply 0)
unfolding fault_of is_reply_of written datagram_bytes datagram_at payload_read payload_in
marked = refl

abbrev records : List (List Fmmu)
records = (fmmu_for 2 0x00010000 2 4096 ∷ fmmu_for 1 0x00010002 4 8192 ∷ []) ∷ []

-- the frame of a tick, with the inputs that the slave put into it
came : image_after records (0xAA ∷ 0xBB ∷ 0 ∷ 0 ∷ 0 ∷ 0 ∷ []) ((headers 18 ++ (12 ∷ 0 ∷ 0 ∷ 0 ∷ 1 ∷ 0 ∷ 6 ∷ 0 ∷ 0 ∷ 0 ∷ 0xAA ∷ 0xBB ∷ 10 ∷ 11 ∷ 12 ∷ 13 ∷ 3 ∷ 0 ∷ []) ++ replicate 26 0) ∷ [])
    ≡ 0xAA ∷ 0xBB ∷ 10 ∷ 11 ∷ 12 ∷ 13 ∷ []
unfolding datagram_at payload_read payload_in
came = refl

-- no frame came: inputs are 0
none_came : image_after records (1 ∷ 2 ∷ 3 ∷ 4 ∷ 5 ∷ 6 ∷ []) [] ≡ 1 ∷ 2 ∷ 0 ∷ 0 ∷ 0 ∷ 0 ∷ []
none_came = refl

-- station 1001 at 0x0010, and nothing else
stationed : with_station 1001 (replicate 20 7) ≡ replicate 16 7 ++ (0xE9 ∷ 3 ∷ []) ++ replicate 2 7
stationed = refl

-- What is wrong with a frame that comes back.
use Rattle.std.specs.Prelude.{ℕ, suc, ◌+◌, ◌==◌, ◌&&◌, ◌||◌, nat_le, nat_lt, Bool, false, if◌then◌else◌, List, [], ◌∷◌, length, map, get_or, Option, Some, None, Result, Ok, Err}
use Rattle.std.specs.List.{range_with_len, list_all}
use Rattle.ec_frames.specs.declared.reading.FrameFault.{FrameFault}
use Rattle.ec_frames.specs.Reading.{Entry}
use Rattle.ec_frames.specs.Parsing.{frame_read}
use Rattle.ec_slave.specs.Requests.{row_of}
use Rattle.ec_slave.specs.Step.{is_raised}
use Rattle.ec_slave.specs.Logical.{first_of}
use Rattle.ec_player.specs.declared.faults.Stage.{Stage}
use Rattle.ec_player.specs.declared.faults.Stage.TheVariants as stage
use Rattle.ec_outcome.specs.declared.play.PlayFault.{PlayFault}
use Rattle.ec_outcome.specs.declared.play.PlayFault.TheVariants as fault
use Rattle.ec_player.specs.declared.faults.Wrong.{Wrong}
use Rattle.ec_player.specs.Sent.{Sent}

-- the datagrams of a frame, none where it can't be read
abbrev pub read_entries : Result (List Entry) FrameFault → List Entry
read_entries (Ok ds) = ds
read_entries (Err f) = []

abbrev pub entries_of : List ℕ → List Entry
entries_of frame = read_entries (frame_read frame)

-- byte k of a frame is one that a slave may change in a datagram that begins at `at`: a byte of its position, if it is addressed by
-- position or broadcast, of its data or of its working counter
abbrev pub is_open : ℕ → Entry → ℕ → Bool
is_open at d k =
    (is_raised (row_of d.command).kind && (nat_le (at + 2) k && nat_lt k (at + 4)))
    || (nat_le (at + 10) k && nat_lt k (at + 12 + length d.bytes))

-- in one of these datagrams, the first of which begins at `at`
abbrev pub may_change : ℕ → List Entry → ℕ → Bool
may_change at [] k = false
may_change at (d ∷ ds) k = is_open at d k || may_change (at + (length d.bytes + 12)) ds k

-- what comes back of a frame with these datagrams has its length, and every byte that no slave may change
unfoldable pub is_reply_of : List Entry → List ℕ → List ℕ → Bool
is_reply_of ds sent back =
    (length back == length sent) && list_all (λ k. may_change 16 ds k || (get_or back k 0 == get_or sent k 0)) (range_with_len 0 (length sent))

abbrev pub is_reply : List ℕ → List ℕ → Bool
is_reply sent back = is_reply_of (entries_of sent) sent back

-- the first datagram whose counter isn't the one that is wanted, numbered from k on
abbrev pub first_wrong : ℕ → List ℕ → List ℕ → Option Wrong
first_wrong k [] gots = None
first_wrong k (w ∷ ws) [] = None
first_wrong k (w ∷ ws) (g ∷ gs) = if w == g then first_wrong (suc k) ws gs else Some (record { datagram = k; want = w; got = g })

-- the fault that it is, of the frame with number n
abbrev pub wrong_fault : ℕ → Stage → Wrong → PlayFault
wrong_fault n stage.Start w = fault.StartCounter n w.want w.got
wrong_fault n (stage.Tick t s) w = fault.Counter t s w.datagram w.want w.got

abbrev pub counter_fault : ℕ → Stage → Option Wrong → Option PlayFault
counter_fault n st None = None
counter_fault n st (Some w) = Some (wrong_fault n st w)

-- the fault of the frame with number n, by what it is read as: it isn't read, it is no reply, or a counter is wrong
abbrev pub fault_by : ℕ → Sent → List ℕ → Result (List Entry) FrameFault → Option PlayFault
fault_by n s back (Err f) = Some (fault.Frame f)
fault_by n s back (Ok ds) =
    if is_reply s.bytes back then counter_fault n s.stage (first_wrong 0 s.wants (map (λ d. d.counter) ds)) else Some (fault.Reply n)

unfoldable pub fault_of : ℕ → Sent → List ℕ → Option PlayFault
fault_of n s back = fault_by n s back (frame_read back)

-- the fault of the first faulty frame, with what came back of each, numbered from n on
abbrev pub first_fault : ℕ → List Sent → List (List ℕ) → Option PlayFault
first_fault n [] bs = None
first_fault n (s ∷ ss) [] = None
first_fault n (s ∷ ss) (b ∷ bs) = first_of (fault_of n s b) (first_fault (n + 1) ss bs)

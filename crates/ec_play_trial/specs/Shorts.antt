-- The working counters that aren't those that are wanted.
use Rattle.std.specs.Prelude.{ℕ, ◌==◌, not, min, List, length, map, filter, get_or, Bool}
use Rattle.std.specs.List.{flat_map, range_with_len}
use Rattle.ec_player.specs.declared.faults.Wrong.{Wrong}
use Rattle.ec_player.specs.Sent.{Sent}

-- the counters that are wanted of the datagrams of frames, one frame after the other
abbrev pub wants_of : List Sent → List ℕ
wants_of sents = flat_map (λ s. s.wants) sents

-- whether the counters at a place differ
abbrev pub differ : List ℕ → List ℕ → ℕ → Bool
differ wants gots k = not (get_or wants k 0 == get_or gots k 0)

-- the counters at a place
abbrev pub wrong_at : List ℕ → List ℕ → ℕ → Wrong
wrong_at wants gots k = record { datagram = k; want = get_or wants k 0; got = get_or gots k 0 }

-- all that differ, in their order
abbrev pub wrongs : List ℕ → List ℕ → List Wrong
wrongs wants gots = map (wrong_at wants gots) (filter (differ wants gots) (range_with_len 0 (min (length wants) (length gots))))

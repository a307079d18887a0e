-- What a thread's passes have pushed and taken, its own deque first.
use Rattle.std.specs.Prelude.{◌≡◌, ℕ, ◌+◌, List, [], ◌∷◌, map, All, vec_len}
use Rattle.ec_search_queues.specs.Counted.{hand}
use Rattle.crossbeam_deque.specs.Handles.{view, worker_view}
use Rattle.ec_search_queues.specs.declared.deques.Hand.{Hand}
use Rattle.ec_search_queues.specs.declared.deques.Other.{Other}
use Rattle.ec_search_queues.specs.declared.deques.Deques.{Deques}

abbrev pub hands : List Other → List Hand
hands others = map (λ o. view o.pass) others

abbrev pub all_hands : Deques → List Hand
all_hands t = worker_view t.own ∷ hands t.others.items

-- nothing was taken by this pass
abbrev pub IsFresh : Other → Type 0
IsFresh o = view o.pass ≡ hand [] []

-- nothing was pushed to the thread's own deque, nor taken from it
abbrev pub IsAlone : Deques → Type 0
IsAlone t = worker_view t.own ≡ hand [] []

-- of so many deques nothing was pushed nor taken
abbrev pub IsNew : ℕ → Deques → Type 0
IsNew n t = (worker_view t.own ≡ hand [] []) × (vec_len t.others + 1 ≡ n) × All IsFresh t.others.items

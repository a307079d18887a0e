-- Each number was pushed as often as it was taken and still stands in the deque.
use Rattle.std.specs.Prelude.{◌≡◌, ℕ, ◌+◌, ◌<◌, ◌==◌, List, [], ◌∷◌, ◌++◌, if◌then◌else◌, length, slice_set, slice_index_or, All}
use Rattle.ec_search_queues.specs.declared.deques.Hand.{Hand}

-- what a pass has pushed to its deque and taken from it
abbrev pub hand : List ℕ → List ℕ → Hand
hand pushed taken = record { pushed = pushed; taken = taken }

-- the same after n was taken
abbrev pub took : Hand → ℕ → Hand
took v n = hand v.pushed (v.taken ++ n ∷ [])

-- the same after n was pushed
abbrev pub gave : Hand → ℕ → Hand
gave v n = hand (v.pushed ++ n ∷ []) v.taken

-- how often x stands in the list
abbrev pub times : ℕ → List ℕ → ℕ
times x [] = 0
times x (y ∷ ys) = (if y == x then 1 else 0) + times x ys

abbrev pub total : (Hand → ℕ) → List Hand → ℕ
total f [] = 0
total f (v ∷ vs) = f v + total f vs

-- of one deque, which holds these items: for each number, the times that it was pushed are the times that all passes took it and the times that it stands there
abbrev pub Balanced : List ℕ → List Hand → Type 0
Balanced items views = (x : ℕ) → total (λ v. times x v.pushed) views ≡ total (λ v. times x v.taken) views + times x items

-- n was taken from one of these deques
abbrev pub TakenFrom : List Hand → ℕ → List Hand → Type 0
TakenFrom old n new = (k : ℕ) × (k < length old) × (new ≡ slice_set old k (took (slice_index_or old k (hand [] [])) n))

-- the first of these deques got n
abbrev pub with_pushed : List Hand → ℕ → List Hand
with_pushed [] n = []
with_pushed (v ∷ vs) n = gave v n ∷ vs

-- so many deques, to which nothing was pushed and from which nothing was taken
abbrev pub AreNew : ℕ → List Hand → Type 0
AreNew n hands = (length hands ≡ n) × All (λ h. h ≡ hand [] []) hands

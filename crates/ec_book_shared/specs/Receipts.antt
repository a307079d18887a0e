-- What a worker did, by its own account.
use Rattle.std.specs.Prelude.{◌≡◌, ℕ, ◌==◌, Bool, not, List, [], ◌∷◌, ◌++◌, filter}
use Rattle.std.specs.List.{list_any, list_all}
use Rattle.ec_book.specs.declared.step.Step.{Step}
use Rattle.ec_book.specs.declared.step.Step.TheVariants.{Took, Reported, Better, Back}
use Rattle.ec_book.specs.declared.taken.Taken.{Taken as Handed}
use Rattle.ec_book.specs.declared.taken.Taken.TheVariants as handed

-- whose step it is
abbrev pub worker_of : Step → ℕ
worker_of (Took w p g) = w
worker_of (Reported w p k first count) = w
worker_of (Better w v) = w
worker_of (Back w p) = w

-- the pieces of other numbers
abbrev pub held_without : List ℕ → ℕ → List ℕ
held_without held piece = filter (λ q. not (q == piece)) held

-- the pieces that a worker holds after one more step of its own: it takes one, and none of that number after its report, or after giving it back
abbrev pub held_after : List ℕ → Step → List ℕ
held_after held (Took w p g) = held ++ p ∷ []
held_after held (Reported w p k first count) = held_without held p
held_after held (Better w v) = held
held_after held (Back w p) = held_without held p

abbrev pub held_from : List ℕ → List Step → List ℕ
held_from held [] = held
held_from held (e ∷ es) = held_from (held_after held e) es

-- the pieces that a worker holds by its own steps
abbrev pub held_of : List Step → List ℕ
held_of es = held_from [] es

-- by its own steps a worker holds the piece
abbrev pub holds : List Step → ℕ → Bool
holds es piece = list_any (λ p. p == piece) (held_of es)

-- the steps, and that of what was handed out
abbrev pub taken_steps : List Step → ℕ → Handed → List Step
taken_steps es worker (handed.Piece t) = es ++ (Took worker t.piece t.grant) ∷ []
taken_steps es worker handed.Later = es
taken_steps es worker handed.Done = es

-- the steps are the worker's entries of the log, in order, each once
abbrev pub AreOwn : ℕ → List Step → List Step → Type 0
AreOwn worker receipts log = receipts ≡ filter (λ e. worker_of e == worker) log

-- each entry is the step of one of these workers
abbrev pub are_known : List ℕ → List Step → Bool
are_known workers log = list_all (λ e. list_any (λ w. w == worker_of e) workers) log

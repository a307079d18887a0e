-- Laws of books.
use Rattle.std.specs.Prelude.{◌≡◌, ◌⊎◌, ℕ, ◌≤◌, List, [], Option}
use Rattle.ec_loads.specs.Line.{Line}
use Rattle.ec_loads.specs.Shape.{Shape}
use Rattle.ec_loads.specs.Search.{Prefix, IsPartialTree, IsAtMost}
use Rattle.ec_book.specs.declared.step.Step.{Step}
use Rattle.ec_book.specs.Parts.{NoneIsLeft}
use Rattle.ec_book.specs.Steps.{PiecesState, IsHistory, replay, taken_count}
use Rattle.ec_book.specs.Views.{BookView, ours, state_of, opening}
use Rattle.ec_book.specs.Faults.{HasNothing}

-- a partial tree at a value is one at each smaller value
abbrev pub TreesFall : Type 0
TreesFall = (line : Line) (v w : Option ℕ) (s : Shape) (ps : Prefix) (order : List ℕ) → IsAtMost w v → IsPartialTree line v s ps order → IsPartialTree line w s ps order

-- the replay of a legal history is its last state
abbrev pub HistoriesReplay : Type 0
HistoriesReplay = (n : ℕ) (s : PiecesState) (es : List Step) (t : PiecesState) → IsHistory n s es t → replay s es ≡ t

-- no piece of the part is free or taken
abbrev pub HasNoneLeft : BookView → Type 0
HasNoneLeft b = NoneIsLeft (ours b) b.pieces

-- where nothing can be handed out and no piece is taken, no piece of the part is left or all nodes are spent
abbrev pub DoneIsSpent : Type 0
DoneIsSpent = (b : BookView) → b.spent ≤ b.nodes → HasNothing b → taken_count b.pieces ≡ 0 → HasNoneLeft b ⊎ (b.spent ≡ b.nodes)

-- a book with an empty log has spent nothing
abbrev pub EmptyLogsSpendNothing : Type 0
EmptyLogsSpendNothing = (b : BookView) → IsHistory b.nodes (opening b) b.log (state_of b) → b.log ≡ [] → b.spent ≡ 0

use Rattle.ec_book.proofs.TreeLemmas.{tree-lower}
use Rattle.ec_book.proofs.law.law_trees_fall.Goals as goal

pub returns : goal.returns
returns c = λ line v w s ps order low h. (tree-lower (λ _ _. Unit {0}) line v w low s ps order h.0, h.1)

use denote.Text.{Utf8}
use denote.Shadow.{shadow}
use Rattle.test_handovers.proofs.tell_missing.Given as goal

-- says that each `&str` the loop changes is text: keep it, and add clauses with ×
abbrev pub invariant-loop-piece : goal.invariant-loop-piece
invariant-loop-piece l =
    (goal.iterator-loop-piece).can_next l.piece-iterator ×
    (goal.iterator-loop-piece).is_finite l.piece-iterator ×
    shadow (Utf8 l.rest)

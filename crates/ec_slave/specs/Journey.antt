-- Frames that go through a line of slaves: what each hands on, and what it is afterwards, are functions of it and the frame.
use Rattle.std.specs.Prelude.{List, [], ◌∷◌}

module _ {S F : Type 0} (out : S → F → F) (next : S → F → S) where
  -- one frame through all slaves
  abbrev pub through : List S → F → F
  through [] x = x
  through (s ∷ ss) x = through ss (out s x)

  -- the slaves after it
  abbrev pub passed : List S → F → List S
  passed [] x = []
  passed (s ∷ ss) x = next s x ∷ passed ss (out s x)

  -- the frames that come back, frame by frame
  abbrev pub journey : List S → List F → List F
  journey ss [] = []
  journey ss (x ∷ xs) = through ss x ∷ journey (passed ss x) xs

  -- the slaves after all of them
  abbrev pub arrived : List S → List F → List S
  arrived ss [] = ss
  arrived ss (x ∷ xs) = arrived (passed ss x) xs

  -- the frames that one slave hands on
  abbrev pub outs : S → List F → List F
  outs s [] = []
  outs s (x ∷ xs) = out s x ∷ outs (next s x) xs

  -- that slave after them
  abbrev pub final : S → List F → S
  final s [] = s
  final s (x ∷ xs) = final (next s x) xs

  -- the frames that come back, slave by slave
  abbrev pub line_outs : List S → List F → List F
  line_outs [] xs = xs
  line_outs (s ∷ ss) xs = line_outs ss (outs s xs)

  -- the slaves after all of them, slave by slave
  abbrev pub line_finals : List S → List F → List S
  line_finals [] xs = []
  line_finals (s ∷ ss) xs = final s xs ∷ line_finals ss (outs s xs)

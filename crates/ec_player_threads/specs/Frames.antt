-- Frames in rings.
use Rattle.std.specs.Prelude.{◌≡◌, ℕ, List, ◌++◌}
use Rattle.std.specs.declared.alloc.Global.{Global}
use Rattle.rtrb.specs.declared.end.End.{End}
use Rattle.rtrb.specs.declared.AnyItems.{AnyItems}
use Rattle.ec_player.specs.Boxes.{Boxed}

-- an end of a ring of frames
abbrev pub Link : Type 0
Link = End Boxed Global AnyItems

-- these frames are the first of those
abbrev pub IsFront : List (List ℕ) → List (List ℕ) → Type 0
IsFront xs ys = (rest : List (List ℕ)) × (xs ++ rest ≡ ys)

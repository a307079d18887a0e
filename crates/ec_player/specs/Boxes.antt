-- Frames in boxes.
use Rattle.std.specs.Prelude.{ℕ, List, map, Box}
use Rattle.arrayvec.specs.ArrayVec.{ArrayVec}
use Rattle.std.specs.declared.alloc.Global.{Global}

-- a frame in a box
abbrev pub Boxed : Type 0
Boxed = Box (ArrayVec ℕ) Global

-- the bytes of frames
abbrev pub bytes_in : List Boxed → List (List ℕ)
bytes_in frames = map (λ f. f.value.items) frames

-- Two lists that are compared one by one.
use Rattle.std.specs.Prelude.{◌≡◌, ◌↔◌, ℕ, List, map, drop}

-- what has been looked at is the same by these functions, so the rest decides
abbrev pub Same : {A B C : Type 0} → (A → C) → (B → C) → List A → List B → ℕ → Type 0
Same f g xs ys i = (map f (drop i xs) ≡ map g (drop i ys)) ↔ (map f xs ≡ map g ys)

-- A tree's shape.
use Rattle.std.proofs.Common.{◌≡◌, ℕ, ◌+◌, ◌<◌, ◌≤◌, refl, arith}
use Rattle.std.proofs.lemmas.Grind.{common_steps}
use Rattle.std.proofs.Common.{true, false, ltb}
use Rattle.std.proofs.lemmas.Bool.{ltb-true, ltb-false}
use Rattle.ec_loads.specs.Shape.{Shape, Shapes, split, leaf, open_leaf, no_shapes, more}
use Rattle.ec_loads.specs.Search.{open_count, open_counts, node_count, node_counts}
use Rattle.ec_book.specs.Numbered.{numbered, all_numbered, size, sizes, gaps, all_gaps, times, all_times, gap}
use Rattle.ec_book.proofs.PlugLemmas.{Below, AllBelow}

mutual
  pub size-numbered : (k : ℕ) (tree : Shape) → size (numbered k tree) ≡ node_count tree
  size-numbered k (split rows) = let rest_is = size-rows k rows in omega (arith, rest_is)
  size-numbered k (leaf l) = refl
  size-numbered k open_leaf = refl

  size-rows : (k : ℕ) (rows : Shapes) → sizes (all_numbered k rows) ≡ node_counts rows
  size-rows k no_shapes = refl
  size-rows k (more j rest) = let one = size-numbered k j in let rest_is = size-rows (k + open_count j) rest in omega (arith, one, rest_is)

gap-low : (k m : ℕ) → m < k → times m (gap k) ≡ 0
gap-low k m h = grind (arith, common_steps)

gap-high : (k m : ℕ) → k + 1 ≤ m → times m (gap k) ≡ 0
gap-high k m h = grind (arith, common_steps)

gap-mid : (k m : ℕ) → k ≤ m → m < k + 1 → times m (gap k) ≡ 1
gap-mid k m h l = let same : m ≡ k = omega arith in grind (arith, common_steps)

mutual
  pub times-low : (k : ℕ) (tree : Shape) (m : ℕ) → m < k → times m (numbered k tree) ≡ 0
  times-low k (split rows) m h = times-low-rows k rows m h
  times-low k (leaf l) m h = refl
  times-low k open_leaf m h = gap-low k m h

  times-low-rows : (k : ℕ) (rows : Shapes) (m : ℕ) → m < k → all_times m (all_numbered k rows) ≡ 0
  times-low-rows k no_shapes m h = refl
  times-low-rows k (more j rest) m h = let one = times-low k j m h in let rest_is = times-low-rows (k + open_count j) rest m (omega arith) in omega (arith, one, rest_is)

mutual
  pub times-high : (k : ℕ) (tree : Shape) (m : ℕ) → k + open_count tree ≤ m → times m (numbered k tree) ≡ 0
  times-high k (split rows) m h = times-high-rows k rows m h
  times-high k (leaf l) m h = refl
  times-high k open_leaf m h = gap-high k m h

  times-high-rows : (k : ℕ) (rows : Shapes) (m : ℕ) → k + open_counts rows ≤ m → all_times m (all_numbered k rows) ≡ 0
  times-high-rows k no_shapes m h = refl
  times-high-rows k (more j rest) m h = let one = times-high k j m (omega arith) in let rest_is = times-high-rows (k + open_count j) rest m (omega arith) in omega (arith, one, rest_is)

mutual
  pub times-mid : (k : ℕ) (tree : Shape) (m : ℕ) → k ≤ m → m < k + open_count tree → times m (numbered k tree) ≡ 1
  times-mid k (split rows) m h l = times-mid-rows k rows m h l
  times-mid k (leaf z) m h l = absurd (omega arith)
  times-mid k open_leaf m h l = gap-mid k m h l

  times-mid-rows : (k : ℕ) (rows : Shapes) (m : ℕ) → k ≤ m → m < k + open_counts rows → all_times m (all_numbered k rows) ≡ 1
  times-mid-rows k no_shapes m h l = absurd (omega arith)
  times-mid-rows k (more j rest) m h l =
      (elim (ltb m (k + open_count j)) as (λ b. ltb m (k + open_count j) ≡ b → times m (numbered k j) + all_times m (all_numbered (k + open_count j) rest) ≡ 1) [
        | true ↦ λ is. let low = ltb-true m (k + open_count j) is in let one = times-mid k j m h low in let none = times-low-rows (k + open_count j) rest m low in omega (arith, one, none)
        | false ↦ λ is. let high = ltb-false m (k + open_count j) is in let one = times-high k j m high in let rest_is = times-mid-rows (k + open_count j) rest m high (omega arith) in omega (arith, one, rest_is)
      ]) refl

mutual
  pub Below-numbered : (k : ℕ) (tree : Shape) (c : ℕ) → k + open_count tree ≤ c → Below c (numbered k tree)
  Below-numbered k (split rows) c h = Below-rows k rows c h
  Below-numbered k (leaf l) c h = tt
  Below-numbered k open_leaf c h = omega arith

  Below-rows : (k : ℕ) (rows : Shapes) (c : ℕ) → k + open_counts rows ≤ c → AllBelow c (all_numbered k rows)
  Below-rows k no_shapes c h = tt
  Below-rows k (more j rest) c h = (Below-numbered k j c (omega arith), Below-rows (k + open_count j) rest c (omega arith))

mutual
  pub gaps-numbered : (k : ℕ) (tree : Shape) → gaps (numbered k tree) ≡ open_count tree
  gaps-numbered k (split rows) = gaps-rows k rows
  gaps-numbered k (leaf l) = refl
  gaps-numbered k open_leaf = refl

  gaps-rows : (k : ℕ) (rows : Shapes) → all_gaps (all_numbered k rows) ≡ open_counts rows
  gaps-rows k no_shapes = refl
  gaps-rows k (more j rest) = let one = gaps-numbered k j in let rest_is = gaps-rows (k + open_count j) rest in omega (arith, one, rest_is)

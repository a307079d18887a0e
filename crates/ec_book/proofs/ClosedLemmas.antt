-- Where no piece of the part is left, each leaf of the part is closed: no more leaves are open than the given tree has of others.
use Rattle.std.proofs.Common.{◌≡◌, ℕ, zero, suc, ◌+◌, ◌<◌, ◌≤◌, eqb, Bool, true, false, if◌then◌else◌, List, [], ◌∷◌, Some, refl, sym, ap, ◌∙◌, arith}
use Rattle.std.proofs.lemmas.Bool.{le-leb, or_left, or_right}
use Rattle.ec_loads.specs.Shape.{Shape, Shapes, split, leaf, open_leaf, no_shapes, more}
use Rattle.ec_loads.specs.Search.{open_count, open_counts}
use Rattle.ec_cert.specs.Parts.{has_leaf}
use Rattle.ec_cert.specs.declared.part.Part.{Part}
use Rattle.ec_book.specs.declared.piece.Piece.{Piece}
use Rattle.ec_book.specs.declared.piece.Piece.TheVariants.{Free, Taken, Ended}
use Rattle.ec_book.specs.Numbered.{numbered, all_numbered, draw, draws}
use Rattle.ec_book.specs.Parts.{is_of_part, LeavesOthers, ClosesPart}
use Rattle.ec_book.specs.Steps.{live, live_one, live_count}

-- how many leaves are open in so many trees, from the k-th on
abbrev opens : (ℕ → Shape) → ℕ → ℕ → ℕ
opens f k zero = 0
opens f k (suc n) = open_count (f k) + opens f (suc k) n

opens-add : (f : ℕ → Shape) (k a b : ℕ) → opens f k (a + b) ≡ opens f k a + opens f (k + a) b
opens-add f k zero b =
    let left : opens f k (0 + b) ≡ opens f k b = ap (λ w. opens f k w) (omega arith) in
    let right : opens f (k + 0) b ≡ opens f k b = ap (λ w. opens f w b) (omega arith) in
    omega (arith, left, right)
opens-add f k (suc a) b =
    let sum : suc a + b ≡ suc (a + b) = omega arith in
    let left : opens f k (suc a + b) ≡ open_count (f k) + opens f (suc k) (a + b) = ap (λ w. opens f k w) sum in
    let rest = opens-add f (suc k) a b in
    let right : opens f (suc k + a) b ≡ opens f (k + suc a) b = ap (λ w. opens f w b) (omega arith) in
    omega (arith, left, rest, right)

mutual
  drawn-opens : (f : ℕ → Shape) (k : ℕ) (s : Shape) → open_count (draw f (numbered k s)) ≡ opens f k (open_count s)
  drawn-opens f k (split ts) = all-drawn-opens f k ts
  drawn-opens f k (leaf l) = refl
  drawn-opens f k open_leaf = omega arith

  all-drawn-opens : (f : ℕ → Shape) (k : ℕ) (ts : Shapes) → open_counts (draws f (all_numbered k ts)) ≡ opens f k (open_counts ts)
  all-drawn-opens f k no_shapes = refl
  all-drawn-opens f k (more t ts) =
      let one = drawn-opens f k t in
      let rest = all-drawn-opens f (k + open_count t) ts in
      let both = opens-add f k (open_count t) (open_counts ts) in
      omega (arith, one, rest, both)

-- 1 for a leaf that isn't of the part
abbrev other_one : Part → ℕ → ℕ
other_one part k = if has_leaf part k then 0 else 1

-- how many of so many leaves, from the k-th on, aren't of the part
abbrev others : Part → ℕ → ℕ → ℕ
others part k zero = 0
others part k (suc n) = other_one part k + others part (suc k) n

own_none : (part : Part) (k : ℕ) → has_leaf part k ≡ true → other_one part k ≡ 0
own_none part k own = ap (λ b. if b then 0 else 1) own

-- a leaf is of the part, or the tree in its place is an open leaf: it has at least as many open leaves as that counts
least_open : (part : Part) (k : ℕ) (s : Shape) → (has_leaf part k ≡ false → s ≡ open_leaf) → (b : Bool) → has_leaf part k ≡ b → (other_one part k ≤ open_count s) × (other_one part k ≤ 1)
least_open part k s other true own = let none = own_none part k own in (omega (arith, none), omega (arith, none))
least_open part k s other false is =
    let one : other_one part k ≡ 1 = ap (λ b. if b then 0 else 1) is in
    let here : open_count s ≡ 1 = ap open_count (other is) in
    (omega (arith, one, here), omega (arith, one))

module _ (part : Part) (f : ℕ → Shape) where
  abbrev LeavesFrom : ℕ → ℕ → Type 0
  LeavesFrom k n = (m : ℕ) → k ≤ m → m < k + n → has_leaf part m ≡ false → f m ≡ open_leaf

  leaves_rest : (k n : ℕ) → LeavesFrom k (suc n) → LeavesFrom (suc k) n
  leaves_rest k n h = λ m from below. h m (omega arith) (omega arith)

  others_least : (k n : ℕ) → LeavesFrom k n → others part k n ≤ opens f k n
  others_least k zero h = omega arith
  others_least k (suc n) h =
      let rest = others_least (suc k) n (leaves_rest k n h) in
      let first = (least_open part k (f k) (h k (omega arith) (omega arith)) (has_leaf part k) refl).0 in
      omega (arith, rest, first)

  -- where no more leaves are open than those of others, each tree in place of a leaf of the part has none
  all_closed : (k n : ℕ) → LeavesFrom k n → opens f k n ≤ others part k n → (m : ℕ) → k ≤ m → m < k + n → has_leaf part m ≡ true → open_count (f m) ≡ 0
  all_closed k zero h most m from below own = absurd (omega arith)
  all_closed k (suc n) h most m from below own =
      let rest = others_least (suc k) n (leaves_rest k n h) in
      let first = (least_open part k (f k) (h k (omega arith) (omega arith)) (has_leaf part k) refl).0 in
      (elim (eqb m k) as (λ b. eqb m k ≡ b → open_count (f m) ≡ 0) [
        | true ↦ λ is.
            let same : m ≡ k = grind arith in
            let none = own_none part k (ap (has_leaf part) (sym same) ∙ own) in
            let here : open_count (f m) ≡ open_count (f k) = ap (λ w. open_count (f w)) same in
            omega (arith, most, rest, none, here)
        | false ↦ λ is. let past : suc k ≤ m = grind (arith, from) in all_closed (suc k) n (leaves_rest k n h) (omega (arith, most, first)) m past (omega arith) own
      ]) refl

-- a piece that came of one of the part is of the part, and so is a leaf that the part has
later_own : (part : Part) (first m : ℕ) → first ≤ m → is_of_part part first m ≡ true
unfolding is_of_part
later_own part first m past = or_left _ _ (le-leb first m past)

leaf_own : (part : Part) (first m : ℕ) → has_leaf part m ≡ true → is_of_part part first m ≡ true
unfolding is_of_part
leaf_own part first m own = or_right _ _ own

none_live : (ps : List Piece) → ((m : ℕ) → live ps m ≡ 0) → live_count ps ≡ 0
none_live [] h = refl
none_live (p ∷ ps) h = let first = h 0 in let rest = none_live ps (λ m. h (suc m)) in omega (arith, first, rest)

live_most : (p : Piece) → live_one (Some p) ≤ 1
live_most Free = omega arith
live_most (Taken w g) = omega arith
live_most Ended = omega arith

-- where none of the part is left, no more pieces are left than leaves of others
live_others : (part : Part) (first : ℕ) (ps : List Piece) (k n : ℕ) → k + n ≡ first → ((m : ℕ) → is_of_part part first (k + m) ≡ true → live ps m ≡ 0) → live_count ps ≤ others part k n
live_others part first [] k n is h = omega arith
live_others part first (p ∷ ps) k zero is h = let none = none_live (p ∷ ps) (λ m. h m (later_own part first (k + m) (omega (arith, is)))) in omega (arith, none)
live_others part first (p ∷ ps) k (suc n) is h =
    let rest = live_others part first ps (suc k) n (omega (arith, is)) (λ m own. h (suc m) (ap (is_of_part part first) (omega arith) ∙ own)) in
    (elim (has_leaf part k) as (λ b. has_leaf part k ≡ b → live_count (p ∷ ps) ≤ others part k (suc n)) [
      | true ↦ λ own. let none : live_one (Some p) ≡ 0 = h 0 (ap (is_of_part part first) (omega arith) ∙ leaf_own part first k own) in omega (arith, rest, none)
      | false ↦ λ other.
          let one : other_one part k ≡ 1 = ap (λ b. if b then 0 else 1) other in
          let most = live_most p in
          omega (arith, rest, one, most)
    ]) refl

-- of a tree that leaves others as they are, with as many open leaves as pieces are left, of which none is of the part
pub part_closed : (part : Part) (given shape : Shape) (ps : List Piece) → LeavesOthers part given shape → open_count shape ≡ live_count ps → ((m : ℕ) → is_of_part part (open_count given) m ≡ true → live ps m ≡ 0) → ClosesPart part given shape
part_closed part given shape ps (f, is, left) count none =
    let drawn : open_count shape ≡ opens f 0 (open_count given) = ap open_count is ∙ drawn-opens f 0 given in
    let most : live_count ps ≤ others part 0 (open_count given) = live_others part (open_count given) ps 0 (open_count given) (omega arith) (λ m own. let same : m ≡ 0 + m = omega arith in none m (ap (is_of_part part (open_count given)) same ∙ own)) in (
      f,
      is,
      λ m below own. all_closed part f 0 (open_count given) (λ i from low. left i (omega (arith, low))) (omega (arith, drawn, count, most)) m (omega arith) (omega (arith, below)) own,
    )

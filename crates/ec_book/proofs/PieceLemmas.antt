-- The pieces that are free or taken, and the tree's open leaves.
use Rattle.std.proofs.Common.{◌≡◌, ◌≢◌, ℕ, zero, suc, ◌+◌, ◌*◌, ◌<◌, ◌≤◌, true, false, ltb, eqb, List, [], ◌∷◌, ◌++◌, length, set, take, get_or, add-one, slice_get, replicate, Some, refl, sym, ap, ◌∙◌, arith, le_of_suc-le-suc, not-suc-le-zero}
use Rattle.std.proofs.lemmas.Bool.{ltb-true, ltb-false}
use Rattle.ec_book.specs.declared.piece.Piece.{Piece}
use Rattle.ec_book.specs.declared.piece.Piece.TheVariants.{Free, Ended}
use Rattle.ec_loads.specs.Shape.{Shape}
use Rattle.ec_loads.specs.Search.{open_count, node_count}
use Rattle.ec_cert.specs.Shapes.{shape_of}
use Rattle.ec_book.specs.declared.report.Report.{Report}
use Rattle.ec_book.specs.Numbered.{Numbered, numbered, plug, gaps, times}
use Rattle.ec_book.specs.Steps.{live, live_one, live_count}
use Rattle.ec_book.specs.Grown.{HasPieces, grown, Chain}
use Rattle.ec_book.proofs.PlugLemmas.{size-plug, gaps-plug, times-plug-other, times-plug-same}
use Rattle.ec_book.proofs.RowLemmas.{size-numbered, gaps-numbered, times-low, times-mid, times-high}

live-set : (ps : List Piece) (i : ℕ) (old new : Piece) (m : ℕ) → slice_get ps i ≡ Some old → live_one (Some old) ≡ live_one (Some new) → live (set ps i new) m ≡ live ps m
live-set [] i old new m h e = refl
live-set (p ∷ ps) zero old new zero h e = let same : p ≡ old = cc in sym e ∙ sym (ap (λ w. live_one (Some w)) same)
live-set (p ∷ ps) zero old new (suc m) h e = refl
live-set (p ∷ ps) (suc i) old new zero h e = refl
live-set (p ∷ ps) (suc i) old new (suc m) h e = live-set ps i old new m h e

live-other : (ps : List Piece) (i : ℕ) (new : Piece) (m : ℕ) → m ≢ i → live (set ps i new) m ≡ live ps m
live-other [] i new m h = refl
live-other (p ∷ ps) zero new zero h = absurd (h refl)
live-other (p ∷ ps) zero new (suc m) h = refl
live-other (p ∷ ps) (suc i) new zero h = refl
live-other (p ∷ ps) (suc i) new (suc m) h = live-other ps i new m (λ e. h (ap suc e))

live-ended : (ps : List Piece) (i : ℕ) → live (set ps i Ended) i ≡ 0
live-ended [] i = refl
live-ended (p ∷ ps) zero = refl
live-ended (p ∷ ps) (suc i) = live-ended ps i

live-front : (ps qs : List Piece) (m : ℕ) → m < length ps → live (ps ++ qs) m ≡ live ps m
live-front [] qs m h = absurd (not-suc-le-zero h)
live-front (p ∷ ps) qs zero h = refl
live-front (p ∷ ps) qs (suc m) h = live-front ps qs m (le_of_suc-le-suc h)

live-past : (ps : List Piece) (m : ℕ) → length ps ≤ m → live ps m ≡ 0
live-past [] m h = refl
live-past (p ∷ ps) zero h = absurd (not-suc-le-zero h)
live-past (p ∷ ps) (suc m) h = live-past ps m (le_of_suc-le-suc h)

live-free : (k m : ℕ) → m < k → live (replicate k Free) m ≡ 1
live-free zero m h = absurd (not-suc-le-zero h)
live-free (suc k) zero h = refl
live-free (suc k) (suc m) h = live-free k m (le_of_suc-le-suc h)

live-none : (k m : ℕ) → k ≤ m → live (replicate k Free) m ≡ 0
live-none zero m h = refl
live-none (suc k) zero h = absurd (not-suc-le-zero h)
live-none (suc k) (suc m) h = live-none k m (le_of_suc-le-suc h)

live-new : (ps : List Piece) (k m : ℕ) → length ps ≤ m → m < length ps + k → live (ps ++ replicate k Free) m ≡ 1
live-new [] k m h l = live-free k m (omega arith)
live-new (p ∷ ps) k zero h l = absurd (not-suc-le-zero h)
live-new (p ∷ ps) k (suc m) h l = live-new ps k m (le_of_suc-le-suc h) (omega arith)

live-end : (ps : List Piece) (k m : ℕ) → length ps + k ≤ m → live (ps ++ replicate k Free) m ≡ 0
live-end [] k m h = live-none k m (omega arith)
live-end (p ∷ ps) k zero h = absurd (omega arith)
live-end (p ∷ ps) k (suc m) h = live-end ps k m (omega arith)

pub live_count-set : (ps : List Piece) (i : ℕ) (old new : Piece) → slice_get ps i ≡ Some old → live_count (set ps i new) + live_one (Some old) ≡ live_count ps + live_one (Some new)
live_count-set [] i old new h = absurd (cc)
live_count-set (p ∷ ps) zero old new h = let same : p ≡ old = cc in let one = ap (λ w. live_one (Some w)) same in omega (arith, one)
live_count-set (p ∷ ps) (suc i) old new h = let rest = live_count-set ps i old new h in omega (arith, rest)

pub live_count-free : (ps : List Piece) (k : ℕ) → live_count (ps ++ replicate k Free) ≡ live_count ps + k
live_count-free [] zero = refl
live_count-free [] (suc k) = let rest = live_count-free [] k in omega (arith, rest)
live_count-free (p ∷ ps) k = let rest = live_count-free ps k in omega (arith, rest)

live_count-suc : (ps : List Piece) (i : ℕ) (d : Piece) → i < length ps → live_count (take (suc i) ps) ≡ live_count (take i ps) + live_one (Some (get_or ps i d))
live_count-suc [] i d h = absurd (not-suc-le-zero h)
live_count-suc (p ∷ ps) zero d h = omega arith
live_count-suc (p ∷ ps) (suc i) d h = let rest = live_count-suc ps i d (le_of_suc-le-suc h) in omega (arith, rest)

pub live_count-step : (ps : List Piece) (i : ℕ) (d : Piece) (one : ℕ) → i < length ps → one ≡ live_one (Some (get_or ps i d)) → live_count (take (i + 1) ps) ≡ live_count (take i ps) + one
live_count-step ps i d one h is =
    let step : live_count (take (i + 1) ps) ≡ live_count (take i ps) + live_one (Some (get_or ps i d)) = rw add-one (live_count-suc ps i d h) in
    omega (arith, step, is)

-- a piece that is taken or given back
pub is-tree-set : (t : Numbered) (ps : List Piece) (spent i : ℕ) (old new : Piece) → HasPieces t ps spent → slice_get ps i ≡ Some old → live_one (Some old) ≡ live_one (Some new) → HasPieces t (set ps i new) spent
is-tree-set t ps spent i old new h at e = record { nodes_is = h.nodes_is; open_is = λ m. h.open_is m ∙ sym (live-set ps i old new m at e); count_is = (let was = h.count_is in let set_is = live_count-set ps i old new at in omega (arith, was, set_is, e)) }

pub length-set' : (ps : List Piece) (i : ℕ) (new : Piece) → length (set ps i new) ≡ length ps
length-set' [] i new = refl
length-set' (p ∷ ps) zero new = refl
length-set' (p ∷ ps) (suc i) new = ap suc (length-set' ps i new)

pub within : (ps : List Piece) (i : ℕ) (old : Piece) → slice_get ps i ≡ Some old → i < length ps
within [] i old h = absurd (cc)
within (p ∷ ps) zero old h = omega arith
within (p ∷ ps) (suc i) old h = let rest = within ps i old h in omega arith

-- the pieces of a tree that a search is given
pub pieces-given : (given : Shape) → HasPieces (numbered 0 given) (replicate (open_count given) Free) (node_count given + 0)
pieces-given given = record {
  nodes_is = (let size = size-numbered 0 given in omega (arith, size));
  open_is = given-at;
  count_is = (let all = gaps-numbered 0 given in let free = live_count-free [] (open_count given) in omega (arith, all, free));
}
  where
    given-at : (m : ℕ) → times m (numbered 0 given) ≡ live (replicate (open_count given) Free) m
    given-at m =
        (elim (ltb m (open_count given)) as (λ b. ltb m (open_count given) ≡ b → times m (numbered 0 given) ≡ live (replicate (open_count given) Free) m) [
          | true ↦ λ low. let less = ltb-true m (open_count given) low in times-mid 0 given m (omega arith) (omega (arith, less)) ∙ sym (live-free (open_count given) m less)
          | false ↦ λ high. let more = ltb-false m (open_count given) high in times-high 0 given m (omega (arith, more)) ∙ sym (live-none (open_count given) m more)
        ]) refl

-- a piece that is reported
module _ (t : Numbered) (ps : List Piece) (spent i : ℕ) (old : Piece) (tree : Shape) (h : HasPieces t ps spent) (at : slice_get ps i ≡ Some old) (one : live_one (Some old) ≡ 1) where
  abbrev sub : Numbered
  sub = numbered (length ps) tree

  abbrev rest : List Piece
  rest = set ps i Ended ++ replicate (open_count tree) Free

  once : times i t ≡ 1
  once = h.open_is i ∙ ap live_one at ∙ one

  reported-at : (m : ℕ) → times m (plug i sub t) ≡ live rest m
  reported-at m =
      let inside = within ps i old at in
      let len = length-set' ps i Ended in
      (elim (eqb m i) as (λ b. eqb m i ≡ b → times m (plug i sub t) ≡ live rest m) [
        | true ↦ λ is.
            let same : m ≡ i = grind arith in
            rw same (times-plug-same i sub t ∙ ap (λ w. times i t * w) (times-low (length ps) tree i inside) ∙ omega arith
            ∙ sym (live-front (set ps i Ended) (replicate (open_count tree) Free) i (omega (arith, len, inside)) ∙ live-ended ps i))
        | false ↦ λ is.
            let other : m ≢ i = grind arith in
            let both = times-plug-other i sub m t other in
            let was = h.open_is m in
            (elim (ltb m (length ps)) as (λ b. ltb m (length ps) ≡ b → times m (plug i sub t) ≡ live rest m) [
              | true ↦ λ low.
                  let less = ltb-true m (length ps) low in
                  let none = times-low (length ps) tree m less in
                  let front = live-front (set ps i Ended) (replicate (open_count tree) Free) m (omega (arith, len, less)) in
                  let same = live-other ps i Ended m other in
                  grind (arith, both, was, none, front, same, once)
              | false ↦ λ high.
                  let more = ltb-false m (length ps) high in
                  let past = live-past ps m more in
                  (elim (ltb m (length ps + open_count tree)) as (λ b. ltb m (length ps + open_count tree) ≡ b → times m (plug i sub t) ≡ live rest m) [
                    | true ↦ λ new.
                        let less = ltb-true m (length ps + open_count tree) new in
                        let mid = times-mid (length ps) tree m more less in
                        let is_new = live-new (set ps i Ended) (open_count tree) m (omega (arith, len, more)) (omega (arith, len, less)) in
                        grind (arith, both, was, mid, is_new, past, once)
                    | false ↦ λ end.
                        let beyond = ltb-false m (length ps + open_count tree) end in
                        let none = times-high (length ps) tree m beyond in
                        let is_end = live-end (set ps i Ended) (open_count tree) m (omega (arith, len, beyond)) in
                        grind (arith, both, was, none, is_end, past, once)
                  ]) refl
            ]) refl
      ]) refl

  count-report : gaps (plug i sub t) ≡ live_count rest
  count-report =
      let all = gaps-plug i sub t in let sub_is = gaps-numbered (length ps) tree in let was = h.count_is in
      let set_is = live_count-set ps i old Ended at in let free = live_count-free (set ps i Ended) (open_count tree) in
      grind (arith, all, sub_is, was, set_is, free, once, one)

  pub is-tree-report : HasPieces (plug i sub t) rest (spent + node_count tree)
  is-tree-report =
      let all = size-plug i sub t in let size = size-numbered (length ps) tree in
      record { nodes_is = (let was = h.nodes_is in grind (arith, all, size, once, was)); open_is = reported-at; count_is = count-report }

pub grown-push : (t : Numbered) (rs : List Report) (r : Report) → grown t (rs ++ r ∷ []) ≡ plug r.piece (numbered r.first (shape_of r.tree)) (grown t rs)
grown-push t [] r = refl
grown-push t (x ∷ rs) r = grown-push (plug x.piece (numbered x.first (shape_of x.tree)) t) rs r

pub chain-push : (c : ℕ) (rs : List Report) (e : ℕ) (r : Report) → Chain c rs e → r.first ≡ e → r.piece < e → Chain c (rs ++ r ∷ []) (e + open_count (shape_of r.tree))
chain-push c [] e r h f p = (f ∙ sym h, rw h p, ap (λ w. w + open_count (shape_of r.tree)) h)
chain-push c (x ∷ rs) e r h f p = (h.0, h.1, chain-push (c + open_count (shape_of x.tree)) rs e r h.2 f p)

-- What is true of each book stays so.
-- The invariant is three records over plain fields (`Kept`): `IsFor`, `IsCounted`, `IsGrown`. Each call has one lemma
-- for each of the last two, with an equation premise for every list; the answers only pass names. Room for `back` is
-- `length log + taken ≤ vec_capacity log`: `take` reserves `taken + 2`, `better` `taken + 1`, and `report` and `back`,
-- which end a taken piece, push with no reservation.
use Rattle.std.proofs.Common.{◌≡◌, ◌≢◌, ℕ, zero, suc, ◌+◌, ◌-◌, ◌<◌, ◌≤◌, min, Bool, All, List, [], ◌∷◌, ◌++◌, length, set, drop, slice_get, replicate, Option, Some, None, refl, sym, ap, ◌∙◌, subst, arith, length-append}
use Rattle.std.proofs.lemmas.List.{length-replicate}
use Rattle.std.proofs.lemmas.Option.{get_or_from_slice_get, slice_get_within}
use Rattle.std.proofs.lemmas.List.Elements.{All-append}
use Rattle.ec_units.specs.declared.slave.Place.{Place}
use Rattle.ec_loads.specs.Held.{no_places}
use Rattle.ec_loads.specs.Line.{Line}
use Rattle.ec_loads.specs.Shape.{Shape}
use Rattle.ec_loads.specs.Search.{IsAtMost, IsPartialTree, open_count, node_count}
use Rattle.ec_cert.specs.Shapes.{shape_of}
use Rattle.ec_cert.specs.declared.tree.Tree.{Tree}
use Rattle.ec_symmetry.specs.Orders.{IsReachedPrefix, prefix_of}
use Rattle.ec_book.specs.declared.step.Step.{Step}
use Rattle.ec_book.specs.declared.step.Step.TheVariants.{Took, Reported, Better, Back}
use Rattle.ec_book.specs.declared.piece.Piece.{Piece}
use Rattle.ec_book.specs.declared.piece.Piece.TheVariants.{Free, Taken, Ended}
use Rattle.ec_book.specs.declared.report.Report.{Report}
use Rattle.ec_book.specs.Steps.{PiecesState, live_one, IsBelow}
use Rattle.ec_book.specs.Numbered.{numbered, plug, NumberedTree}
use Rattle.ec_book.specs.Open.{open_places, StandsAt}
use Rattle.ec_book.specs.Grown.{grown, Chain, HasPieces}
use Rattle.ec_book.specs.Kept.{NoneFreeBelow, IsCounted, IsGrown}
use Rattle.ec_book.proofs.HistoryLemmas.{history-push, granted-set, granted-le, granted-free, taken-set, taken-free}
use Rattle.ec_book.proofs.PieceLemmas.{is-tree-set, is-tree-report, length-set', grown-push, chain-push, within}
use Rattle.ec_book.proofs.TreeLemmas.{numbered-lower, tree-lower, numbered-report, length-leaves, reached-leaves}

length-push : (es : List Step) (e : Step) → length (es ++ e ∷ []) ≡ length es + 1
length-push [] e = refl
length-push (x ∷ es) e = let rest = length-push es e in omega (arith, rest)

-- a piece that changes without becoming free
none-free-set : (ours : ℕ → Bool) (ps : List Piece) (i k : ℕ) (new : Piece) → new ≢ Free → NoneFreeBelow ours ps k → NoneFreeBelow ours (set ps i new) k
none-free-set ours ps i k new other none m low own e = none m low own (get-set ps i m new other e)
  where
    same_piece : (a b : Piece) → Some a ≡ Some b → a ≡ b
    same_piece a b h = cc

    get-set : (ps : List Piece) (i m : ℕ) (new : Piece) → new ≢ Free → slice_get (set ps i new) m ≡ Some Free → slice_get ps m ≡ Some Free
    get-set [] i m new other h = h
    get-set (p ∷ ps) zero zero new other h = absurd (other (same_piece new Free h))
    get-set (p ∷ ps) zero (suc m) new other h = h
    get-set (p ∷ ps) (suc i) zero new other h = h
    get-set (p ∷ ps) (suc i) (suc m) new other h = get-set ps i m new other h

-- a piece that becomes free
none-free-back : (ours : ℕ → Bool) (ps : List Piece) (i k : ℕ) (new : Piece) → k ≤ i → NoneFreeBelow ours ps k → NoneFreeBelow ours (set ps i new) k
none-free-back ours ps i k new high none m low own e = none m low own (sym (get-other ps i m new (omega arith)) ∙ e)
  where
    get-other : (ps : List Piece) (i m : ℕ) (new : Piece) → m < i → slice_get (set ps i new) m ≡ slice_get ps m
    get-other [] i m new h = refl
    get-other (p ∷ ps) zero m new h = absurd (omega arith)
    get-other (p ∷ ps) (suc i) zero new h = refl
    get-other (p ∷ ps) (suc i) (suc m) new h = get-other ps i m new (omega arith)

-- pieces that are added at the end
none-free-more : (ours : ℕ → Bool) (ps qs : List Piece) (k : ℕ) → k ≤ length ps → NoneFreeBelow ours ps k → NoneFreeBelow ours (ps ++ qs) k
none-free-more ours ps qs k inside none m low own e = none m low own (sym (get-front ps qs m (omega arith)) ∙ e)
  where
    get-front : (ps qs : List Piece) (m : ℕ) → m < length ps → slice_get (ps ++ qs) m ≡ slice_get ps m
    get-front [] qs m h = absurd (omega arith)
    get-front (p ∷ ps) qs zero h = refl
    get-front (p ∷ ps) qs (suc m) h = get-front ps qs m (omega arith)

taken-not-free : (w g : ℕ) → Taken w g ≢ Free
taken-not-free w g e = cc

ended-not-free : Ended ≢ Free
ended-not-free e = cc

pub reached_at : (line : Line) (order : List ℕ) (xs : List (List Place)) (p : ℕ) (q : List Place) → slice_get xs p ≡ Some q → All (IsReachedPrefix line order) xs → IsReachedPrefix line order q
reached_at line order xs p q at all = subst (IsReachedPrefix line order) (get_or_from_slice_get xs p q q at) (all p q (slice_get_within xs p q at))

module _ (ours : ℕ → Bool) (from : PiecesState) (nodes : ℕ) (ps : List Piece) (value : Option ℕ) (spent held taken low : ℕ) (log : List Step) (room : ℕ) (h : IsCounted ours from nodes ps value spent held taken low log room) where
  abbrev now : PiecesState
  now = record { pieces = ps; value = value; spent = spent }

  pub counted-took : (w p g more : ℕ) (new_log : List Step) → slice_get ps p ≡ Some Free → 1 ≤ g → g ≤ nodes - spent - held → new_log ≡ log ++ (Took w p g) ∷ [] → length log + (taken + 2) ≤ more
      → IsCounted ours from nodes (set ps p (Taken w g)) value spent (held + g) (taken + 1) low new_log more
  counted-took w p g more new_log at some few log_is big =
      let part = granted-set ps p Free (Taken w g) at in
      let count = taken-set ps p Free (Taken w g) at in
      let size = length-set' ps p (Taken w g) in
      let held_is = h.held_is in let fits = h.within in let taken_is = h.taken_is in let low_in = h.low_in in
      rw log_is (record {
        history = history-push nodes from log (Took w p g) now _ h.history (at, some, omega (arith, held_is, fits, few, some), refl);
        held_is = omega (arith, held_is, part);
        within = omega (arith, fits, few, some);
        taken_is = omega (arith, taken_is, count);
        room_is = (let size_is = length-push log (Took w p g) in omega (arith, size_is, big));
        low_is = none-free-set ours ps p low (Taken w g) (taken-not-free w g) h.low_is;
        low_in = omega (arith, size, low_in);
      })

  pub counted-low : (new_low : ℕ) → NoneFreeBelow ours ps new_low → new_low ≤ length ps → IsCounted ours from nodes ps value spent held taken new_low log room
  counted-low new_low none inside = record { history = h.history; held_is = h.held_is; within = h.within; taken_is = h.taken_is; room_is = h.room_is; low_is = none; low_in = inside }

  pub counted-back : (w p g : ℕ) (new_log : List Step) → slice_get ps p ≡ Some (Taken w g) → new_log ≡ log ++ (Back w p) ∷ []
      → IsCounted ours from nodes (set ps p Free) value spent (held - g) (taken - 1) (min low p) new_log room
  counted-back w p g new_log at log_is =
      let part = granted-set ps p (Taken w g) Free at in
      let count = taken-set ps p (Taken w g) Free at in
      let size = length-set' ps p Free in
      let held_is = h.held_is in let fits = h.within in let taken_is = h.taken_is in let room_is = h.room_is in let low_in = h.low_in in
      rw log_is (record {
        history = history-push nodes from log (Back w p) now _ h.history (g, at, refl);
        held_is = omega (arith, held_is, part);
        within = omega (arith, fits);
        taken_is = omega (arith, taken_is, count);
        room_is = (let size_is = length-push log (Back w p) in omega (arith, size_is, room_is, count, taken_is));
        low_is = none-free-back ours ps p (min low p) Free (omega arith) (λ m less. h.low_is m (omega (arith, less)));
        low_in = omega (arith, size, low_in);
      })

  pub counted-better : (w v more : ℕ) (new_log : List Step) → IsBelow v value → new_log ≡ log ++ (Better w v) ∷ [] → length log + (taken + 1) ≤ more
      → IsCounted ours from nodes ps (Some v) spent held taken low new_log more
  counted-better w v more new_log below log_is big =
      rw log_is (record {
        history = history-push nodes from log (Better w v) now _ h.history (below, refl);
        held_is = h.held_is;
        within = h.within;
        taken_is = h.taken_is;
        room_is = (let size_is = length-push log (Better w v) in omega (arith, size_is, big));
        low_is = h.low_is;
        low_in = h.low_in;
      })

  pub counted-report : (w p g k first count : ℕ) (new_ps : List Piece) (new_log : List Step) → slice_get ps p ≡ Some (Taken w g) → 1 ≤ k → k ≤ g → first ≡ length ps
      → new_ps ≡ set ps p Ended ++ replicate count Free → new_log ≡ log ++ (Reported w p k first count) ∷ []
      → IsCounted ours from nodes new_ps value (spent + k) (held - g) (taken - 1) low new_log room
  counted-report w p g k first count new_ps new_log at some few first_is ps_are log_is =
      let part = granted-set ps p (Taken w g) Ended at in
      let free = granted-free (set ps p Ended) count in
      let fewer = taken-set ps p (Taken w g) Ended at in
      let taken_free = taken-free (set ps p Ended) count in
      let size = length-set' ps p Ended in
      let long = length-append (set ps p Ended) (replicate count Free) in
      let held_is = h.held_is in let fits = h.within in let taken_is = h.taken_is in let room_is = h.room_is in let low_in = h.low_in in
      let part_le = granted-le ps p (Taken w g) at in
      rw (ps_are, log_is) (record {
        history = history-push nodes from log (Reported w p k first count) now _ h.history (g, at, some, few, first_is, refl);
        held_is = omega (arith, held_is, part, free);
        within = omega (arith, fits, few, held_is, part_le);
        taken_is = omega (arith, taken_is, fewer, taken_free);
        room_is = (let size_is = length-push log (Reported w p k first count) in omega (arith, size_is, room_is, fewer, taken_is));
        low_is = none-free-more ours (set ps p Ended) (replicate count Free) low (omega (arith, size, low_in)) (none-free-set ours ps p low Ended ended-not-free h.low_is);
        low_in = omega (arith, long, size, low_in);
      })

module _ (given : Shape) (line : Line) (order : List ℕ) (ps : List Piece) (prefixes : List (List Place)) (reports : List Report) (value : Option ℕ) (spent : ℕ) (h : IsGrown given line order ps prefixes reports value spent) where
  -- a piece that is taken or given back
  pub grown-set : (p : ℕ) (old new : Piece) → slice_get ps p ≡ Some old → live_one (Some old) ≡ live_one (Some new) → IsGrown given line order (set ps p new) prefixes reports value spent
  grown-set p old new at same = record {
    chain = subst (λ w. Chain (open_count given) reports w) (sym (length-set' ps p new)) h.chain;
    each = h.each ∙ sym (length-set' ps p new);
    reached = h.reached;
    pieces_are = is-tree-set (grown (numbered 0 given) reports) ps (node_count given + spent) p old new h.pieces_are at same;
    tree = h.tree;
  }

  pub grown-better : (v : ℕ) → IsBelow v value → IsGrown given line order ps prefixes reports (Some v) spent
  grown-better v below = record {
    chain = h.chain;
    each = h.each;
    reached = h.reached;
    pieces_are = h.pieces_are;
    tree = numbered-lower (StandsAt line.loads order prefixes) line value (Some v) (at_most v value below) (grown (numbered 0 given) reports) (no_places line.loads) order h.tree;
  }
    where
      at_most : (v : ℕ) (value : Option ℕ) → IsBelow v value → IsAtMost (Some v) value
      at_most v None below = tt
      at_most v (Some w) below = omega arith

  pub grown-report : (p w g k count : ℕ) (prefix : List Place) (threshold : Option ℕ) (tree : Tree) (new_ps : List Piece) (new_prefixes : List (List Place)) (new_reports : List Report)
      → slice_get ps p ≡ Some (Taken w g) → slice_get prefixes p ≡ Some prefix → IsAtMost value threshold
      → IsPartialTree line threshold (shape_of tree) (prefix_of line.loads order prefix) (drop (length prefix) order)
      → k ≡ node_count (shape_of tree) → count ≡ length (open_places line order (shape_of tree) prefix)
      → new_ps ≡ set ps p Ended ++ replicate count Free → new_prefixes ≡ prefixes ++ open_places line order (shape_of tree) prefix
      → new_reports ≡ reports ++ (record { piece = p; first = length ps; tree = tree }) ∷ []
      → IsGrown given line order new_ps new_prefixes new_reports value (spent + k)
  grown-report p w g k count prefix threshold tree new_ps new_prefixes new_reports at place ahead partial k_is count_is ps_are prefixes_are reports_are =
      let ps0 = prefix_of line.loads order prefix in
      let rest = drop (length prefix) order in
      let opened = open_places line order (shape_of tree) prefix in
      let opens : length opened ≡ open_count (shape_of tree) = length-leaves (λ _ _. Unit {0}) line threshold (shape_of tree) ps0 rest prefix partial.0 in
      let count_opens : count ≡ open_count (shape_of tree) = count_is ∙ opens in
      let made = is-tree-report (grown (numbered 0 given) reports) ps (node_count given + spent) p (Taken w g) (shape_of tree) h.pieces_are at refl in
      let sum : node_count given + spent + node_count (shape_of tree) ≡ node_count given + (spent + k) = omega (arith, k_is) in
      let r : Report = record { piece = p; first = length ps; tree = tree } in
      let size : length (set ps p Ended ++ replicate count Free) ≡ length ps + count =
      length-append (set ps p Ended) (replicate count Free) ∙ (λ j. length-set' ps p Ended j + length-replicate count Free j) in
      let chain : Chain (open_count given) (reports ++ r ∷ []) (length ps + open_count (shape_of tree)) = chain-push (open_count given) reports (length ps) r h.chain refl (within ps p (Taken w g) at) in
      let lower : IsPartialTree line value (shape_of tree) ps0 rest = (tree-lower (λ _ _. Unit {0}) line threshold value ahead (shape_of tree) ps0 rest partial.0, partial.1) in
      let grown_tree = numbered-report line value order prefixes p prefix (shape_of tree) ps0 rest place (refl, refl) lower (grown (numbered 0 given) reports) (no_places line.loads) order h.tree in
      let more_reached = reached-leaves line order (shape_of tree) ps0 rest prefix (refl, refl) (reached_at line order prefixes p prefix place h.reached) in
      rw (ps_are, prefixes_are, reports_are) (record {
        chain = subst (λ e. Chain (open_count given) (reports ++ r ∷ []) e) (ap (λ x. length ps + x) (sym count_opens) ∙ sym size) chain;
        each = length-append prefixes opened ∙ (λ j. h.each j + (sym count_is) j) ∙ sym size;
        reached = All-append (IsReachedPrefix line order) prefixes opened h.reached more_reached;
        pieces_are = subst (λ n. HasPieces (grown (numbered 0 given) (reports ++ r ∷ [])) (set ps p Ended ++ replicate count Free) n) sum (rw (grown-push (numbered 0 given) reports r, count_opens) made);
        tree = rw (grown-push (numbered 0 given) reports r) (subst (λ x. NumberedTree (StandsAt line.loads order (prefixes ++ opened)) line value (plug p (numbered x (shape_of tree)) (grown (numbered 0 given) reports)) (no_places line.loads) order) h.each grown_tree);
      })

-- Prefixes that places make along an order, and their children.
-- `children-after`: by slots alone, the places after those of a path are the children of its prefix.
use Rattle.std.proofs.Common.{◌≡◌, ℕ, ◌≤◌, ◌==◌, ◌&&◌, Bool, false, if◌then◌else◌, List, [], ◌∷◌, ◌++◌, length, set, get_or, take, drop, ◌+◌, ◌<◌, replicate, Some, None, refl, ap, sym, ◌∙◌, subst, arith, add-one, drop-cons}
use Rattle.std.specs.List.{list_any}
use Rattle.std.proofs.lemmas.Bool.{or_parts}
use Rattle.std.proofs.lemmas.List.{drop_all, take-replicate}
use Rattle.std.proofs.Math.Seq.{take-set-lt}
use Rattle.ec_units.specs.declared.slave.Place.{Place}
use Rattle.ec_units.specs.declared.unit.Load.{Load}
use Rattle.ec_loads.specs.Held.{no_places}
use Rattle.ec_loads.specs.Line.{rules_if, line_by}
use Rattle.ec_loads.specs.Search.{Prefix, nobody, places_for, different_numbers, children}
use Rattle.ec_symmetry.specs.Orders.{has_repeat, IsOrder, with_places, prefix_of}
use Rattle.ec_symmetry.proofs.FreeLemmas.{AreFree, AreFree-set, AreFree-none}
use Rattle.ec_symmetry.proofs.ReachLemmas.{SameSlots, SameSlots-none, SameSlots-more, used-same}
use Rattle.ec_symmetry.proofs.SlotLemmas.{slots_of}
use Rattle.ec_symmetry.proofs.TurnLemmas.{children-by}

-- the places of a prefix are in the slots of the prefix
slots-along : (ps : Prefix) (us : List ℕ) (before q : List Place) → has_repeat us ≡ false → AreFree ps us → length q ≤ length us → SameSlots ps before → SameSlots (with_places ps us q) (before ++ q)
slots-along ps us before [] once free short same = subst (λ w. SameSlots ps w) (sym (append-nil before)) same
  where
    append-nil : (xs : List Place) → xs ++ [] ≡ xs
    append-nil [] = refl
    append-nil (x ∷ xs) = ap (λ w. x ∷ w) (append-nil xs)
slots-along ps [] before (p ∷ q) once free short same = absurd (omega arith)
slots-along ps (u ∷ us) before (p ∷ q) once free short same =
    let parts = or_parts (list_any (λ w. u == w) us) (has_repeat us) once in
    let more = slots-along (set ps u (Some p)) us (before ++ p ∷ []) q parts.1 (AreFree-set ps u (Some p) us parts.0 free.1) (omega arith) (SameSlots-more ps before u p free.0 same) in
    subst (λ w. SameSlots (with_places (set ps u (Some p)) us q) w) (assoc before p q) more
  where
    assoc : (a : List Place) (p : Place) (c : List Place) → (a ++ p ∷ []) ++ c ≡ a ++ (p ∷ c)
    assoc [] p c = refl
    assoc (x ∷ a) p c = ap (λ w. x ∷ w) (assoc a p c)

slots-prefix : (loads : List Load) (order : List ℕ) (q : List Place) → IsOrder (length loads) order → length q ≤ length order → SameSlots (prefix_of loads order q) q
slots-prefix loads order q is short = slots-along (no_places loads) order [] q is.once (AreFree-none loads order is.below) short (SameSlots-none loads)

-- the places after those of a path are the children of its prefix
pub children-after : (turned : Bool) (loads : List Load) (n : ℕ) (order : List ℕ) (u : ℕ) (q : List Place) → 1 ≤ (get_or loads u nobody).period → IsOrder (length loads) order → length q ≤ length order
    → places_for (if turned && (different_numbers (slots_of q) == 0) then 1 else (get_or loads u nobody).period) n (different_numbers (slots_of q)) ≡ children (line_by (rules_if turned) loads n) (prefix_of loads order q) u
children-after turned loads n order u q some is short =
    children-by turned loads n (prefix_of loads order q) u (different_numbers (slots_of q)) some
    (sym (used-same (prefix_of loads order q) q (slots-prefix loads order q is short)))

-- one more unit of the order gets its place in a table
pub prefix_step : (ps : Prefix) (order : List ℕ) (before : List Place) (i n u : ℕ) (p d : Place) → i < length order → i < length before → u < n → u ≡ get_or order i 0 → p ≡ get_or before i d
    → with_places (take n (set ps u (Some p))) (drop (i + 1) order) (drop (i + 1) before) ≡ with_places (take n ps) (drop i order) (drop i before)
prefix_step ps order before i n u p d h k low is at =
    rw (drop_more-self order i 0 h, drop_more-self before i d k, ← is, ← at, take-set-lt n ps u (Some p) low) refl
  where
    drop_more-self : {X : Type 0} (xs : List X) (i : ℕ) (d : X) → i < length xs → drop i xs ≡ get_or xs i d ∷ drop (i + 1) xs
    drop_more-self xs i d h = rw add-one (drop-cons xs i d h)

-- all have theirs
pub prefix_end : (ps : Prefix) (order : List ℕ) (before : List Place) (i : ℕ) → length before ≤ i → with_places ps (drop i order) (drop i before) ≡ ps
prefix_end ps order before i h = ap (with_places ps (drop i order)) (drop_all i before h)

-- the head of a table of no places is the prefix where no unit has one
pub no_places-head : (loads : List Load) (m : ℕ) → length loads ≤ m → take (length loads) (replicate m None) ≡ no_places loads
no_places-head loads m h = take-replicate (length loads) m None h ∙ none loads
  where
    none : (loads : List Load) → replicate (length loads) None ≡ no_places loads
    none [] = refl
    none (l ∷ loads) = ap (λ w. None ∷ w) (none loads)

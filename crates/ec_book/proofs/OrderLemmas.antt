-- Orders of units, and the prefixes that places make along them.
-- `LeadsTo loads order q ps rest` ties places in the order's sequence to a prefix and the units that are left;
-- `leads-more` is one unit more, `reached-more` says that it is reached.
use Rattle.std.proofs.Common.{◌≡◌, ℕ, ◌≤◌, List, [], ◌∷◌, ◌++◌, length, set, drop, Some, ap, sym, subst, ◌∙◌, arith}
use Rattle.ec_units.specs.declared.slave.Place.{Place}
use Rattle.ec_units.specs.declared.unit.Load.{Load}
use Rattle.ec_loads.specs.Held.{no_places}
use Rattle.ec_loads.specs.Line.{Line}
use Rattle.ec_loads.specs.Search.{Prefix, children}
use Rattle.ec_symmetry.specs.Reached.{In}
use Rattle.ec_symmetry.specs.Orders.{with_places, AreChildren, IsReachedPrefix}
use Rattle.ec_book.specs.Open.{LeadsTo}

with-more : (ps : Prefix) (us : List ℕ) (q : List Place) (p : Place) (u : ℕ) (rest : List ℕ) → u ∷ rest ≡ drop (length q) us → with_places ps us (q ++ p ∷ []) ≡ set (with_places ps us q) u (Some p)
with-more ps [] [] p u rest e = absurd (cc)
with-more ps (w ∷ us) [] p u rest e = let same : u ≡ w = cc in ap (λ x. set ps x (Some p)) (sym same)
with-more ps [] (r ∷ q) p u rest e = absurd (cc)
with-more ps (w ∷ us) (r ∷ q) p u rest e = with-more (set ps w (Some r)) us q p u rest e

drop-more : (us : List ℕ) (q : List Place) (p : Place) (u : ℕ) (rest : List ℕ) → u ∷ rest ≡ drop (length q) us → rest ≡ drop (length (q ++ p ∷ [])) us
drop-more [] [] p u rest e = absurd (cc)
drop-more (w ∷ us) [] p u rest e = cc
drop-more [] (r ∷ q) p u rest e = absurd (cc)
drop-more (w ∷ us) (r ∷ q) p u rest e = drop-more us q p u rest e

-- one more unit gets its place
pub leads-more : (loads : List Load) (order : List ℕ) (q : List Place) (ps : Prefix) (u : ℕ) (rest : List ℕ) (p : Place) → LeadsTo loads order q ps (u ∷ rest) → LeadsTo loads order (q ++ p ∷ []) (set ps u (Some p)) rest
leads-more loads order q ps u rest p h =
    (ap (λ w. set w u (Some p)) h.0 ∙ sym (with-more (no_places loads) order q p u rest h.1), drop-more order q p u rest h.1)

children-along : (line : Line) (ps : Prefix) (us : List ℕ) (q : List Place) (p : Place) (u : ℕ) (rest : List ℕ) → u ∷ rest ≡ drop (length q) us → AreChildren line ps us q → In p (children line (with_places ps us q) u) → AreChildren line ps us (q ++ p ∷ [])
children-along line ps [] [] p u rest e all is = absurd (cc)
children-along line ps (w ∷ us) [] p u rest e all is = let same : u ≡ w = cc in (subst (λ x. In p (children line ps x)) same is, tt)
children-along line ps [] (r ∷ q) p u rest e all is = absurd (cc)
children-along line ps (w ∷ us) (r ∷ q) p u rest e all is = (all.0, children-along line (set ps w (Some r)) us q p u rest e all.1 is)

-- and is reached, where its place is a child
pub reached-more : (line : Line) (order : List ℕ) (q : List Place) (ps : Prefix) (u : ℕ) (rest : List ℕ) (p : Place) → LeadsTo line.loads order q ps (u ∷ rest) → IsReachedPrefix line order q → In p (children line ps u) → IsReachedPrefix line order (q ++ p ∷ [])
reached-more line order q ps u rest p h all is = children-along line (no_places line.loads) order q p u rest h.1 all (subst (λ w. In p (children line w u)) h.0 is)

along-short : (line : Line) (ps : Prefix) (us : List ℕ) (q : List Place) → AreChildren line ps us q → length q ≤ length us
along-short line ps us [] all = omega arith
along-short line ps [] (r ∷ q) all = absurd all
along-short line ps (w ∷ us) (r ∷ q) all = let rest = along-short line (set ps w (Some r)) us q all.1 in omega arith

-- a prefix that is reached isn't longer than the order
pub reached-short : (line : Line) (order : List ℕ) (q : List Place) → IsReachedPrefix line order q → length q ≤ length order
reached-short line order q all = along-short line (no_places line.loads) order q all

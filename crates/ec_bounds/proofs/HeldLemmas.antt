-- A place that is given and taken away again, and what is left then.
-- For a walk that gives a unit a place and takes it away again: the loads are as before (`restored`), what is left
-- follows (`rest_follows`, `empty_rest`, `flags_count`), the unit is still one of them (`still_within`,
-- `within_after`). The checker and the search use it.
use Rattle.std.proofs.Common.{◌≡◌, ℕ, zero, suc, ◌<◌, Bool, true, is_none, List, [], ◌∷◌, map, length, set, slice_get, Option, Some, None, refl, sym, ap, ◌∙◌, subst, set-set}
use Rattle.std.proofs.lemmas.List.{map-set, length-map, length-set}
use Rattle.ec_units.specs.declared.slave.Place.{Place}
use Rattle.ec_units.specs.declared.unit.Load.{Load}
use Rattle.ec_loads.specs.Held.{Held, no_places}
use Rattle.ec_loads.specs.Search.{Prefix}
use Rattle.ec_bounds.specs.Left.{Left, IsRestOf, all_of}

-- the place of a unit is given
abbrev pub with_place : Held → ℕ → Option Place → Held
with_place held u o = record { loads = held.loads; slots = held.slots; places = set held.places u o }

abbrev pub with_flag : Left → ℕ → Bool → Left
with_flag left u b = record { loads = left.loads; unplaced = set left.unplaced u b }

set-none : (ps : Prefix) (u : ℕ) → slice_get ps u ≡ Some None → set ps u None ≡ ps
set-none [] u h = refl
set-none (p ∷ ps) zero h = let e : p ≡ None = cc in λ j. sym e j ∷ ps
set-none (p ∷ ps) (suc u) h = ap (λ w. p ∷ w) (set-none ps u h)

pub restored : (before placed after end : Held) (u : ℕ) (x : Place) → placed ≡ with_place before u (Some x) → after ≡ placed → end ≡ with_place after u None → slice_get before.places u ≡ Some None → end ≡ before
restored before placed after end u x e f g free =
    g
    ∙ ap (λ (w : Held). with_place w u None) (f ∙ e)
    ∙ (λ j. record { loads = before.loads; slots = before.slots; places = (set-set before.places u (Some x) None ∙ set-none before.places u free) j })

-- what is left follows what is held
pub rest_follows : (held placed : Held) (left less : Left) (u : ℕ) (o : Option Place) → IsRestOf left held → placed ≡ with_place held u o → less ≡ with_flag left u (is_none o) → IsRestOf less placed
rest_follows held placed left less u o rest made flagged = record {
  loads = ap (λ (l : Left). l.loads) flagged ∙ rest.loads ∙ ap (λ (h : Held). h.loads) (sym made);
  unplaced =
      ap (λ (l : Left). l.unplaced) flagged ∙ ap (λ w. set w u (is_none o)) rest.unplaced ∙ sym (map-set (λ p. is_none p) held.places u o)
      ∙ ap (λ (h : Held). map (λ p. is_none p) h.places) (sym made);
}

pub flags_count : (held : Held) (left : Left) → IsRestOf left held → length left.unplaced ≡ length held.places
flags_count held left rest = ap length rest.unplaced ∙ length-map held.places (λ p. is_none p)

-- the unit is still one of them
pub still_within : (held placed : Held) (u : ℕ) (o : Option Place) → u < length held.places → placed ≡ with_place held u o → u < length placed.places
still_within held placed u o h made = subst (λ (w : Held). u < length w.places) (sym made) (rw (length-set held.places u o) h)

-- and after a walk that leaves the places as they are
pub within_after : (held placed after : Held) (u : ℕ) (o : Option Place) → u < length held.places → placed ≡ with_place held u o → after ≡ placed → u < length after.places
within_after held placed after u o h made same = subst (λ (w : Held). u < length w.places) (sym same) (still_within held placed u o h made)

flags_of : (loads : List Load) → all_of loads ≡ map (λ p. is_none p) (no_places loads)
flags_of [] = refl
flags_of (l ∷ ls) = ap (λ w. true ∷ w) (flags_of ls)

-- where no unit has a place, all are left
pub empty_rest : (loads : List Load) (n : ℕ) (held : Held) (left : Left) → held ≡ record { loads = loads; slots = n; places = no_places loads } → left ≡ record { loads = loads; unplaced = all_of loads } → IsRestOf left held
empty_rest loads n held left at is = record {
  loads = ap (λ (l : Left). l.loads) is ∙ ap (λ (h : Held). h.loads) (sym at);
  unplaced = ap (λ (l : Left). l.unplaced) is ∙ flags_of loads ∙ ap (λ (h : Held). map (λ p. is_none p) h.places) (sym at);
}

-- Prefixes that the children reach, and places that are kept in the order in which units got them.
-- A walk that keeps the places of its units in the order in which they got them, and calls `used_slots` on these, keeps
-- `SameSlots` (`SameSlots-none`, `SameSlots-more`) and gets `used prefix` by `used-same`.
use Rattle.std.proofs.Common.{◌≡◌, ℕ, ◌<◌, ◌==◌, ◌||◌, List, [], ◌∷◌, ◌++◌, map, length, set, get_or, slice_get, All, Some, None, refl, sym, ap, ◌∙◌, arith}
use Rattle.std.proofs.lemmas.List.Elements.{All-head, All-tail}
use Rattle.ec_units.specs.declared.slave.Place.{Place}
use Rattle.ec_units.specs.declared.unit.Load.{Load}
use Rattle.ec_loads.specs.Held.{no_places}
use Rattle.ec_loads.specs.Line.{Line}
use Rattle.ec_loads.specs.Search.{Prefix, Extends, slots_in, used, different_numbers, nowhere}
use Rattle.ec_symmetry.specs.Reached.{IsCanonical, placed}
use Rattle.ec_symmetry.proofs.SlotLemmas.{slots_of}
use Rattle.ec_symmetry.proofs.SetLemmas.{different-alike}
use Rattle.ec_symmetry.proofs.InLemmas.{children-In}
use Rattle.ec_symmetry.proofs.UsedLemmas.{member, member-set, or_swap, NoGap, slots-none}
use Rattle.ec_symmetry.proofs.CanonLemmas.{Extends-set, step_next}

-- children leave no gap
pub NoGap-placed : (line : Line) (ps : Prefix) (order : List ℕ) (plan : List Place) → All (λ u. u < length line.loads) order → length plan ≡ length line.loads → Extends ps (map Some plan) → NoGap ps → IsCanonical line ps order plan → NoGap (placed ps order plan)
NoGap-placed line ps [] plan all whole e d reached = d
NoGap-placed line ps (u ∷ order) plan all whole e d reached =
    let within = All-head (λ w. w < length line.loads) u order all in
    let later = All-tail (λ w. w < length line.loads) u order all in
    let low = children-In line ps u (get_or plan u nowhere) reached.0 in
    let step = step_next ps plan u d e (omega arith) low.1 in
    NoGap-placed line (set ps u (Some (get_or plan u nowhere))) order plan later whole (Extends-set ps plan u e) step.dense reached.1

-- the prefix uses the slots of these places and no other
pub record SameSlots (ps : Prefix) (places : List Place) : Type 0 where
  pub members : (s : ℕ) → member s (slots_in ps) ≡ member s (slots_of places)

pub SameSlots-none : (loads : List Load) → SameSlots (no_places loads) []
SameSlots-none loads = record { members = λ s. ap (member s) (slots-none loads) }

member-last : (s : ℕ) (p : Place) (places : List Place) → member s (slots_of (places ++ p ∷ [])) ≡ ((s == p.slot) || member s (slots_of places))
member-last s p [] = refl
member-last s p (q ∷ places) = ap (λ b. (s == q.slot) || b) (member-last s p places) ∙ or_swap (s == q.slot) (s == p.slot) (member s (slots_of places))

-- one more unit has its place
pub SameSlots-more : (ps : Prefix) (places : List Place) (u : ℕ) (p : Place) → slice_get ps u ≡ Some None → SameSlots ps places → SameSlots (set ps u (Some p)) (places ++ p ∷ [])
SameSlots-more ps places u p none same_slots =
    record { members = λ s. member-set s ps u p none ∙ ap (λ b. (s == p.slot) || b) (same_slots.members s) ∙ sym (member-last s p places) }

-- so the number of different slots of the places is that of the prefix
pub used-same : (ps : Prefix) (places : List Place) → SameSlots ps places → used ps ≡ different_numbers (slots_of places)
used-same ps places same_slots = different-alike (slots_in ps) (slots_of places) same_slots.members

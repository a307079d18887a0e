-- The slots that a prefix uses, when one more unit has its place: `step_free` is what a step to a child does to `NoGap`.
use Rattle.std.proofs.Common.{◌≡◌, ℕ, suc, ◌+◌, ◌<◌, ◌≤◌, ◌==◌, true, false, List, set, slice_get, Some, None, sym, ap, ◌∙◌, arith, inl, inr}
use Rattle.std.proofs.lemmas.Bool.{cases_eq, cases_lt, eq-eqb, eqb-true, or_cases, or_left, or_right, false_from_ne_true, false≢true}
use Rattle.ec_units.specs.declared.slave.Place.{Place}
use Rattle.ec_units.specs.declared.unit.Load.{Load}
use Rattle.ec_loads.specs.Held.{no_places}
use Rattle.ec_loads.specs.Search.{Prefix, slots_in, different_numbers, used}
pub use Rattle.ec_loads.proofs.MoreLemmas.{or_swap}
pub use Rattle.ec_loads.proofs.UsedLemmas.{member, once, member-set, used-set, slots-none}

-- the slots in use are 0, 1, .. without a gap
pub record NoGap (ps : Prefix) : Type 0 where
  pub below : (s : ℕ) → member s (slots_in ps) ≡ true → s < used ps
  pub each : (s : ℕ) → s < used ps → member s (slots_in ps) ≡ true

pub used-none : (loads : List Load) → used (no_places loads) ≡ 0
used-none loads = ap different_numbers (slots-none loads)

pub NoGap-none : (loads : List Load) → NoGap (no_places loads)
NoGap-none loads =
    record {
      below = λ s m. absurd (false≢true (sym (ap (member s) (slots-none loads)) ∙ m));
      each = λ s h. let none = used-none loads in absurd (omega arith);
    }

used-old : (ps : Prefix) (u : ℕ) (p : Place) → slice_get ps u ≡ Some None → member p.slot (slots_in ps) ≡ true → used (set ps u (Some p)) ≡ used ps
used-old ps u p h m = used-set ps u p h ∙ ap (λ b. once b + used ps) m ∙ omega arith

used-new : (ps : Prefix) (u : ℕ) (p : Place) → slice_get ps u ≡ Some None → member p.slot (slots_in ps) ≡ false → used (set ps u (Some p)) ≡ suc (used ps)
used-new ps u p h m = used-set ps u p h ∙ ap (λ b. once b + used ps) m ∙ omega arith

-- what follows from a step to a child
pub record Stepped (before after : Prefix) (s : ℕ) : Type 0 where
  pub dense : NoGap after
  pub old : s < used before → used after ≡ used before
  pub new : s ≡ used before → used after ≡ suc (used before)

-- the next unit takes a slot in use
step_old : (ps : Prefix) (u : ℕ) (p : Place) → NoGap ps → slice_get ps u ≡ Some None → p.slot < used ps → Stepped ps (set ps u (Some p)) p.slot
step_old ps u p d h low =
    let count = used-old ps u p h (d.each p.slot low) in
    record {
      dense = record {
        below = λ s m. elim (or_cases (s == p.slot) (member s (slots_in ps)) (sym (member-set s ps u p h) ∙ m)) [
          | inl is ↦ let e = eqb-true s p.slot is in omega arith
          | inr there ↦ let b = d.below s there in omega arith
        ];
        each = λ s w. member-set s ps u p h ∙ or_right (s == p.slot) (member s (slots_in ps)) (d.each s (omega arith));
      };
      old = λ _. count;
      new = λ e. absurd (omega arith);
    }

-- or the first slot that isn't
step_new : (ps : Prefix) (u : ℕ) (p : Place) → NoGap ps → slice_get ps u ≡ Some None → p.slot ≡ used ps → Stepped ps (set ps u (Some p)) p.slot
step_new ps u p d h at =
    let count = used-new ps u p h (false_from_ne_true (member p.slot (slots_in ps)) (λ m. let b = d.below p.slot m in omega arith)) in
    record {
      dense = record {
        below = λ s m. elim (or_cases (s == p.slot) (member s (slots_in ps)) (sym (member-set s ps u p h) ∙ m)) [
          | inl is ↦ let e = eqb-true s p.slot is in omega arith
          | inr there ↦ let b = d.below s there in omega arith
        ];
        each = λ s w. member-set s ps u p h ∙ elim (cases_eq s p.slot) [
          | inl is ↦ or_left (s == p.slot) (member s (slots_in ps)) (eq-eqb s p.slot is)
          | inr apart ↦ or_right (s == p.slot) (member s (slots_in ps)) (d.each s (omega arith))
        ];
      };
      old = λ low. absurd (omega arith);
      new = λ _. count;
    }

pub step_free : (ps : Prefix) (u : ℕ) (p : Place) → NoGap ps → slice_get ps u ≡ Some None → p.slot ≤ used ps → Stepped ps (set ps u (Some p)) p.slot
step_free ps u p d h low =
    elim (cases_lt p.slot (used ps)) [
      | inl inside ↦ step_old ps u p d h inside
      | inr past ↦ step_new ps u p d h (omega arith)
    ]

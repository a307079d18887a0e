use Rattle.std.proofs.Common.{◌<◌, unwrap_or, w8, w16, Fits-lit, refl, ap, sym, subst, ◌∙◌, arith}
use Rattle.toml.specs.View.{table_view}
use Rattle.ec_unit_text.specs.declared.fault.Key.TheVariants as key
use Rattle.ec_unit_text.specs.AtKey.{integer_given, integer_at}
use Rattle.ec_unit_text.specs.Said.{number_at}
use Rattle.ec_unit_text.proofs.Fitting.{IsGiven, given_number, place_parts, place_said}
use Rattle.ec_unit_text.proofs.build.place_of.Goals as goal

-- the phase and the slot that are given
phase_in : (c : goal.In-Some-Some) → IsGiven w16 (integer_at key.Period (table_view c.args.unit.now)) c.in-Some-Some.phase
phase_in c =
    given_number w16 _ _ 60 (integer_given key.Phase (table_view c.args.unit.now)) (Fits-lit tt) (omega arith) c.requires.period
    (place_parts (table_view c.args.top.now) (table_view c.args.unit.now) c.requires.inside).0 (sym c.integer_given.ensures ∙ c.in-Some-Some.is-0)

slot_in : (c : goal.In-Some-Some) → IsGiven w8 (integer_at key.Slots (table_view c.args.top.now)) c.in-Some-Some.slot
slot_in c =
    given_number w8 _ _ 8 (integer_given key.Slot (table_view c.args.unit.now)) (Fits-lit tt) (omega arith) c.requires.slots
    (place_parts (table_view c.args.top.now) (table_view c.args.unit.now) c.requires.inside).1 (sym c.integer_given-2.ensures ∙ c.in-Some-Some.is-1)

pub overflow_cast-result : goal.overflow_cast-result
overflow_cast-result c = (phase_in c).fits

pub overflow_cast-result-in-Some-Some : goal.overflow_cast-result-in-Some-Some
overflow_cast-result-in-Some-Some c = (slot_in c).fits

pub returns-in-Some-Some-clause-value : goal.returns-in-Some-Some-clause-value
returns-in-Some-Some-clause-value c =
    place_said _ _ _ _ _ _ (phase_in c).same (slot_in c).same (sym c.integer_given.ensures ∙ c.in-Some-Some.is-0) (sym c.integer_given-2.ensures ∙ c.in-Some-Some.is-1)

pub returns-in-Some-Some-clause-phase : goal.returns-in-Some-Some-clause-phase
returns-in-Some-Some-clause-phase c = λ p is.
    subst (λ n. n < number_at key.Period (table_view c.args.unit.now)) (ap (λ o. (unwrap_or o p).phase) is) (phase_in c).below

pub returns-in-Some-Some-clause-slot : goal.returns-in-Some-Some-clause-slot
returns-in-Some-Some-clause-slot c = λ p is.
    subst (λ n. n < number_at key.Slots (table_view c.args.top.now)) (ap (λ o. (unwrap_or o p).slot) is) (slot_in c).below

pub returns-in_default : goal.returns-in_default
returns-in_default c = record {
  value = rw (sym c.integer_given.ensures ∙ c.in_default.is-0, sym c.integer_given-2.ensures ∙ c.in_default.is-1) refl;
  phase = λ p is. cc;
  slot = λ p is. cc;
}

pub returns-in_default-2-clause-value : goal.returns-in_default-2-clause-value
returns-in_default-2-clause-value c = rw (sym c.integer_given.ensures ∙ c.in_default.is-0) refl

pub returns-in_default-2-clause-phase : goal.returns-in_default-2-clause-phase
returns-in_default-2-clause-phase c = λ p is. cc

pub returns-in_default-2-clause-slot : goal.returns-in_default-2-clause-slot
returns-in_default-2-clause-slot c = λ p is. cc

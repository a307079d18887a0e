-- From what comes of a search, begun, resumed or of a merge, to what is told of it.
-- A search is one relation with two parameters: what is found, and why nothing is (`IsSearchWritten is fault`).
use Rattle.std.proofs.Common.{◌≡◌, None, Result, Ok, Err, refl, sym, subst, inl, inr}
use Rattle.std.specs.Prelude.{IfOk, IfErr}
use Rattle.ec_units.specs.declared.units.Units.{Units}
use Rattle.ec_outcome.specs.declared.search.Outcome.{Outcome}
use Rattle.ec_cli_refusals.specs.declared.refusal.Refusal.{Refusal}
use Rattle.ec_cli_refusals.specs.Refusals.{out_of_memory}
use Rattle.ec_cli_text.specs.Output.{shown}
use Rattle.ec_cli_answers.specs.Planned.{IsOutcomeWritten, IsSearchWritten}
use Rattle.ec_cli_answers.specs.Told.{HandsOutcome, IsOutcomeTold, TellsBy, file_bytes}
use Rattle.ec_cli_answers.specs.declared.told.Told.{Told}

-- what is told of an outcome is what is written of it
outcome_written : (is : Units → Outcome → Type 0) (us : Units) (o : Outcome) (t : Told) → is us o → IsOutcomeTold us o t → IsOutcomeWritten is (shown t.answer) (file_bytes t.file)
outcome_written is us o t found ok = record { units = us; found = o; answer = found; level = ok.level; shown = ok.is_level; text = ok.text; certificate = ok.file; shows = ok.shows }

-- and with it goes what it has
outcome_handed : (is : Units → Outcome → Type 0) (us : Units) (o : Outcome) (t : Told) → is us o → IsOutcomeTold us o t → HandsOutcome is t
outcome_handed is us o t found ok = record { units = us; found = o; answer = found; level = ok.level; is_level = ok.is_level; text = ok.text; file = ok.file; plan = ok.plan; ending = ok.ending; verdict = ok.verdict }

-- of an answer that may be want of memory
pub all_written : (is : Units → Outcome → Type 0) (us : Units) (o : Outcome) (t : Result Told Refusal) → is us o → IfOk t (IsOutcomeTold us o) → IfOk t (λ a. IsOutcomeWritten is (shown a.answer) (file_bytes a.file))
all_written is us o (Ok a) found ok = outcome_written is us o a found ok
all_written is us o (Err r) found ok = tt

pub all_handed : (is : Units → Outcome → Type 0) (us : Units) (o : Outcome) (t : Result Told Refusal) → is us o → IfOk t (IsOutcomeTold us o) → IfOk t (HandsOutcome is)
all_handed is us o (Ok a) found ok = outcome_handed is us o a found ok
all_handed is us o (Err r) found ok = tt

-- what is told where there is an outcome, and where memory ran out over its text
pub outcome_tells : (is : Units → Outcome → Type 0) (fault : Refusal → Type 0) (us : Units) (o : Outcome) (t : Result Told Refusal) → is us o → fault out_of_memory → IfOk t (IsOutcomeTold us o) → IfErr t (λ r. r ≡ out_of_memory)
    → TellsBy (IsSearchWritten is fault) (HandsOutcome is) t
outcome_tells is fault us o (Ok a) found may ok err = record { file = file_bytes a.file; is = inl (outcome_written is us o a found ok); made = refl; handed = outcome_handed is us o a found ok }
outcome_tells is fault us o (Err r) found may ok memory = record { file = None; is = inr (record { refusal = r; why = subst fault (sym memory) may; line = refl; certificate = refl }); made = refl; handed = tt }

-- and where there is none
pub search_untold : (is : Units → Outcome → Type 0) (fault : Refusal → Type 0) (r : Refusal) (t : Result Told Refusal) → t ≡ Err r → fault r → TellsBy (IsSearchWritten is fault) (HandsOutcome is) t
search_untold is fault r t eq why = rw eq (record { file = None; is = inr (record { refusal = r; why = why; line = refl; certificate = refl }); made = refl; handed = tt })

-- What frames write: their text, and before it their capture file.
use Rattle.std.specs.Prelude.{◌≡◌, ◌⊎◌, ℕ, ◌≤◌, List, length, Option, Some, None, Ok}
use Rattle.ec_unit_text.specs.Reading.{reading}
use Rattle.ec_units.specs.Views.{UnitsView}
use Rattle.ec_cli_refusals.specs.declared.refusal.Refusal.{Refusal}
use Rattle.ec_cli_refusals.specs.Refusals.{IsFramesMemory, IsMemory, IsUnitsFault, out_of_memory}
use Rattle.ec_cli_command.specs.declared.job.Job.TheVariants as job
use Rattle.ec_cli_text.specs.Plans.{IsPlanless}
use Rattle.ec_cli_text.specs.Framed.{IsCaptured}
use Rattle.ec_cli_text.specs.Output.{Written, refused}

-- want of memory over the plan of which is told: over the units, or over a certificate where there is one
abbrev pub IsPlanWant : Option (List ℕ) → Refusal → Type 0
IsPlanWant None r = r ≡ out_of_memory
IsPlanWant (Some text) r = IsMemory job.Check r

-- why the bytes of units, and of a certificate where there is one, give no plan of which to tell
abbrev pub GivesNoPlan : Option (List ℕ) → List ℕ → Refusal → Type 0
GivesNoPlan cert bytes r = IsUnitsFault bytes r ⊎ ((v : UnitsView) × (length bytes ≤ 1048576) × (reading bytes ≡ Ok v) × IsPlanless cert v r)

-- written is the line that says why there are no frames, which may be want of memory, and no capture file
pub record IsUnframed (cert : Option (List ℕ)) (bytes : List ℕ) (w : Written) (file : Option (List ℕ)) : Type 0 where
  pub refusal : Refusal
  pub fault : IsFramesMemory refusal ⊎ GivesNoPlan cert bytes refusal
  pub line : w ≡ refused refusal
  pub none : file ≡ None

-- what is written for the bytes of units, and the capture file that is written before it: the text of the frames and these frames, or a refusal and none
abbrev pub IsFramesWritten : Option (List ℕ) → List ℕ → Written → Option (List ℕ) → Type 0
IsFramesWritten cert bytes w file = ((all : List ℕ) × (file ≡ Some all) × IsCaptured cert bytes w all) ⊎ IsUnframed cert bytes w file

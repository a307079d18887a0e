-- What a status says.
use Rattle.std.proofs.Common.{◌≡◌, ℕ, ◌≤◌, ap, arith}
use Rattle.ec_cli_refusals.specs.declared.refusal.Refusal.{Refusal}
use Rattle.ec_cli_refusals.proofs.RefusalLemmas.{code_above}
use Rattle.ec_cli_text.specs.Output.{Written, refused}
use Rattle.ec_cli_run.specs.Sound.{ByStatus}

pub by_0 : {A B C : Type 0} (code : ℕ) → code ≡ 0 → A → ByStatus code A B C
by_0 code is a = (λ _. a, λ one. absurd (omega (arith, is, one)), λ two. absurd (omega (arith, is, two)))

pub by_1 : {A B C : Type 0} (code : ℕ) → code ≡ 1 → B → ByStatus code A B C
by_1 code is b = (λ none. absurd (omega (arith, is, none)), λ _. b, λ two. absurd (omega (arith, is, two)))

pub by_2 : {A B C : Type 0} (code : ℕ) → code ≡ 2 → C → ByStatus code A B C
by_2 code is c = (λ none. absurd (omega (arith, is, none)), λ one. absurd (omega (arith, is, one)), λ _. c)

-- a greater one says nothing
pub by_other : {A B C : Type 0} (code : ℕ) → 3 ≤ code → ByStatus code A B C
by_other code above = (λ none. absurd (omega (arith, above, none)), λ one. absurd (omega (arith, above, one)), λ two. absurd (omega (arith, above, two)))

-- that of a refusal is so
pub by_refusal : {A B C : Type 0} (w : Written) (r : Refusal) → w ≡ refused r → ByStatus w.code A B C
by_refusal w r is = by_other w.code (omega (arith, code_above r, ap (λ (v : Written). v.code) is))

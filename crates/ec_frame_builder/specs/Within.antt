-- What lies within an image.
use Rattle.std.specs.Prelude.{◌≡◌, ℕ, ◌+◌, ◌≤◌, List, All}
use Rattle.ec_fmmu.specs.declared.fmmu.Fmmu.{Fmmu}
use Rattle.ec_fmmu.specs.declared.group.Group.{Group}

-- the bytes of a record lie within an image of so many bytes, if it is one of inputs
abbrev pub IsWithin : ℕ → Fmmu → Type 0
IsWithin n f = f.kind ≡ 1 → (65536 ≤ f.logical) × (f.logical + f.len ≤ 65536 + n)

abbrev pub AreWithin : ℕ → List (List Fmmu) → Type 0
AreWithin n fmmus = All (λ pair. All (IsWithin n) pair) fmmus

-- the bytes of groups lie within it, and each group has a period
abbrev pub GroupsWithin : ℕ → List Group → Type 0
GroupsWithin n groups = All (λ g. (1 ≤ g.period) × (65536 ≤ g.start) × (g.start + g.len ≤ 65536 + n)) groups

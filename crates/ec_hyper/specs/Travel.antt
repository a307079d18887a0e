use Rattle.std.specs.Prelude.{ℕ, ◌%◌, ◌==◌, Bool}

-- travel: what has this period and phase is sent in tick t, for every t from 0 on
abbrev pub travels : ℕ → ℕ → ℕ → Bool
travels period phase t = t % period == phase

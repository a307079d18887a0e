-- The lines of a play that loses slaves.
use Rattle.std.specs.Prelude.{ℕ, suc, List, [], ◌∷◌, ◌++◌, codes}
use Rattle.std.specs.List.{flat_map}
use Rattle.std.specs.Fmt.{decimal}
use Rattle.ec_player.specs.declared.faults.Wrong.{Wrong}
use Rattle.ec_play_text.specs.Lines.{tick_line}
use Rattle.ec_play_trial.specs.Trials.{TickView}

-- a counter of tick t that isn't the one that is wanted
abbrev pub short_line : ℕ → Wrong → List ℕ
short_line t w =
    codes "short " ++ (decimal t ++ (codes " " ++ (decimal w.datagram ++ (codes " " ++ (decimal w.want ++ (codes " " ++ (decimal w.got ++ codes "\n")))))))

-- tick t: its line in a play, and each such counter
abbrev pub tick_text : ℕ → TickView → List ℕ
tick_text t v = tick_line t v.row ++ flat_map (short_line t) v.shorts

-- ticks from t on
abbrev pub ticks_text : ℕ → List TickView → List ℕ
ticks_text t [] = []
ticks_text t (v ∷ vs) = tick_text t v ++ ticks_text (suc t) vs

-- the number of start frames, the ticks from tick 0 on, and the end
unfoldable pub trial_text : ℕ → List TickView → List ℕ
trial_text start ticks = codes "start " ++ (decimal start ++ (codes "\n" ++ (ticks_text 0 ticks ++ codes "done\n")))

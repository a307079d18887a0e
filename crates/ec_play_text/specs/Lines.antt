-- The lines of a play.
use Rattle.std.specs.Prelude.{ℕ, suc, List, [], ◌∷◌, ◌++◌, codes}
use Rattle.std.specs.List.{flat_map}
use Rattle.std.specs.Fmt.{decimal}
use Rattle.ec_player.specs.declared.rows.TickRow.{TickRow}

-- counters, each behind a comma
abbrev pub others : List ℕ → List ℕ
others counters = flat_map (λ c. codes "," ++ decimal c) counters

-- counters with a comma between them, `-` for none
abbrev pub counters_text : List ℕ → List ℕ
counters_text [] = codes "-"
counters_text (c ∷ cs) = decimal c ++ others cs

-- tick t: its frames, their bytes on the wire, and the counters with which their datagrams came back
abbrev pub tick_line : ℕ → TickRow → List ℕ
tick_line t r =
    codes "tick " ++ (decimal t ++ (codes " frames " ++ (decimal r.frames ++ (codes " bytes " ++ (decimal r.bytes ++ (codes " counters " ++ (counters_text r.counters ++ codes "\n")))))))

-- ticks from t on
abbrev pub tick_lines : ℕ → List TickRow → List ℕ
tick_lines t [] = []
tick_lines t (r ∷ rs) = tick_line t r ++ tick_lines (suc t) rs

-- the number of start frames, the ticks from tick 0 on, and the end
unfoldable pub play_text : ℕ → List TickRow → List ℕ
play_text start rows = codes "start " ++ (decimal start ++ (codes "\n" ++ (tick_lines 0 rows ++ codes "done\n")))

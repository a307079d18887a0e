use Rattle.std.proofs.Common.{◌≡◌, ℕ, ◌≤◌, List, length}
use Rattle.ec_units.specs.declared.slave.Place.{Place}
use Rattle.ec_loads.specs.Line.{line_of}
use Rattle.ec_symmetry.specs.Ruled.{line_rules}
use Rattle.ec_branch.specs.Stacks.{State, state_of, IsAmong}
use Rattle.ec_branch.proofs.level.close_next.Given as goal

abbrev pub decreases-loop-place : goal.decreases-loop-place
decreases-loop-place g l = length l.level.places

abbrev pub invariant-loop-place : goal.invariant-loop-place
invariant-loop-place g l =
    record {
      frame : g.G.Guide.frame l.guide ≡ g.G.Guide.frame l.initial.guide;
      stays : g.G.Guide.halted l.guide ≡ g.G.Guide.halted l.initial.guide;
      unit : l.level.unit ≡ l.initial.level.unit;
      left : l.search.left ≤ l.initial.search.left;
      fewer : length l.level.places ≤ length l.initial.level.places;
      among : (later : List ℕ) (done : List Place) (from : State) →
          IsAmong (line_of (line_rules l.rules) l.loads) (g.G.Guide.frame l.initial.guide).floor l.loads.places later done from (state_of l.initial.search (g.G.Guide.halted l.initial.guide) (g.G.Guide.known l.initial.guide)) l.initial.level →
          (more : List Place) × IsAmong (line_of (line_rules l.rules) l.loads) (g.G.Guide.frame l.initial.guide).floor l.loads.places later more from (state_of l.search (g.G.Guide.halted l.guide) (g.G.Guide.known l.guide)) l.level;
    }

use Rattle.std.proofs.Common.{◌≡◌, true}
use Rattle.ec_symmetry.specs.Ruled.{line_rules}
use Rattle.ec_branch.specs.Stacks.{IsOn, state_of, effort}
use Rattle.ec_branch.proofs.StackLemmas.{walk_task}
use Rattle.ec_branch.proofs.walk.walk.Given as goal

abbrev pub decreases-loop-next : goal.decreases-loop-next
decreases-loop-next g l = effort l.search.left l.levels.items l.turn

abbrev pub invariant-loop-next : goal.invariant-loop-next
invariant-loop-next g l =
    record {
      frame : g.G.Guide.frame l.guide ≡ g.G.Guide.frame l.fn.guide;
      stays : g.G.Guide.halted l.fn.guide ≡ true → g.G.Guide.halted l.guide ≡ true;
      on : IsOn (line_rules l.rules)
          (walk_task (line_rules l.rules) l.fn.loads l.order (g.G.Guide.frame l.fn.guide) (state_of l.fn.search (g.G.Guide.halted l.fn.guide) (g.G.Guide.known l.fn.guide)))
          l.levels l.loads l.rest (state_of l.search (g.G.Guide.halted l.guide) (g.G.Guide.known l.guide)) l.turn;
    }

use Rattle.std.proofs.Common.{get_or, refl}
use Rattle.std.proofs.lemmas.List.Elements.{All-push}
use Rattle.ec_units.specs.Load.{loads_of}
use Rattle.ec_loads.specs.Search.{nobody}
use Rattle.ec_branch.specs.Turns.{IsStrongRank}
use Rattle.ec_branch.proofs.StrongLemmas.{rank_more}
use Rattle.ec_branch.proofs.TurnLemmas.{numbers_more}
use Rattle.ec_branch.proofs.strong.strong_turns_of.Goals as goal

pub loop-i-preserved : goal.loop-i-preserved
loop-i-preserved c =
    let us = c.as_slice-all.result.now in
    let inv = c.loop-i.invariant in
    let i = c.loop-i.i in
    record {
      units = numbers_more c.loop-i.turns.items c.push.new.self.items i _ c.in_ok-push.ensures.items refl inv.units;
      ranks =
          rw c.in_ok-push.ensures.items
          (All-push (λ t. IsStrongRank (get_or (loads_of us) t.unit nobody) t.rank) c.loop-i.turns.items _ inv.ranks
          (rank_more us i c.rank_of.result c.index-all-i.result c.loop-i-test.true c.index-all-i.is c.rank_of.ensures));
    }

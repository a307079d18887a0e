use Rattle.ec_search_threads.proofs.TieLemmas.{tied_lower}
use Rattle.ec_search_threads.proofs.watch.WatchGuide.found.Goals as goal

pub invariant_of-self-in-Err : goal.invariant_of-self-in-Err
invariant_of-self-in-Err g c =
    let s = c.args.self.now in
    record { tied = tied_lower g.S.Search.loads g.S.Search.slots s.first (g.D.Desk.known s.desk.now) (g.D.Desk.known c.improve.new.self) s.value s.tied c.improve.ensures.falls }

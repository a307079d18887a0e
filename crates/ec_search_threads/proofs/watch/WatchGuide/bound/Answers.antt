use Rattle.ec_search_threads.proofs.TieLemmas.{tied_read}
use Rattle.ec_search_threads.proofs.watch.WatchGuide.bound.Goals as goal

pub invariant_of-self : goal.invariant_of-self
invariant_of-self g c =
    let s = c.args.self.now in
    record { tied = tied_read g.S.Search.loads g.S.Search.slots s.first (g.D.Desk.known s.desk.now) (g.D.Desk.known c.read.new.self) s.value c.read.result c.lesser-self.result s.tied c.read.ensures.known c.read.ensures.falls c.lesser-self.ensures.one }

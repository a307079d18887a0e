use Rattle.std.proofs.Common.{◌∙◌}
use Rattle.ec_search_threads.proofs.TieLemmas.{noted_value}
use Rattle.ec_search_threads.proofs.crew_desk.CrewDeskDesk.improve.Goals as goal

pub returns-in-Ok-clause-from : goal.returns-in-Ok-clause-from
returns-in-Ok-clause-from g c =
    let s = g.S.Search in
    noted_value s.loads s.slots s.order s.rules s.given s.given_value s.nodes s.part c.args.self.now.post.now.seat c.publish.new.self.seat c.args.best.busiest (c.publish.ensures.same ∙ c.in-Ok.ensures.made)

use Rattle.std.proofs.Common.{rules}
use Rattle.ec_player.specs.Plays.{IsAnswer}
use Rattle.ec_player_threads.specs.Plays.{IsLack}
use Rattle.ec_player_threads.proofs.AnswerLemmas.{costs}
use Rattle.ec_player_threads.proofs.playing.play_threads.Goals as goal

pub returns-clause-cost : goal.returns-clause-cost
returns-clause-cost g c =
    let answer : IsAnswer g.X.Pass.out g.X.Pass.next IsLack c.args.units.now c.args.mapping.now c.args.image.now c.args.ticks c.args.slaves.items c.scoped.result = search rules in
    costs g.X.Pass.out g.X.Pass.next c.args.units.now c.args.mapping.now c.args.image.now c.args.ticks c.args.slaves.items c.scoped.result c.requires.image answer

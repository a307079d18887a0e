use Rattle.std.proofs.Common.{◌+◌, ◌≤◌, length, subst, ◌∙◌}
use Rattle.std.proofs.lemmas.Result.{IfOk-weaker}
use Rattle.ec_frames.specs.EntryViews.{entry}
use Rattle.ec_frames.proofs.ViewSteps.{known_past, known_ended, rest_shorter}
use Rattle.ec_frames.proofs.reading.known_datagram.Goals as goal

pub returns-then-source-size-clause-read : goal.returns-then-source-size-clause-read
returns-then-source-size-clause-read c = known_past c.args.command c.args.source.now c.size_of-size.result c.size_of-size.ensures c.if-source-size.true

pub view_of-requires-clause-whole : goal.view_of-requires-clause-whole
view_of-requires-clause-whole c = subst (λ n. n + 12 ≤ length c.args.source.now) c.size_of-size.ensures c.if-source-size.false

pub returns-clause-read : goal.returns-clause-read
returns-clause-read c =
    c.ended.ensures.read ∙ known_ended c.args.command c.args.source.now (entry c.view_of.result) c.size_of-size.result c.word_of.result c.size_of-size.ensures c.word_of.ensures c.view_of.ensures c.if-source-size.false

pub returns-clause-shorter : goal.returns-clause-shorter
returns-clause-shorter c = IfOk-weaker c.ended.result _ _ (λ x is. rest_shorter c.args.source.now x.1.now c.size_of-size.result c.if-source-size.false is) c.ended.ensures.same

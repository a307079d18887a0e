use Rattle.std.proofs.Common.{Some, subst, sym}
use Rattle.ec_cert.specs.Shapes.{shape_of}
use Rattle.ec_checker.specs.declared.fault.Verdict.TheVariants as verdict
use Rattle.ec_workers.specs.Outcomes.{Shows}
use Rattle.ec_workers.proofs.AnswerLemmas.{unfinished}
use Rattle.ec_workers.proofs.unfinished.partial.Goals as goal

pub returns-clause-shows : goal.returns-clause-shows
returns-clause-shows c =
    let us = c.args.units.now in
    let a = c.args in
    subst (λ v. Shows us.units us.slots (record { version = v; slots = us.slots; units = a.lines; order = a.order; best = a.best; level = Some a.level; tree = shape_of a.tree }) (verdict.AtLeast a.level))
    (sym c.partial_version.ensures)
    (unfinished c.law_faults_refute.ensures us a.strong a.order a.best (shape_of a.tree) a.level a.lines c.requires.order c.requires.best c.requires.tree c.requires.level c.requires.lines)

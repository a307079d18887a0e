use Rattle.std.proofs.Common.{◌∙◌, ap}
use Rattle.ec_cert.specs.Shapes.{cert_view, shape_of}
use Rattle.ec_cert.specs.Versions.{rules_of}
use Rattle.ec_cert_merge.proofs.CertLemmas.{alike, first-none, second-none, merged-proven, version-rules}
use Rattle.ec_cert_merge.proofs.merging.merge.Goals as goal

pub merged-tree-requires : goal.merged-tree-requires
merged-tree-requires c = alike c.args.units.now.units c.args.units.now.slots (cert_view c.args.first) (cert_view c.args.second) c.requires.first c.requires.second c.requires.fit

pub level_of-level-requires-clause-first : goal.level_of-level-requires-clause-first
level_of-level-requires-clause-first c = first-none c.args.units.now.units c.args.units.now.slots (cert_view c.args.first) (cert_view c.args.second) (shape_of c.merged-tree.result) c.requires.first c.merged-tree.ensures

pub level_of-level-requires-clause-second : goal.level_of-level-requires-clause-second
level_of-level-requires-clause-second c = second-none c.args.units.now.units c.args.units.now.slots (cert_view c.args.first) (cert_view c.args.second) (shape_of c.merged-tree.result) c.requires.second c.merged-tree.ensures

pub returns-clause-proven : goal.returns-clause-proven
returns-clause-proven c =
    merged-proven c.law_levels_bound.ensures c.args.units.now.units c.args.units.now.slots (cert_view c.args.first) (cert_view c.args.second) c.requires.first c.requires.second c.requires.fit c.lesser-best.result c.lesser-best.ensures
    (shape_of c.merged-tree.result) c.level_of-level.result c.version_for.result c.merged-tree.ensures c.level_of-level.ensures c.version_for.ensures

pub returns-clause-rules : goal.returns-clause-rules
returns-clause-rules c = ap rules_of c.version_for.ensures ∙ version-rules (rules_of c.args.first.version) c.level_of-level.result

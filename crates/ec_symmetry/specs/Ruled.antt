-- The rules of the code as those of a line.
use Rattle.ec_loads.specs.Line.{Rules, slots_alone, turned_time, strong}
use Rattle.ec_symmetry.specs.declared.rules.Rules.{Rules as CodeRules}
use Rattle.ec_symmetry.specs.declared.rules.Rules.TheVariants as code

abbrev pub line_rules : CodeRules → Rules
line_rules code.Plain = slots_alone
line_rules code.Turned = turned_time
line_rules code.Strong = strong

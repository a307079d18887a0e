use Rattle.ec_unit_text.proofs.Whole.{read_units_of, read_valid, read_least, read_invalid}
use Rattle.ec_unit_text.proofs.read.read_units.Goals as goal

pub returns-clause-valid : goal.returns-clause-valid
returns-clause-valid c = read_valid c.args.text.now c.units_from.result c.units_from.ensures

pub returns-clause-units : goal.returns-clause-units
returns-clause-units c = read_units_of c.args.text.now c.units_from.result c.units_from.ensures

pub returns-clause-invalid : goal.returns-clause-invalid
returns-clause-invalid c = read_invalid c.args.text.now c.units_from.result c.units_from.ensures

pub returns-clause-least : goal.returns-clause-least
returns-clause-least c = read_least c.args.text.now c.units_from.result c.units_from.ensures

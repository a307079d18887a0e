use Rattle.ec_frames.proofs.ViewSteps.{entry_same}
use Rattle.ec_frames.proofs.reading.view_of.Goals as goal

pub returns : goal.returns
returns c = entry_same c.args.command c.args.source.now c.size_of-size.result c.word_of.result c.read_u32.result c.read_u16.result c.read_u16-2.result c.size_of-size.ensures c.word_of.ensures c.read_u32.ensures c.read_u16.ensures c.read_u16-2.ensures

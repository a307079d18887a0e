use Rattle.ec_frames.proofs.reading.datagrams.Goals as goal

pub returns : goal.returns
returns c = c.parsed.view_is

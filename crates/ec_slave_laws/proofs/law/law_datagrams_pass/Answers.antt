use Rattle.ec_slave_laws.proofs.LineLemmas.{through-is, passed-is, whole-is}
use Rattle.ec_slave_laws.proofs.ReadLemmas.{framed-reads, written-framed, back-whole}
use Rattle.ec_slave_laws.proofs.law.law_datagrams_pass.Goals as goal

pub returns-clause-read : goal.returns-clause-read
returns-clause-read c = framed-reads

pub returns-clause-frame : goal.returns-clause-frame
returns-clause-frame c = through-is

pub returns-clause-slaves : goal.returns-clause-slaves
returns-clause-slaves c = passed-is

pub returns-clause-whole : goal.returns-clause-whole
returns-clause-whole c = whole-is

pub returns-clause-written : goal.returns-clause-written
returns-clause-written c = λ ds bytes b wide sum. (written-framed ds bytes sum, back-whole ds bytes b wide sum)

use Rattle.std.proofs.Common.{rules, subst}
use Rattle.std.proofs.lemmas.List.{take_all}
use Rattle.std.specs.Io.KnownBytes.{Appends}
use Rattle.ec_wire.proofs.Bytes.{written_more}
use Rattle.ec_wire.proofs.io.Io.write_whole.Goals as goal

pub loop-at-preserved : goal.loop-at-preserved
loop-at-preserved g c = record {
  within = search rules;
  written = written_more _ _ _ _ _ _ c.loop-at.invariant.written c.in-Ok.ensures.bytes;
  failed = search rules;
  taken = search rules;
}

pub returns-clause-all : goal.returns-clause-all
returns-clause-all g c = subst (Appends _ _) (take_all _ _ (search rules)) c.loop-at.invariant.written

use Rattle.std.proofs.Common.{◌≡◌, take, drop}
use Rattle.ec_cert_text.specs.Reading.{cut}
use Rattle.ec_cert_text.proofs.LineLemmas.{with_front}
use Rattle.ec_cert_text.proofs.words.cut_at.Given as goal

abbrev pub invariant-loop-i : goal.invariant-loop-i
invariant-loop-i l = cut l.byte l.text ≡ with_front (take l.i l.text) (cut l.byte (drop l.i l.text))

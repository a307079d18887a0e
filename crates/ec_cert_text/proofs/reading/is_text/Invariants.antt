use Rattle.std.proofs.Common.{◌≡◌, take}
use Rattle.std.specs.List.{list_all}
use Rattle.ec_cert_text.specs.Reading.{is_text_byte}
use Rattle.ec_cert_text.proofs.reading.is_text.Given as goal

abbrev pub invariant-loop-byte : goal.invariant-loop-byte
invariant-loop-byte l = l.all ≡ list_all is_text_byte (take l.byte-index l.text)

-- Datagrams that go through a line of slaves, in one frame or one after the other.
use Rattle.std.proofs.Common.{◌≡◌, ℕ, List, [], ◌∷◌, refl, ap, ◌∙◌, subst}
use Rattle.ec_frames.specs.Reading.{Entry}
use Rattle.ec_slave.specs.Journey.{through, passed, journey, arrived, outs, final, line_outs, line_finals}
use Rattle.ec_slave.specs.Step.{frame_after, memory_after}
use Rattle.ec_slave.proofs.JourneyLemmas.{frames_alike, slaves_alike}
use Rattle.ec_slave_laws.specs.Datagrams.{framed, AreWhole, entry_out, entry_next}
use Rattle.ec_slave_laws.proofs.StepLemmas.{framed-step}
use Rattle.ec_slave_laws.proofs.WholeLemmas.{outs-whole}
use Rattle.ec_slave_laws.proofs.ReadLemmas.{framed-reads}

frame-on : (memory : List ℕ) (ds : List Entry) → AreWhole ds → frame_after memory (framed ds) ≡ framed (outs entry_out entry_next memory ds)
frame-on memory ds h = ap (λ s. s.1) (framed-step memory ds (framed-reads ds h))

memory-on : (memory : List ℕ) (ds : List Entry) → AreWhole ds → memory_after memory (framed ds) ≡ final entry_out entry_next memory ds
memory-on memory ds h = ap (λ s. s.0) (framed-step memory ds (framed-reads ds h))

through-line : (slaves : List (List ℕ)) (ds : List Entry) → AreWhole ds → through frame_after memory_after slaves (framed ds) ≡ framed (line_outs entry_out entry_next slaves ds)
through-line [] ds h = refl
through-line (s ∷ ss) ds h = ap (through frame_after memory_after ss) (frame-on s ds h) ∙ through-line ss (outs entry_out entry_next s ds) (outs-whole s ds h)

passed-line : (slaves : List (List ℕ)) (ds : List Entry) → AreWhole ds → passed frame_after memory_after slaves (framed ds) ≡ line_finals entry_out entry_next slaves ds
passed-line [] ds h = refl
passed-line (s ∷ ss) ds h =
    let rest = ap (passed frame_after memory_after ss) (frame-on s ds h) ∙ passed-line ss (outs entry_out entry_next s ds) (outs-whole s ds h) in
    λ i. memory-on s ds h i ∷ rest i

line-whole : (slaves : List (List ℕ)) (ds : List Entry) → AreWhole ds → AreWhole (line_outs entry_out entry_next slaves ds)
line-whole [] ds h = h
line-whole (s ∷ ss) ds h = line-whole ss (outs entry_out entry_next s ds) (outs-whole s ds h)

pub through-is : (slaves : List (List ℕ)) (ds : List Entry) → AreWhole ds → through frame_after memory_after slaves (framed ds) ≡ framed (journey entry_out entry_next slaves ds)
through-is slaves ds h = through-line slaves ds h ∙ ap framed (frames_alike entry_out entry_next slaves ds)

pub passed-is : (slaves : List (List ℕ)) (ds : List Entry) → AreWhole ds → passed frame_after memory_after slaves (framed ds) ≡ arrived entry_out entry_next slaves ds
passed-is slaves ds h = passed-line slaves ds h ∙ slaves_alike entry_out entry_next slaves ds

pub whole-is : (slaves : List (List ℕ)) (ds : List Entry) → AreWhole ds → AreWhole (journey entry_out entry_next slaves ds)
whole-is slaves ds h = subst AreWhole (frames_alike entry_out entry_next slaves ds) (line-whole slaves ds h)

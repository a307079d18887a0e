-- A frame that comes back through modelled slaves with the counters that are wanted is right.
use Rattle.std.proofs.Common.{◌≡◌, ℕ, suc, ◌+◌, cond, List, [], ◌∷◌, Some, None, map, refl, ap, sym, ◌∙◌, subst}
use Rattle.std.proofs.lemmas.Bool.{eq-eqb}
use Rattle.ec_frames.specs.Reading.{Entry}
use Rattle.ec_frames.specs.Parsing.{frame_read}
use Rattle.ec_frames.proofs.ReadingFrames.{read_is}
use Rattle.ec_slave.specs.Logical.{first_of}
use Rattle.ec_slave.specs.Journey.{through, passed, journey}
use Rattle.ec_slave.specs.Step.{frame_after, memory_after}
use Rattle.ec_player.specs.Sent.{Sent}
use Rattle.ec_player.specs.Faults.{read_entries, first_wrong, counter_fault, fault_of}
use Rattle.ec_player.specs.Lines.{AreRight}
use Rattle.ec_slave_laws.specs.Datagrams.{framed, AreWhole, entry_out, entry_next}
use Rattle.ec_slave_laws.proofs.ReadLemmas.{framed-reads}
use Rattle.ec_slave_laws.proofs.LineLemmas.{through-is, whole-is}
use Rattle.ec_play_laws.specs.IsReply.{IsReply}
use Rattle.ec_play_laws.proofs.MeaningLemmas.{counter-is}
use Rattle.ec_play_laws.proofs.KeptLemmas.{line-reply}

none-wrong : (k : ℕ) (ws : List ℕ) → first_wrong k ws ws ≡ None
none-wrong k [] = refl
none-wrong k (w ∷ ws) = ap (λ b. cond b (first_wrong (suc k) ws ws) (Some (record { datagram = k; want = w; got = w }))) (eq-eqb w w refl) ∙ none-wrong (suc k) ws

-- one frame
pub frame-right : (n : ℕ) (s : Sent) (slaves : List (List ℕ)) (ds : List Entry) → s.bytes ≡ framed ds → AreWhole ds → map (λ d. d.counter) (journey entry_out entry_next slaves ds) ≡ s.wants →
    fault_of n s (through frame_after memory_after slaves s.bytes) ≡ None
frame-right n s slaves ds is whole wants =
    let es = journey entry_out entry_next slaves ds in
    let back : through frame_after memory_after slaves s.bytes ≡ framed es = ap (through frame_after memory_after slaves) is ∙ through-is slaves ds whole in
    let sent : read_entries (frame_read s.bytes) ≡ ds = ap (λ f. read_entries (frame_read f)) is ∙ ap read_entries ((read_is (framed ds) ds).1 (framed-reads ds whole)) in
    let reply : IsReply (read_entries (frame_read s.bytes)) s.bytes (framed es) =
    subst (λ x. IsReply x s.bytes (framed es)) (sym sent) (subst (λ f. IsReply ds f (framed es)) (sym is) (line-reply slaves ds whole)) in
    ap (fault_of n s) back
    ∙ counter-is n s (framed es) es (framed-reads es (whole-is slaves ds whole)) reply
    ∙ ap (λ w. counter_fault n s.stage (first_wrong 0 s.wants w)) wants
    ∙ ap (counter_fault n s.stage) (none-wrong 0 s.wants)

-- one frame and then others
pub right-cons : (slaves : List (List ℕ)) (n : ℕ) (s : Sent) (ss : List Sent) → fault_of n s (through frame_after memory_after slaves s.bytes) ≡ None →
    AreRight frame_after memory_after (passed frame_after memory_after slaves s.bytes) (n + 1) ss → AreRight frame_after memory_after slaves n (s ∷ ss)
right-cons slaves n s ss h k = λ i. first_of (h i) (k i)

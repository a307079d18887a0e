-- What a play answers once all threads are joined.
-- While the threads run, nothing is known of what comes back but the list of it. So rows, image and faults are said for
-- all slaves under the premise that what came back is what these make of what was sent (`ArePlayed`); `all-came` proves
-- it once, after the joins. The lemmas of `ec_player` on ticks serve as they are.
use Rattle.std.proofs.Common.{◌≡◌, ◌⊎◌, ℕ, ◌+◌, ◌<◌, List, length, map, get_or, unwrap_or, inl, inr, sym, ap, ◌∙◌, arith}
use Rattle.std.proofs.lemmas.List.{length-map}
use Rattle.std.specs.List.{range_with_len}
use Rattle.ec_units.specs.declared.units.Units.{Units}
use Rattle.ec_frames.specs.Reading.{Entry}
use Rattle.ec_fmmu.specs.declared.mapping.Mapping.{Mapping}
use Rattle.ec_fmmu.specs.declared.fmmu.Fmmu.{Fmmu}
use Rattle.ec_frame_builder.specs.Start.{starts_of}
use Rattle.ec_slave.specs.Journey.{journey, arrived, line_outs, line_finals}
use Rattle.ec_slave.proofs.JourneyLemmas.{frames_alike, slaves_alike}
use Rattle.ec_outcome.specs.declared.play.PlayFault.{PlayFault}
use Rattle.ec_player.specs.declared.playing.Played.{Played}
use Rattle.ec_player.specs.declared.rows.TickRow.{TickRow}
use Rattle.ec_player.specs.Faults.{first_fault}
use Rattle.ec_player.specs.Images.{last_byte, all_entries, byte_after}
use Rattle.ec_player.specs.Lines.{bytes_of, came_back, slaves_after, IsMemory}
use Rattle.ec_player.specs.Plays.{IsPlayed}
use Rattle.ec_player.specs.Sent.{start_sent, start_sents, ticks_sents, all_sents}
use Rattle.ec_player.proofs.LineLemmas.{length-came, right-append}
use Rattle.ec_player.proofs.TickLemmas.{rows-after}
use Rattle.ec_player_threads.specs.Frames.{IsFront}
use Rattle.ec_player_threads.specs.Plays.{IsLack}
use Rattle.ec_player_threads.specs.Rounds.{ArePlayed, IsLinePlayed, IsFirstFault}
use Rattle.ec_player_threads.proofs.AnswerLemmas.{front_whole}

module _ {X : Type 0} (out : X → List ℕ → List ℕ) (next : X → List ℕ → X) (us : Units) (m : Mapping) (image : List ℕ) (n : ℕ) (slaves : List X) where
  -- the start frames and the ticks together
  pub line-played : (start : ℕ) (rows : List TickRow) (came came_items bytes : List ℕ) (fmmus : List (List Fmmu)) → start ≡ length (start_sents us m) → ArePlayed out next us m image slaves n rows came_items →
      came ≡ came_items → fmmus ≡ m.fmmus →
      ((ds : List Entry) → ((k : ℕ) → k < length image → get_or came k 0 ≡ unwrap_or (last_byte (65536 + k) ds) 0) → bytes ≡ map (byte_after fmmus image ds) (range_with_len 0 (length image))) →
      IsLinePlayed out next us m image n slaves start rows bytes
  line-played start rows came came_items bytes fmmus e h same records told =
      let starts = start_sents us m in
      let ticks = ticks_sents us m image n in
      let first = slaves_after out next slaves starts in
      let ds = all_entries (came_back out next first ticks) in
      let zero-more : length starts ≡ 0 + length starts = omega arith in
      record {
        right = right-append out next slaves 0 starts ticks h.begun (ap (λ w. first_fault w ticks (came_back out next first ticks)) (sym zero-more) ∙ h.right);
        starts = e ∙ length-map (starts_of us m) start_sent;
        told = h.told ∙ rows-after out next us m image slaves starts n;
        inputs = told ds (λ k l. ap (λ w. get_or w k 0) same ∙ h.came k l) ∙ ap (λ w. map (byte_after w image ds) (range_with_len 0 (length image))) records;
      }

  -- what came back, once nothing is under way
  pub all-came : (came went : List (List ℕ)) → IsFront came (line_outs out next slaves went) → went ≡ bytes_of (all_sents us m image n) → length came ≡ length (all_sents us m image n) →
      came ≡ came_back out next slaves (all_sents us m image n)
  all-came came went front e l =
      front_whole came (came_back out next slaves (all_sents us m image n)) (front.0, front.1 ∙ frames_alike out next slaves went ∙ ap (journey out next slaves) e)
      (l ∙ sym (length-came out next slaves (all_sents us m image n)))

  pub joined : (p : Played X) (start : ℕ) (rows : List TickRow) (bytes : List ℕ) (went : List (List ℕ)) → IsLinePlayed out next us m image n slaves start rows bytes →
      p.start ≡ start → p.ticks ≡ rows → p.image.items ≡ bytes → p.slaves.items ≡ line_finals out next slaves went → went ≡ bytes_of (all_sents us m image n) →
      IsPlayed out next us m image n slaves p
  joined p start rows bytes went h e0 e1 e2 e3 e4 = record {
    right = h.right;
    starts = e0 ∙ h.starts;
    rows = e1 ∙ h.told;
    inputs = e2 ∙ h.inputs;
    line = e3 ∙ slaves_alike out next slaves went ∙ ap (arrived out next slaves) e4;
  }

  pub failed : (f : PlayFault) (came went : List (List ℕ)) → IsMemory f ⊎ ((ss : List X) → IsFront came (journey out next ss went) → IsFirstFault out next us m image n ss f) →
      IsFront came (line_outs out next slaves went) → IsLack f ⊎ IsFirstFault out next us m image n slaves f
  failed f came went (inl h) front = inl (inl h)
  failed f came went (inr h) front = inr (h slaves (front.0, front.1 ∙ frames_alike out next slaves went))

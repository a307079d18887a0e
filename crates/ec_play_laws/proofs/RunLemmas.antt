-- Frames that all come back right, and the slaves that they leave.
-- `Runs` says of frames that they are right at any number, and what is left; `runs-first` and `runs-append` put runs
-- together.
use Rattle.std.proofs.Common.{◌≡◌, ℕ, ◌+◌, ◌^◌, ◌<◌, ◌≤◌, List, [], ◌∷◌, ◌++◌, length, take, map, sum_by, refl, ap, sym, ◌∙◌, subst, arith, take_all}
use Rattle.std.proofs.lemmas.List.Sums.{sum_by-cons}
use Rattle.std.proofs.lemmas.List.Elements.{All-cons, All-nil}
use Rattle.ec_frames.specs.Reading.{Entry}
use Rattle.ec_frames.specs.Written.{total_of, AreBuildable}
use Rattle.ec_frames.specs.declared.writing.Datagram.{Datagram}
use Rattle.ec_slave.specs.Journey.{passed, journey, arrived}
use Rattle.ec_slave.specs.Step.{frame_after, memory_after}
use Rattle.ec_frame_builder.specs.Start.{StartFrame}
use Rattle.ec_player.specs.Sent.{Sent, start_sent}
use Rattle.ec_player.specs.Lines.{slaves_after, AreRight}
use Rattle.ec_player.proofs.LineLemmas.{after-append, right-append}
use Rattle.ec_slave_laws.specs.Datagrams.{framed, AreWhole, entry_out, entry_next}
use Rattle.ec_slave_laws.proofs.ReadLemmas.{written-framed, back-whole}
use Rattle.ec_slave_laws.proofs.LineLemmas.{passed-is}
use Rattle.ec_play_laws.proofs.RightLemmas.{frame-right, right-cons}
use Rattle.ec_play_laws.proofs.AskLemmas.{ask, Goes}

pub record Runs (slaves : List (List ℕ)) (sents : List Sent) (after : List (List ℕ)) : Type 0 where
  pub right : (n : ℕ) → AreRight frame_after memory_after slaves n sents
  pub left : slaves_after frame_after memory_after slaves sents ≡ after

pub runs-none : (slaves : List (List ℕ)) → Runs slaves [] slaves
runs-none slaves = record { right = λ n. refl; left = refl }

pub runs-append : (slaves mid after : List (List ℕ)) (xs ys : List Sent) → Runs slaves xs mid → Runs mid ys after → Runs slaves (xs ++ ys) after
runs-append slaves mid after xs ys h k = record {
  right = λ n. right-append frame_after memory_after slaves n xs ys (h.right n)
      (subst (λ s. AreRight frame_after memory_after s (n + length xs) ys) (sym h.left) (k.right (n + length xs)));
  left = after-append frame_after memory_after slaves xs ys ∙ ap (λ s. slaves_after frame_after memory_after s ys) h.left ∙ k.left;
}

-- a frame of datagrams that come back with the counters that are wanted, and then others
pub runs-first : (slaves mid after : List (List ℕ)) (s : Sent) (ss : List Sent) (ds : List Entry) → s.bytes ≡ framed ds → AreWhole ds → map (λ d. d.counter) (journey entry_out entry_next slaves ds) ≡ s.wants →
    arrived entry_out entry_next slaves ds ≡ mid → Runs mid ss after → Runs slaves (s ∷ ss) after
runs-first slaves mid after s ss ds is whole wants left h =
    let now : passed frame_after memory_after slaves s.bytes ≡ mid = ap (passed frame_after memory_after slaves) is ∙ passed-is slaves ds whole ∙ left in
    record {
      right = λ n. right-cons slaves n s ss (frame-right n s slaves ds is whole wants) (subst (λ w. AreRight frame_after memory_after w (n + 1) ss) (sym now) (h.right (n + 1)));
      left = ap (λ w. slaves_after frame_after memory_after w ss) now ∙ h.left;
    }

-- a start frame that can be built
pub record IsAsked (f : StartFrame) : Type 0 where
  pub len : length f.bytes ≡ f.datagram.len
  pub short : f.datagram.len ≤ 1486
  pub wide : f.datagram.address < 2 ^ 32

pub runs-start : (slaves mid after : List (List ℕ)) (f : StartFrame) (ss : List Sent) → IsAsked f → Goes slaves (ask f.datagram.command f.datagram.address 0 f.bytes) f.want mid → Runs mid ss after →
    Runs slaves (start_sent f ∷ ss) after
runs-start slaves mid after f ss h goes more =
    let d = f.datagram in
    let e = ask d.command d.address 0 f.bytes in
    let none : List Datagram = [] in
    let len = h.len in
    let short = h.short in
    let sum : sum_by (λ x. x.len) (d ∷ none) ≡ length f.bytes = omega (arith, len, sum_by-cons (λ (x : Datagram). x.len) d none) in
    let total : total_of (d ∷ none) ≡ d.len + 12 = omega (arith, sum_by-cons (λ (x : Datagram). x.len + 12) d none) in
    let own : take d.len f.bytes ≡ f.bytes = take_all d.len f.bytes (omega (arith, len)) in
    let buildable : AreBuildable (d ∷ none) = record {
      some_datagram = λ q. cc (q);
      short = All-cons (λ (x : Datagram). x.len ≤ 1486) d none short (All-nil (λ (x : Datagram). x.len ≤ 1486));
      room = omega (arith, total, short);
    } in
    let wide = All-cons (λ (x : Datagram). x.address < 2 ^ 32) d none h.wide (All-nil (λ (x : Datagram). x.address < 2 ^ 32)) in
    runs-first slaves mid after (start_sent f) ss (e ∷ [])
    (written-framed (d ∷ none) f.bytes sum ∙ ap (λ bs. framed (ask d.command d.address 0 bs ∷ [])) own)
    (subst (λ bs. AreWhole (ask d.command d.address 0 bs ∷ [])) own (back-whole (d ∷ none) f.bytes buildable wide sum))
    (λ i. goes.counted i ∷ [])
    goes.left
    more

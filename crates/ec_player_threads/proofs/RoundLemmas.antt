-- One tick more through a line of threads.
-- A step whose frames are known to exist promises a record with them as a field (`IsRound`, `IsStopped`). "Both lists
-- grow alike" is a clause for every base: `(base : ..) → old ≡ base ++ .. → new ≡ base ++ ..`.
use Rattle.std.proofs.Common.{◌≡◌, ℕ, ◌+◌, ◌<◌, List, [], ◌∷◌, ◌++◌, Some, length, length-append, get_or, unwrap_or, refl, sym, ap, ◌∙◌, subst, arith, append_assoc, append-nil}
use Rattle.std.proofs.lemmas.List.{map-append}
use Rattle.ec_units.specs.declared.units.Units.{Units}
use Rattle.ec_fmmu.specs.declared.mapping.Mapping.{Mapping}
use Rattle.ec_slave.specs.Journey.{journey, arrived}
use Rattle.ec_outcome.specs.declared.play.PlayFault.{PlayFault}
use Rattle.ec_player.specs.declared.rows.TickRow.{TickRow}
use Rattle.ec_player.specs.Sent.{Sent, start_sents, tick_sents, ticks_sents, all_sents}
use Rattle.ec_player.specs.Faults.{first_fault}
use Rattle.ec_player.specs.Images.{last_byte, all_entries}
use Rattle.ec_player.specs.Lines.{bytes_of, came_back, slaves_after}
use Rattle.ec_player.specs.Rows.{row_of}
use Rattle.ec_player.proofs.LineLemmas.{journey-append, came-append, after-append, length-came, fault-first, fault-later}
use Rattle.ec_player.proofs.TickLemmas.{ticks-more, right-more, row-more, bytes-more, fault-more}
use Rattle.ec_player_threads.specs.Frames.{IsFront}
use Rattle.ec_player_threads.specs.Rounds.{IsRound, IsStopped, ArePlayed, IsFirstFault}
use Rattle.ec_player_threads.proofs.FrontLemmas.{parts_same, fault-front, fault-rest}

-- all was sent, and all came
pub many-all : (us : Units) (m : Mapping) (image : List ℕ) (n t k : ℕ) → t ≡ n → k ≡ length (start_sents us m) + length (ticks_sents us m image t) → k ≡ length (all_sents us m image n)
many-all us m image n t k e h = h ∙ sym (length-append (start_sents us m) (ticks_sents us m image t)) ∙ ap (λ w. length (all_sents us m image w)) e

-- the bytes of some frames and of others
pub bytes-append : (xs ys : List Sent) → bytes_of (xs ++ ys) ≡ bytes_of xs ++ bytes_of ys
bytes-append xs ys = map-append (λ s. s.bytes) xs ys

module _ {X : Type 0} (out : X → List ℕ → List ℕ) (next : X → List ℕ → X) where
  -- frames that came back behind others
  came-parts : (slaves : List X) (before due : List Sent) (old backs : List (List ℕ)) → length old ≡ length before → old ++ backs ≡ came_back out next slaves (before ++ due) →
      (old ≡ came_back out next slaves before) × (backs ≡ came_back out next (slaves_after out next slaves before) due)
  came-parts slaves before due old backs l e =
      parts_same old backs (came_back out next slaves before) (came_back out next (slaves_after out next slaves before) due)
      (l ∙ sym (length-came out next slaves before)) (e ∙ came-append out next slaves before due)

  -- a faulty one among them
  pub stopped : (slaves : List X) (before due : List Sent) (more old backs rest : List (List ℕ)) (n : ℕ) (f : PlayFault) → length old ≡ length before →
      (old ++ backs) ++ rest ≡ journey out next slaves (bytes_of (before ++ due) ++ more) → first_fault n due backs ≡ Some f →
      (old ≡ came_back out next slaves before) × (first_fault n due (came_back out next (slaves_after out next slaves before) due) ≡ Some f)
  stopped slaves before due more old backs rest n f l e h =
      let now = slaves_after out next slaves before in
      let own = came_back out next now due in
      let later = journey out next (arrived out next slaves (bytes_of (before ++ due))) more in
      let whole : old ++ (backs ++ rest) ≡ came_back out next slaves before ++ (own ++ later) =
      sym (append_assoc old backs rest) ∙ e ∙ journey-append out next slaves (bytes_of (before ++ due)) more
      ∙ ap (λ w. w ++ later) (came-append out next slaves before due) ∙ append_assoc (came_back out next slaves before) own later in
      let parts = parts_same old (backs ++ rest) (came_back out next slaves before) (own ++ later) (l ∙ sym (length-came out next slaves before)) whole in
      (parts.0, sym (fault-rest n due own later (length-came out next now due)) ∙ ap (first_fault n due) (sym parts.1) ∙ fault-front n due backs rest f h)

  pub played-more : (us : Units) (m : Mapping) (image : List ℕ) (slaves : List X) (n t : ℕ) (rows : List TickRow) (row : TickRow) (old new : List (List ℕ)) (before after : List ℕ) →
      n ≡ length (start_sents us m) + length (ticks_sents us m image t) → length old ≡ n → length before ≡ length image →
      (old ≡ came_back out next slaves (start_sents us m ++ ticks_sents us m image t) → ArePlayed out next us m image slaves t rows before) →
      IsRound n (tick_sents us m image t) old new before after row →
      new ≡ came_back out next slaves (start_sents us m ++ ticks_sents us m image (t + 1)) → ArePlayed out next us m image slaves (t + 1) (rows ++ row ∷ []) after
  played-more us m image slaves n t rows row old new before after e len same h r k =
      let starts = start_sents us m in
      let first = slaves_after out next slaves starts in
      let ticks = ticks_sents us m image t in
      let own = tick_sents us m image t in
      let now = slaves_after out next first ticks in
      let split : starts ++ ticks_sents us m image (t + 1) ≡ (starts ++ ticks) ++ own = ap (λ w. starts ++ w) (ticks-more us m image t) ∙ sym (append_assoc starts ticks own) in
      let many : length old ≡ length (starts ++ ticks) = omega (arith, e, len, length-append starts ticks) in
      let parts = came-parts slaves (starts ++ ticks) own old r.backs many (sym r.came ∙ k ∙ ap (came_back out next slaves) split) in
      let backs : r.backs ≡ came_back out next now own = parts.1 ∙ ap (λ w. came_back out next w own) (after-append out next slaves starts ticks) in
      let was = h parts.0 in
      record {
        begun = was.begun;
        right = right-more out next us m image first now (length starts) n t refl e was.right (ap (first_fault n own) (sym backs) ∙ r.right);
        told = row-more out next us m image first now rows row t refl was.told (r.told ∙ ap (row_of own) backs);
        came = λ k l.
            bytes-more out next us m image first now (65536 + k) (get_or before k 0) (get_or after k 0) t refl (was.came k l)
            (r.bytes k (subst (λ w. k < w) (sym same) l) ∙ ap (λ w. unwrap_or (last_byte (65536 + k) (all_entries w)) (get_or before k 0)) backs);
      }

  pub tick-stopped : (us : Units) (m : Mapping) (image : List ℕ) (slaves : List X) (n t last : ℕ) (rows : List TickRow) (sent old new more : List (List ℕ)) (before : List ℕ) (f : PlayFault) →
      n ≡ length (start_sents us m) + length (ticks_sents us m image t) → length old ≡ n → t < last →
      sent ≡ bytes_of ((start_sents us m ++ ticks_sents us m image t) ++ tick_sents us m image t) ++ more →
      (old ≡ came_back out next slaves (start_sents us m ++ ticks_sents us m image t) → ArePlayed out next us m image slaves t rows before) →
      IsStopped n (tick_sents us m image t) old new f →
      IsFront new (journey out next slaves sent) → IsFirstFault out next us m image last slaves f
  tick-stopped us m image slaves n t last rows sent old new more before f e len l went h r front =
      let starts = start_sents us m in
      let first = slaves_after out next slaves starts in
      let ticks = ticks_sents us m image t in
      let own = tick_sents us m image t in
      let now = slaves_after out next first ticks in
      let many : length old ≡ length (starts ++ ticks) = omega (arith, e, len, length-append starts ticks) in
      let at = stopped slaves (starts ++ ticks) own more old r.backs front.0 n f many (ap (λ w. w ++ front.0) (sym r.came) ∙ front.1 ∙ ap (journey out next slaves) went) r.fault in
      let was = h at.0 in
      let here = sym (ap (λ w. first_fault n own (came_back out next w own)) (after-append out next slaves starts ticks)) ∙ at.1 in
      let zero-more : length starts ≡ 0 + length starts = omega arith in
      fault-later out next slaves 0 starts (ticks_sents us m image last) f was.begun
      (ap (λ w. first_fault w (ticks_sents us m image last) (came_back out next first (ticks_sents us m image last))) (sym zero-more)
      ∙ fault-more out next us m image first now (length starts) n t last f refl e was.right l here)

  -- a faulty one among the start frames
  pub start-stopped : (us : Units) (m : Mapping) (image : List ℕ) (slaves : List X) (last : ℕ) (sent old new : List (List ℕ)) (f : PlayFault) →
      old ≡ [] → sent ≡ bytes_of (start_sents us m) → IsStopped 0 (start_sents us m) old new f →
      IsFront new (journey out next slaves sent) → IsFirstFault out next us m image last slaves f
  start-stopped us m image slaves last sent old new f none went r front =
      let starts = start_sents us m in
      let all : sent ≡ bytes_of starts ++ [] = went ∙ sym (append-nil (bytes_of starts)) in
      let at = stopped slaves [] starts [] [] r.backs front.0 0 f refl
      (ap (λ w. w ++ front.0) (ap (λ w. w ++ r.backs) (sym none) ∙ sym r.came) ∙ front.1 ∙ ap (journey out next slaves) all) r.fault in
      fault-first out next slaves 0 starts (ticks_sents us m image last) f at.1

-- Frames that are sent ahead: one tick more is sent, and the first of those that are kept is taken.
use Rattle.std.proofs.Common.{◌≡◌, ℕ, zero, suc, ◌+◌, ◌-◌, ◌<◌, ◌≤◌, List, [], ◌∷◌, ◌++◌, length, map, get_or, sym, ap, ◌∙◌, subst, arith, append_assoc, append-nil}
use Rattle.std.specs.Prelude.{All, Vec}
use Rattle.std.specs.List.{range_with_len}
use Rattle.std.specs.declared.alloc.Global.{Global}
use Rattle.std.proofs.lemmas.List.{map-append, length-map}
use Rattle.std.proofs.lemmas.List.Elements.{All-append}
use Rattle.std.proofs.lemmas.List.FromFn.{map-range_with_len_more, length-map-range_with_len}
use Rattle.ec_units.specs.declared.units.Units.{Units}
use Rattle.ec_fmmu.specs.declared.mapping.Mapping.{Mapping}
use Rattle.ec_player.specs.declared.trips.Trip.{Trip}
use Rattle.ec_player.specs.Sent.{Sent, start_sents, tick_sents, ticks_sents, all_sents}
use Rattle.ec_player.specs.Lines.{bytes_of}
use Rattle.ec_player.specs.Trips.{sent_in}
use Rattle.ec_player.proofs.TickLemmas.{ticks-more}
use Rattle.ec_player_threads.specs.declared.ahead.Ahead.{Ahead}
use Rattle.ec_player_threads.specs.IsAhead.{sents_in, IsAhead}
use Rattle.ec_player_threads.proofs.RoundLemmas.{bytes-append}

-- at most 8 frames for each tick
abbrev AreFew : List (Vec Trip Global) → Type 0
AreFew trips = All (λ v. length v.items ≤ 8) trips

few-none : AreFew []
few-none k v l = absurd (omega (arith, l))

few-one : (v : Vec Trip Global) → length v.items ≤ 8 → AreFew (v ∷ [])
few-one v few k w l = let e : 0 ≡ k = omega (arith, l) in subst (λ (j : ℕ). length (get_or (v ∷ []) j w).items ≤ 8) e few

few-first : (v : Vec Trip Global) (rest : List (Vec Trip Global)) → AreFew (v ∷ rest) → length v.items ≤ 8
few-first v rest h = h 0 v (omega arith)

few-rest : (v : Vec Trip Global) (rest : List (Vec Trip Global)) → AreFew (v ∷ rest) → AreFew rest
few-rest v rest h k w l = h (suc k) w (omega (arith, l))

module _ (us : Units) (m : Mapping) (image : List ℕ) where
  split-by : (t j : ℕ) → (more : List Sent) × (ticks_sents us m image (t + 1 + j) ≡ ticks_sents us m image t ++ (tick_sents us m image t ++ more))
  split-by t zero =
      let e : t + 1 + 0 ≡ t + 1 = omega arith in (
        [],
        ap (ticks_sents us m image) e ∙ ticks-more us m image t ∙ ap (λ w. ticks_sents us m image t ++ w) (sym (append-nil (tick_sents us m image t))),
      )
  split-by t (suc j) =
      let r = split-by t j in
      let e : t + 1 + suc j ≡ (t + 1 + j) + 1 = omega arith in
      let next = tick_sents us m image (t + 1 + j) in (
        r.0 ++ tick_sents us m image (t + 1 + j),
        ap (ticks_sents us m image) e ∙ ticks-more us m image (t + 1 + j) ∙ ap (λ w. w ++ tick_sents us m image (t + 1 + j)) r.1
            ∙ append_assoc (ticks_sents us m image t) (tick_sents us m image t ++ r.0) (tick_sents us m image (t + 1 + j))
            ∙ ap (λ w. ticks_sents us m image t ++ w) (append_assoc (tick_sents us m image t) r.0 (tick_sents us m image (t + 1 + j))),
      )

  -- what was sent begins with what was sent before a tick, and then the frames of that tick
  pub sent-parts : (n t : ℕ) (a : Ahead) (sent : List (List ℕ)) → IsAhead us m image n t a sent → t < a.tick →
      (more : List (List ℕ)) × (sent ≡ bytes_of ((start_sents us m ++ ticks_sents us m image t) ++ tick_sents us m image t) ++ more)
  sent-parts n t a sent h l =
      let r = split-by t (a.tick - t - 1) in
      let e : a.tick ≡ t + 1 + (a.tick - t - 1) = omega (arith, l) in
      let starts = start_sents us m in (
        bytes_of r.0,
        h.went ∙ ap (λ k. bytes_of (start_sents us m ++ ticks_sents us m image k)) e ∙ ap (λ w. bytes_of (start_sents us m ++ w)) r.1
            ∙ ap bytes_of (ap (λ w. start_sents us m ++ w) (sym (append_assoc (ticks_sents us m image t) (tick_sents us m image t) r.0))
            ∙ sym (append_assoc (start_sents us m) (ticks_sents us m image t ++ tick_sents us m image t) r.0)
            ∙ ap (λ w. w ++ r.0) (sym (append_assoc (start_sents us m) (ticks_sents us m image t) (tick_sents us m image t))))
            ∙ bytes-append ((start_sents us m ++ ticks_sents us m image t) ++ tick_sents us m image t) r.0,
      )

  -- only the start frames were sent
  pub ahead-none : (n start : ℕ) (a : Ahead) (sent : List (List ℕ)) → a.trips.items ≡ [] → a.tick ≡ 0 → a.frames ≡ start → start ≤ 769 → sent ≡ bytes_of (start_sents us m) → IsAhead us m image n 0 a sent
  ahead-none n start a sent none tick frames few went = record {
    begun = omega arith;
    within = omega (arith, tick);
    most = omega (arith, frames, few);
    kept = ap sents_in none ∙ sym (ap (λ k. map (tick_sents us m image) (range_with_len 0 k)) (let e : a.tick - 0 ≡ 0 = omega (arith, tick) in e));
    few = subst (λ (w : List (Vec Trip Global)). All (λ v. length v.items ≤ 8) w) (sym none) few-none;
    went = went ∙ ap bytes_of (sym (append-nil (start_sents us m))) ∙ sym (ap (λ k. bytes_of (start_sents us m ++ ticks_sents us m image k)) tick);
  }

  -- one tick more is sent
  pub ahead-more : (n t : ℕ) (a b : Ahead) (old new : List (List ℕ)) (trips : Vec Trip Global) → a.tick < n → b.tick ≡ a.tick + 1 → b.frames ≤ a.frames + 8 → b.trips.items ≡ a.trips.items ++ trips ∷ [] →
      map sent_in trips.items ≡ tick_sents us m image a.tick → length trips.items ≤ 8 → new ≡ old ++ bytes_of (tick_sents us m image a.tick) →
      IsAhead us m image n t a old → IsAhead us m image n t b new
  ahead-more n t a b old new trips below tick frames more sents few went h =
      let begun = h.begun in
      let most = h.most in
      let at : t + (a.tick - t) ≡ a.tick = omega (arith, begun) in
      let len : b.tick - t ≡ a.tick - t + 1 = omega (arith, begun, tick) in
      record {
        begun = omega (arith, begun, tick);
        within = omega (arith, below, tick);
        most = omega (arith, most, tick, frames);
        kept = ap sents_in more ∙ map-append (λ (v : Vec Trip Global). map sent_in v.items) a.trips.items (trips ∷ []) ∙ (λ i. h.kept i ++ sents i ∷ [])
            ∙ sym (map-range_with_len_more (tick_sents us m image) t (a.tick - t) a.tick at) ∙ sym (ap (λ k. map (tick_sents us m image) (range_with_len t k)) len);
        few = subst (λ (w : List (Vec Trip Global)). All (λ v. length v.items ≤ 8) w) (sym more) (All-append (λ (v : Vec Trip Global). length v.items ≤ 8) a.trips.items (trips ∷ []) h.few (few-one trips few));
        went = went ∙ ap (λ w. w ++ bytes_of (tick_sents us m image a.tick)) h.went ∙ sym (bytes-append (start_sents us m ++ ticks_sents us m image a.tick) (tick_sents us m image a.tick))
            ∙ ap bytes_of (append_assoc (start_sents us m) (ticks_sents us m image a.tick) (tick_sents us m image a.tick) ∙ ap (λ w. start_sents us m ++ w) (sym (ticks-more us m image a.tick)))
            ∙ sym (ap (λ k. bytes_of (start_sents us m ++ ticks_sents us m image k)) tick);
      }

  -- as many ticks are kept as were sent ahead
  pub ahead-count : (n t : ℕ) (a : Ahead) (sent : List (List ℕ)) → IsAhead us m image n t a sent → length a.trips.items ≡ a.tick - t
  ahead-count n t a sent h =
      sym (length-map a.trips.items (λ v. map sent_in v.items)) ∙ ap length h.kept ∙ length-map-range_with_len (tick_sents us m image) t (a.tick - t)

  first-kept : (t k : ℕ) (v : Vec Trip Global) (rest : List (Vec Trip Global)) → sents_in (v ∷ rest) ≡ map (tick_sents us m image) (range_with_len t (suc k)) →
      (map sent_in v.items ≡ tick_sents us m image t) × (sents_in rest ≡ map (tick_sents us m image) (range_with_len (t + 1) k))
  first-kept t k v rest e = (cc (e), cc (e))

  -- the frames of a tick are the first of those that are kept, and the others are left
  pub ahead-taken : (n t : ℕ) (a b : Ahead) (sent : List (List ℕ)) (v : Vec Trip Global) → t < a.tick → a.trips.items ≡ v ∷ b.trips.items → b.tick ≡ a.tick → b.frames ≡ a.frames →
      IsAhead us m image n t a sent → (map sent_in v.items ≡ tick_sents us m image t) × ((length v.items ≤ 8) × IsAhead us m image n (t + 1) b sent)
  ahead-taken n t a b sent v l items tick frames h =
      let within = h.within in
      let most = h.most in
      let len : a.tick - t ≡ suc (b.tick - (t + 1)) = omega (arith, l, tick) in
      let parts = first-kept t (b.tick - (t + 1)) v b.trips.items (sym (ap sents_in items) ∙ h.kept ∙ ap (λ k. map (tick_sents us m image) (range_with_len t k)) len) in
      let few = subst (λ (w : List (Vec Trip Global)). All (λ v. length v.items ≤ 8) w) items h.few in (
        parts.0,
        (
          few-first v b.trips.items few,
          record {
            begun = omega (arith, l, tick);
            within = omega (arith, within, tick);
            most = omega (arith, most, tick, frames);
            kept = parts.1;
            few = few-rest v b.trips.items few;
            went = h.went ∙ sym (ap (λ k. bytes_of (start_sents us m ++ ticks_sents us m image k)) tick);
          },
        ),
      )

  -- after the last tick all was sent
  pub went-all : (n t : ℕ) (a : Ahead) (sent : List (List ℕ)) → t ≡ n → IsAhead us m image n t a sent → sent ≡ bytes_of (all_sents us m image n)
  went-all n t a sent e h =
      let begun = h.begun in
      let within = h.within in
      let all : a.tick ≡ n = omega (arith, e, begun, within) in
      h.went ∙ ap (λ k. bytes_of (start_sents us m ++ ticks_sents us m image k)) all

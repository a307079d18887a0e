use Rattle.std.proofs.Common.{rules, ◌≡◌, ℕ, ◌+◌, List, [], ◌++◌, get_or, length, length-append, map, refl, sym, ap, ◌∙◌, subst, arith, append-nil}
use Rattle.std.proofs.lemmas.List.{length-drop, length-map, length-replicate, get_or-replicate}
use Rattle.rtrb.specs.Ring.{sent, received}
use Rattle.ec_slave.proofs.StepLemmas.{rewritten}
use Rattle.ec_player.specs.declared.rows.TickRow.{TickRow}
use Rattle.ec_player.specs.Sent.{Sent, start_sents, tick_sents, all_sents}
use Rattle.ec_player.specs.Lines.{came_back}
use Rattle.ec_player.specs.Trips.{sent_in}
use Rattle.ec_player.proofs.TickLemmas.{number-more, either}
use Rattle.ec_player.specs.Boxes.{Boxed, bytes_in}
use Rattle.ec_player_threads.specs.declared.ahead.Ahead.{Ahead}
use Rattle.ec_player_threads.specs.Rounds.{IsRound, IsStopped, ArePlayed}
use Rattle.ec_player_threads.proofs.LinkLemmas.{same_ring-trans}
use Rattle.ec_player_threads.proofs.RoundLemmas.{many-all, played-more, tick-stopped}
use Rattle.ec_player_threads.proofs.WindowLemmas.{sent-parts, ahead-none, ahead-count, ahead-taken, went-all}
use Rattle.ec_player_threads.proofs.ticks.play_ticks.Goals as goal

pub loop-tick-init : goal.loop-tick-init
loop-tick-init g c =
    let us = c.args.units.now in
    let m = c.args.mapping.now in
    let image = c.args.image.now in
    let starts = start_sents us m in
    let all : starts ++ [] ≡ starts = append-nil starts in
    let new = c.new-ahead.ensures in
    record {
      first = ((refl, refl, refl, refl), refl);
      last = ((refl, refl, refl, refl), refl);
      ahead = ahead-none us m image c.args.ticks c.args.start c.new-ahead.result (bytes_in (sent c.args.first.now)) new.0 new.1.0 new.1.1 c.requires.start.0 c.requires.went;
      number = omega (arith, c.requires.start.1);
      most = omega (arith, c.requires.start.0);
      many = c.requires.came;
      len = ap length c.in-Ok.ensures ∙ length-replicate {A = ℕ} (length image) 0;
      played = λ slaves h. record {
        begun = c.requires.begun slaves (h ∙ ap (came_back g.X.Pass.out g.X.Pass.next slaves) all);
        right = refl;
        told = search rules;
        came = λ k l. ap (λ w. get_or w k 0) c.in-Ok.ensures ∙ get_or-replicate (length image) k 0 0 l;
      };
    }

pub send-requires-clause-few : goal.send-requires-clause-few
send-requires-clause-few g c = (c.requires.few, c.loop-tick.invariant.ahead.most)

pub unreachable-requires : goal.unreachable-requires
unreachable-requires g c =
    let ahead = c.in-Ok-send.ensures.ahead c.loop-tick.tick c.loop-tick-test.true c.loop-tick.invariant.ahead in
    let kept = c.send.new.self.trips.items in
    let count = ahead-count c.args.units.now c.args.mapping.now c.args.image.now c.args.ticks c.loop-tick.tick c.send.new.self (bytes_in (sent c.send.new.first)) ahead.0 in
    let none = c.in_default-pop_front.ensures in
    absurd (omega (arith, ahead.1, count, ap length none.items, ap length none.rest, length-drop 1 kept))

pub returns-in-Err-clause-fault : goal.returns-in-Err-clause-fault
returns-in-Err-clause-fault g c =
    let us = c.args.units.now in
    let m = c.args.mapping.now in
    let image = c.args.image.now in
    let inv = c.loop-tick.invariant in
    let items : Boxed → List ℕ = λ f. f.value.items in
    let n = c.loop-tick.number in
    let t = c.loop-tick.tick in
    let old = bytes_in (received c.loop-tick.last) in
    let new = bytes_in (received c.play_tick.new.last) in
    let went = bytes_in (sent c.send.new.first) in
    let len : length old ≡ n = length-map (received c.loop-tick.last) items ∙ inv.many in
    let ahead = c.in-Ok-send.ensures.ahead t c.loop-tick-test.true inv.ahead in
    let left : Ahead = record { trips = c.pop_front.new.self; tick = c.send.new.self.tick; frames = c.send.new.self.frames } in
    let taken = ahead-taken us m image c.args.ticks t c.send.new.self left went c.in-Some.due ahead.1 c.in-Some.ensures.items refl refl ahead.0 in
    let due = ap (map sent_in) c.as_slice.ensures.value ∙ taken.0 in
    let parts = sent-parts us m image c.args.ticks t c.send.new.self went ahead.0 ahead.1 in
    either c.in-Err.ensures.fault
    (λ r. λ slaves front.
    tick-stopped g.X.Pass.out g.X.Pass.next us m image slaves n t c.args.ticks c.loop-tick.rows.items went old new parts.0
    c.loop-tick.came.items c.in-Err.fault inv.number len c.loop-tick-test.true parts.1 (inv.played slaves)
    (subst (λ (w : List Sent). IsStopped n w old new c.in-Err.fault) due r) front)

pub loop-tick-preserved : goal.loop-tick-preserved
loop-tick-preserved g c =
    let out = g.X.Pass.out in
    let next = g.X.Pass.next in
    let us = c.args.units.now in
    let m = c.args.mapping.now in
    let image = c.args.image.now in
    let t = c.loop-tick.tick in
    let n = c.loop-tick.number in
    let inv = c.loop-tick.invariant in
    let e = c.in-Ok-play_tick.ensures in
    let items : Boxed → List ℕ = λ f. f.value.items in
    let starts = start_sents us m in
    let own = tick_sents us m image t in
    let old = bytes_in (received c.loop-tick.last) in
    let new = bytes_in (received c.play_tick.new.last) in
    let went = bytes_in (sent c.send.new.first) in
    let before = c.loop-tick.came.items in
    let after = c.play_tick.new.came in
    let row = c.in-Ok-play_tick.row in
    let given = c.as_mut_slice.ensures.value in
    let rings = c.send.ensures.ring in
    let back_ring = c.play_tick.ensures.ring in
    let ahead = c.in-Ok-send.ensures.ahead t c.loop-tick-test.true inv.ahead in
    let left : Ahead = record { trips = c.pop_front.new.self; tick = c.send.new.self.tick; frames = c.send.new.self.frames } in
    let taken = ahead-taken us m image c.args.ticks t c.send.new.self left went c.in-Some.due ahead.1 c.in-Some.ensures.items refl refl ahead.0 in
    let round = subst (λ (b : List ℕ). IsRound n own old new b after row) given
    (subst (λ (w : List Sent). IsRound n w old new c.as_mut_slice.result.now after row) (ap (map sent_in) c.as_slice.ensures.value ∙ taken.0) e.round) in
    let back = rewritten c.loop-tick.came.len after before (omega (arith, c.play_tick.ensures.len, ap length given)) (omega (arith, c.loop-tick.came.ok.0)) in
    let count : row.frames ≡ length own = ap (λ (r : TickRow). r.frames) round.told in
    let own_count : length c.in-Some.due.items ≡ length own = sym (length-map c.in-Some.due.items sent_in) ∙ ap length taken.0 in
    let few = taken.1.0 in
    let len : length old ≡ n = length-map (received c.loop-tick.last) items ∙ inv.many in
    record {
      first = (same_ring-trans c.args.first.now.end c.loop-tick.first.end c.send.new.first.end inv.first.0 rings.0, rings.1 ∙ inv.first.1);
      last = (same_ring-trans c.args.last.now.end c.loop-tick.last.end c.play_tick.new.last.end inv.last.0 back_ring.0, back_ring.1 ∙ inv.last.1);
      ahead = taken.1.1;
      number = ap (λ k. n + k) count ∙ number-more us m image (length starts) n t inv.number;
      most = omega (arith, inv.most, few, own_count, count);
      many = omega (arith, length-map (received c.play_tick.new.last) items, len, ap length round.came, length-append old round.backs, round.many, count);
      len = ap length back ∙ c.play_tick.ensures.len ∙ ap length given ∙ inv.len;
      played = λ slaves k.
          subst (λ (b : List ℕ). ArePlayed out next us m image slaves (t + 1) c.push.new.self.items b) (sym back)
          (subst (λ (w : List TickRow). ArePlayed out next us m image slaves (t + 1) w after) (sym c.in-Ok-push.ensures.items)
          (played-more out next us m image slaves n t c.loop-tick.rows.items row old new before after inv.number len inv.len (inv.played slaves) round k));
    }

pub returns-in_default-send-clause-rings : goal.returns-in_default-send-clause-rings
returns-in_default-send-clause-rings g c =
    let inv = c.loop-tick.invariant in
    let rings = c.send.ensures.ring in
    ((same_ring-trans c.args.first.now.end c.loop-tick.first.end c.send.new.first.end inv.first.0 rings.0, rings.1 ∙ inv.first.1), inv.last)

pub returns-in-Err-clause-rings : goal.returns-in-Err-clause-rings
returns-in-Err-clause-rings g c =
    let inv = c.loop-tick.invariant in
    let rings = c.send.ensures.ring in
    let back_ring = c.play_tick.ensures.ring in (
      (same_ring-trans c.args.first.now.end c.loop-tick.first.end c.send.new.first.end inv.first.0 rings.0, rings.1 ∙ inv.first.1),
      (same_ring-trans c.args.last.now.end c.loop-tick.last.end c.play_tick.new.last.end inv.last.0 back_ring.0, back_ring.1 ∙ inv.last.1),
    )

pub returns-in_default-push-clause-rings : goal.returns-in_default-push-clause-rings
returns-in_default-push-clause-rings g c =
    let inv = c.loop-tick.invariant in
    let rings = c.send.ensures.ring in
    let back_ring = c.play_tick.ensures.ring in (
      (same_ring-trans c.args.first.now.end c.loop-tick.first.end c.send.new.first.end inv.first.0 rings.0, rings.1 ∙ inv.first.1),
      (same_ring-trans c.args.last.now.end c.loop-tick.last.end c.play_tick.new.last.end inv.last.0 back_ring.0, back_ring.1 ∙ inv.last.1),
    )

pub play_tick-requires-clause-few : goal.play_tick-requires-clause-few
play_tick-requires-clause-few g c =
    let ahead = c.in-Ok-send.ensures.ahead c.loop-tick.tick c.loop-tick-test.true c.loop-tick.invariant.ahead in
    let left : Ahead = record { trips = c.pop_front.new.self; tick = c.send.new.self.tick; frames = c.send.new.self.frames } in
    let taken = ahead-taken c.args.units.now c.args.mapping.now c.args.image.now c.args.ticks c.loop-tick.tick c.send.new.self left (bytes_in (sent c.send.new.first)) c.in-Some.due ahead.1 c.in-Some.ensures.items refl refl ahead.0 in
    omega (arith, taken.1.0, ap length c.as_slice.ensures.value)

pub play_tick-requires-clause-number : goal.play_tick-requires-clause-number
play_tick-requires-clause-number g c =
    let inv = c.loop-tick.invariant in
    let ahead = c.in-Ok-send.ensures.ahead c.loop-tick.tick c.loop-tick-test.true inv.ahead in
    let left : Ahead = record { trips = c.pop_front.new.self; tick = c.send.new.self.tick; frames = c.send.new.self.frames } in
    let taken = ahead-taken c.args.units.now c.args.mapping.now c.args.image.now c.args.ticks c.loop-tick.tick c.send.new.self left (bytes_in (sent c.send.new.first)) c.in-Some.due ahead.1 c.in-Some.ensures.items refl refl ahead.0 in
    omega (arith, taken.1.0, inv.most, ap length c.as_slice.ensures.value, c.requires.few, c.loop-tick-test.true)

pub overflow_add-number : goal.overflow_add-number
overflow_add-number g c =
    let inv = c.loop-tick.invariant in
    let count = ap (λ (r : TickRow). r.frames) c.in-Ok-play_tick.ensures.round.told in
    let ahead = c.in-Ok-send.ensures.ahead c.loop-tick.tick c.loop-tick-test.true inv.ahead in
    let left : Ahead = record { trips = c.pop_front.new.self; tick = c.send.new.self.tick; frames = c.send.new.self.frames } in
    let taken = ahead-taken c.args.units.now c.args.mapping.now c.args.image.now c.args.ticks c.loop-tick.tick c.send.new.self left (bytes_in (sent c.send.new.first)) c.in-Some.due ahead.1 c.in-Some.ensures.items refl refl ahead.0 in
    omega (arith, taken.1.0, inv.most, ap length c.as_slice.ensures.value, length-map c.as_slice.result.now sent_in, count, c.requires.few, c.loop-tick-test.true)

pub returns-clause-rings : goal.returns-clause-rings
returns-clause-rings g c = (c.loop-tick.invariant.first, c.loop-tick.invariant.last)

pub returns-clause-went : goal.returns-clause-went
returns-clause-went g c =
    let done : c.loop-tick.tick ≡ c.args.ticks = omega (arith, c.loop-tick-test.false, c.loop-tick.auto.tick-end) in
    went-all c.args.units.now c.args.mapping.now c.args.image.now c.args.ticks c.loop-tick.tick c.loop-tick.ahead (bytes_in (sent c.loop-tick.first)) done c.loop-tick.invariant.ahead

pub returns-clause-many : goal.returns-clause-many
returns-clause-many g c =
    let done : c.loop-tick.tick ≡ c.args.ticks = omega (arith, c.loop-tick-test.false, c.loop-tick.auto.tick-end) in
    let inv = c.loop-tick.invariant in
    inv.many ∙ many-all c.args.units.now c.args.mapping.now c.args.image.now c.args.ticks c.loop-tick.tick c.loop-tick.number done inv.number

pub returns-clause-played : goal.returns-clause-played
returns-clause-played g c = λ slaves k.
    let out = g.X.Pass.out in
    let next = g.X.Pass.next in
    let us = c.args.units.now in
    let m = c.args.mapping.now in
    let image = c.args.image.now in
    let done : c.loop-tick.tick ≡ c.args.ticks = omega (arith, c.loop-tick-test.false, c.loop-tick.auto.tick-end) in
    subst (λ (w : ℕ). ArePlayed out next us m image slaves w c.loop-tick.rows.items c.loop-tick.came.items) done
    (c.loop-tick.invariant.played slaves (k ∙ ap (λ w. came_back out next slaves (all_sents us m image w)) (sym done)))

use Rattle.std.proofs.Common.{◌≡◌, ℕ, ◌+◌, ◌≤◌, ◌||◌, true, false, length, inl, inr, sym, ap, ◌∙◌, arith}
use Rattle.std.proofs.lemmas.Bool.{cases_lt, or_parts}
use Rattle.std.proofs.lemmas.Bool.Decides.{same_from_decides}
use Rattle.std.proofs.lemmas.List.Sums.{sum_by-cons}
use Rattle.ec_frames.specs.EntryViews.{entry}
use Rattle.ec_frames.specs.Reading.{Entry}
use Rattle.ec_slave.specs.Step.{extent}
use Rattle.ec_player.specs.Faults.{is_open, may_change, is_reply_of}
use Rattle.ec_player.proofs.ReplyLemmas.{closed-before, open-late, not-reply, reply-from, reply-kept}
use Rattle.ec_player.proofs.judging.is_reply_to.Goals as goal

pub returns-then-not-are_same : goal.returns-then-not-are_same
returns-then-not-are_same c =
    let ds = c.args.parsed.now in
    sym (not-reply ds c.args.sent.now c.args.back.now c.are_same.result c.if-not-are_same.true (λ kept. c.are_same.ensures.1 (λ k low high. kept k (closed-before 16 ds k high))))

pub returns-then-not-is_kept : goal.returns-then-not-is_kept
returns-then-not-is_kept c =
    let ds = c.args.parsed.now in
    let at = c.datagrams.at in
    let d = entry c.in-Some.view in
    let rest = c.next.new.self in
    let change : (k : ℕ) → at ≤ k → may_change 16 ds k ≡ (is_open at d k || may_change (at + (length d.bytes + 12)) rest k) = λ k l.
    c.datagrams.invariant.rest k l ∙ ap (λ w. may_change at w k) c.in-Some.ensures.steps in
    sym (not-reply ds c.args.sent.now c.args.back.now c.is_kept.result c.if-not-is_kept.true
    (λ kept. c.is_kept.ensures.1 (λ k low high shut. kept k (change k low ∙ (λ i. shut i || closed-before (at + (length d.bytes + 12)) rest k high i)))))

pub datagrams-preserved : goal.datagrams-preserved
datagrams-preserved c =
    let ds = c.args.parsed.now in
    let at = c.datagrams.at in
    let d = entry c.in-Some.view in
    let rest = c.next.new.self in
    let change : (k : ℕ) → at ≤ k → may_change 16 ds k ≡ (is_open at d k || may_change (at + (length d.bytes + 12)) rest k) = λ k l.
    c.datagrams.invariant.rest k l ∙ ap (λ w. may_change at w k) c.in-Some.ensures.steps in
    let size = ap extent c.in-Some.ensures.steps ∙ sum_by-cons (λ (x : Entry). length x.bytes + 12) d rest in
    record {
      room = omega (arith, c.datagrams.invariant.room, size);
      before = λ k l shut.
          elim (cases_lt k at) [
            | inl early ↦ c.datagrams.invariant.before k early shut
            | inr late ↦ c.is_kept.ensures.0 c.if-not-is_kept.false k late l (or_parts (is_open at d k) (may_change (at + (length d.bytes + 12)) rest k) (sym (change k late) ∙ shut)).0
          ];
      rest = λ k l. change k (omega (arith, l)) ∙ (λ i. open-late at d k l i || may_change (at + (length d.bytes + 12)) rest k);
    }

pub returns : goal.returns
returns c =
    let ds = c.args.parsed.now in
    let sent = c.args.sent.now in
    let back = c.args.back.now in
    let at = c.datagrams.at in
    let none : (k : ℕ) → at ≤ k → may_change 16 ds k ≡ false = λ k l. c.datagrams.invariant.rest k l ∙ ap (λ w. may_change at w k) c.in_default.ensures.steps.0 in
    same_from_decides {P = is_reply_of ds sent back ≡ true} c.are_same-2.result (is_reply_of ds sent back) (
      λ t. reply-from ds sent back c.if-back-sent.false
          (λ k l shut.
          elim (cases_lt k at) [
            | inl early ↦ c.datagrams.invariant.before k early shut
            | inr late ↦ c.are_same-2.ensures.0 t k late l
          ]),
      λ h. c.are_same-2.ensures.1 (λ k low high. reply-kept ds sent back h k (none k low)),
    ) (λ h. h, λ h. h)

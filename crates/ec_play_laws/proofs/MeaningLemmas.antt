-- What the functions of a fault mean.
use Rattle.std.proofs.Common.{◌≡◌, ℕ, zero, suc, ◌+◌, ◌<◌, ◌≤◌, ◌==◌, ◌||◌, Bool, true, cond, List, Some, length, map, get_or, refl, sym, ap, ◌∙◌, inl, inr, arith}
use Rattle.std.specs.List.{list_all, range_with_len}
use Rattle.std.proofs.lemmas.Bool.{true≢false, cases_eq, cases_Bool, and_parts, and_from, or_cases, or_left, or_right, eq-eqb, eqb-true, false_from_ne_true}
use Rattle.ec_frames.specs.declared.reading.FrameFault.{FrameFault}
use Rattle.ec_frames.specs.Reading.{Entry, ReadsAs, HasFault}
use Rattle.ec_frames.proofs.ReadingFrames.{read_is, fault_is}
use Rattle.ec_outcome.specs.declared.play.PlayFault.TheVariants as fault
use Rattle.ec_player.specs.Sent.{Sent}
use Rattle.ec_player.specs.Faults.{entries_of, may_change, is_reply_of, first_wrong, counter_fault, fault_by, fault_of}
use Rattle.ec_play_laws.specs.IsReply.{IsReply}

all-within : (p : ℕ → Bool) (a n k : ℕ) → list_all p (range_with_len a n) ≡ true → a ≤ k → k < a + n → p k ≡ true
all-within p a zero k h l m = absurd (omega (arith, l, m))
all-within p a (suc n) k h l m =
    let both = and_parts (p a) (list_all p (range_with_len (a + 1) n)) h in
    elim (cases_eq k a) [
      | inl e ↦ ap p e ∙ both.0
      | inr e ↦ all-within p (a + 1) n k both.1 (omega (arith, l, e)) (omega (arith, m))
    ]

all-from : (p : ℕ → Bool) (a n : ℕ) → ((k : ℕ) → a ≤ k → k < a + n → p k ≡ true) → list_all p (range_with_len a n) ≡ true
all-from p a zero h = refl
all-from p a (suc n) h =
    and_from (p a) (list_all p (range_with_len (a + 1) n)) (h a (omega arith) (omega arith))
    (all-from p (a + 1) n (λ k l m. h k (omega (arith, l)) (omega (arith, m))))

pub reply-is : (ds : List Entry) (sent back : List ℕ) → is_reply_of ds sent back ≡ true → IsReply ds sent back
unfolding is_reply_of
reply-is ds sent back h =
    let p : ℕ → Bool = λ k. may_change 16 ds k || (get_or back k 0 == get_or sent k 0) in
    let both = and_parts (length back == length sent) (list_all p (range_with_len 0 (length sent))) h in
    record {
      len = eqb-true (length back) (length sent) both.0;
      bytes = λ k l shut. elim (or_cases (may_change 16 ds k) (get_or back k 0 == get_or sent k 0) (all-within p 0 (length sent) k both.1 (omega arith) (omega (arith, l)))) [
        | inl a ↦ absurd (true≢false (sym a ∙ shut))
        | inr b ↦ eqb-true (get_or back k 0) (get_or sent k 0) b
      ];
    }

pub is-reply : (ds : List Entry) (sent back : List ℕ) → IsReply ds sent back → is_reply_of ds sent back ≡ true
unfolding is_reply_of
is-reply ds sent back h =
    let p : ℕ → Bool = λ k. may_change 16 ds k || (get_or back k 0 == get_or sent k 0) in
    and_from (length back == length sent) (list_all p (range_with_len 0 (length sent))) (eq-eqb (length back) (length sent) h.len)
    (all-from p 0 (length sent) (λ k l m. elim (cases_Bool (may_change 16 ds k)) [
      | inl t ↦ or_left (may_change 16 ds k) (get_or back k 0 == get_or sent k 0) t
      | inr f ↦ or_right (may_change 16 ds k) (get_or back k 0 == get_or sent k 0) (eq-eqb (get_or back k 0) (get_or sent k 0) (h.bytes k (omega (arith, m)) f))
    ]))

pub unread-is : (n : ℕ) (s : Sent) (back : List ℕ) (f : FrameFault) → HasFault f back → fault_of n s back ≡ Some (fault.Frame f)
unfolding fault_of
unread-is n s back f h = ap (fault_by n s back) ((fault_is back f).1 h)

pub other-is : (n : ℕ) (s : Sent) (back : List ℕ) (ds : List Entry) → ReadsAs back ds → ¬ IsReply (entries_of s.bytes) s.bytes back → fault_of n s back ≡ Some (fault.Reply n)
unfolding fault_of
other-is n s back ds h isnt =
    ap (fault_by n s back) ((read_is back ds).1 h)
    ∙ ap (λ b. cond b (counter_fault n s.stage (first_wrong 0 s.wants (map (λ d. d.counter) ds))) (Some (fault.Reply n)))
    (false_from_ne_true (is_reply_of (entries_of s.bytes) s.bytes back) (λ t. isnt (reply-is (entries_of s.bytes) s.bytes back t)))

pub counter-is : (n : ℕ) (s : Sent) (back : List ℕ) (ds : List Entry) → ReadsAs back ds → IsReply (entries_of s.bytes) s.bytes back →
    fault_of n s back ≡ counter_fault n s.stage (first_wrong 0 s.wants (map (λ d. d.counter) ds))
unfolding fault_of
counter-is n s back ds h holds =
    ap (fault_by n s back) ((read_is back ds).1 h)
    ∙ ap (λ b. cond b (counter_fault n s.stage (first_wrong 0 s.wants (map (λ d. d.counter) ds))) (Some (fault.Reply n))) (is-reply (entries_of s.bytes) s.bytes back holds)

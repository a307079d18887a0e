-- What a play answers once all threads are joined.
use Rattle.std.proofs.Common.{◌≡◌, ℕ, List, [], Some, Result, Ok, Err, length, map, inl, inr, sym, ap, ◌∙◌, append-nil}
use Rattle.std.specs.Prelude.{IfOk}
use Rattle.std.specs.List.{range_with_len}
use Rattle.ec_units.specs.declared.slave.Place.{Place}
use Rattle.ec_units.specs.declared.units.Units.{Units}
use Rattle.ec_units.specs.Load.{loads_of}
use Rattle.ec_loads.specs.Cost.{plan_items, tick_cost}
use Rattle.ec_fmmu.specs.declared.mapping.Mapping.{Mapping}
use Rattle.ec_frame_builder.specs.Frames.{IsLayoutFor}
use Rattle.ec_outcome.specs.declared.play.PlayFault.{PlayFault}
use Rattle.ec_player.specs.declared.playing.Played.{Played}
use Rattle.ec_player.specs.declared.rows.TickRow.{TickRow}
use Rattle.ec_player.specs.Lines.{IsMemory}
use Rattle.ec_player.specs.Plays.{IsAnswer}
use Rattle.ec_player.specs.Sent.{start_sents}
use Rattle.ec_player.proofs.TickLemmas.{rows-cost}
use Rattle.ec_player_threads.specs.Frames.{IsFront}
use Rattle.ec_player_threads.specs.Plays.{IsLack, SameAnswers}
use Rattle.ec_player_threads.proofs.FrontLemmas.{parts_same}

-- a front that is as long as the whole
pub front_whole : (xs ys : List (List ℕ)) → IsFront xs ys → length xs ≡ length ys → xs ≡ ys
front_whole xs ys h l = (parts_same xs h.0 ys [] l (h.1 ∙ sym (append-nil ys))).0

some_same : {A : Type 0} {x y : A} → Some x ≡ Some y → x ≡ y
some_same e = cc

module _ {X : Type 0} (out : X → List ℕ → List ℕ) (next : X → List ℕ → X) (us : Units) (m : Mapping) (image : List ℕ) (n : ℕ) (slaves : List X) where
  pub same : (p q : Result (Played X) PlayFault) → IsAnswer out next IsMemory us m image n slaves p → IsAnswer out next IsLack us m image n slaves q → SameAnswers IsLack p q
  same (Ok p) (Ok q) a b = record {
    starts = a.starts ∙ sym b.starts;
    rows = a.rows ∙ sym b.rows;
    inputs = a.inputs ∙ sym b.inputs;
    line = a.line ∙ sym b.line;
  }
  same (Ok p) (Err g) a (inl l) = l
  same (Ok p) (Err g) a (inr e) = absurd (cc (a.right, e))
  same (Err f) (Ok q) (inl l) b = inl l
  same (Err f) (Ok q) (inr e) b = absurd (cc (b.right, e))
  same (Err f) (Err g) (inl l) b = inl (inl (inl l))
  same (Err f) (Err g) (inr e) (inl l) = inl (inr l)
  same (Err f) (Err g) (inr e) (inr d) = inr (some_same (sym e ∙ d))

  -- the bytes of its rows are what the ticks cost
  pub costs : (r : Result (Played X) PlayFault) → length image ≡ m.total → IsAnswer out next IsLack us m image n slaves r →
      IfOk r (λ p. (places : List Place) → IsLayoutFor us places m → map (λ r. r.bytes) p.ticks ≡ map (tick_cost (plan_items (loads_of us.units) places) us.slots) (range_with_len 0 n))
  costs (Ok p) e a = λ places h. ap (map (λ (r : TickRow). r.bytes)) a.rows ∙ rows-cost out next us m image slaves (start_sents us m) places n h e
  costs (Err f) e a = tt

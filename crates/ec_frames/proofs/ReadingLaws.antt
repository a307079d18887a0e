-- The functions of `Parsing` are what the relations of `Reading` say, at the front of the bytes.
-- Reading is said three times: by the relations of `Reading` (public clauses), by the functions of `Parsing` (private
-- clauses), and by the code. The relations and the functions are compared over plain lists, both ways, for a reading
-- and for a fault; the public clauses are two equivalences. A caller gets `ReadsAs` at `Ok` by `(c..ensures.ok _).0
-- refl`.
use Rattle.std.proofs.Common.{◌≡◌, ◌⊎◌, inl, inr, subst, ℕ, ◌+◌, ◌≤◌, Bool, true, false, not, ◌&&◌, ◌==◌, cond, List, length, drop, slice_index, Option, Some, None, Ok, Err, refl, ap, sym, ◌∙◌, arith, length-drop}
use Rattle.std.specs.Prelude.{nat_lt}
use Rattle.std.proofs.lemmas.Bool.Decides.{nat_tests}
use Rattle.ec_frames.specs.declared.command.Command.{Command}
use Rattle.ec_frames.specs.declared.reading.FrameFault.{FrameFault}
use Rattle.ec_frames.specs.declared.reading.FrameFault.TheVariants as fault
use Rattle.ec_frames.specs.Table.{command_with}
use Rattle.ec_frames.specs.Reading.{Entry, size_at, more_follow, BeginsWith, IsHeaded, IsFaultAtFront}
use Rattle.ec_frames.specs.Parsing.{entry_at, ended, known_at, datagram_at}

pub chosen : {X : Type 0} (b : Bool) (x y z : X) → cond b x y ≡ z → ((b ≡ true) × (x ≡ z)) ⊎ ((b ≡ false) × (y ≡ z))
chosen true x y z h = inl (refl, h)
chosen false x y z h = inr (refl, h)

-- the datagram at the front begins the bytes, where they have room for it
begins : (c : Command) (source : List ℕ) → 10 ≤ length source → command_with (slice_index source 0) ≡ Some c → size_at source + 12 ≤ length source
    → BeginsWith source (entry_at c source) (more_follow source) (drop (size_at source + 12) source)
begins c source header known fits = record {
  header = header;
  command = known;
  index = refl;
  address = refl;
  circulating = refl;
  more_bit = refl;
  event = refl;
  fits = fits;
  bytes = refl;
  counter = refl;
  after = refl;
}

-- what the more bit has to say of the rest
abbrev pub Begun : List ℕ → Entry × List ℕ → Type 0
Begun source d = BeginsWith source d.0 (not (length d.1 == 0)) d.1

more_is : (more z : Bool) → (more && z) ≡ false → (not more && not z) ≡ false → more ≡ not z
more_is true true a b = absurd (cc (a))
more_is true false a b = refl
more_is false true a b = refl
more_is false false a b = sym b

ended_found : (source : List ℕ) (e : Entry) (rest : List ℕ) (d : Entry × List ℕ) → BeginsWith source e (more_follow source) rest → ended (more_follow source) e rest ≡ Ok d → Begun source d
ended_found source e rest d begun h =
    elim (chosen (more_follow source && (length rest == 0)) _ _ _ h) [
      | inl bad ↦ absurd (cc (bad.1))
      | inr fine ↦ elim (chosen (not (more_follow source) && not (length rest == 0)) _ _ _ fine.1) [
        | inl worse ↦ absurd (cc (worse.1))
        | inr good ↦
            let same : (e, rest) ≡ d = cc (good.1) in
            let P : Entry × List ℕ → Type 0 = λ x. Begun source x in
            subst P same (let flag = more_is (more_follow source) (length rest == 0) fine.0 good.0 in rw flag at begun)
      ]
    ]

known_found : (o : Option Command) (source : List ℕ) (d : Entry × List ℕ) → 10 ≤ length source → command_with (slice_index source 0) ≡ o → known_at o source ≡ Ok d → Begun source d
known_found None source d header known h = absurd (cc (h))
known_found (Some c) source d header known h =
    elim (chosen (nat_lt (length source) (size_at source + 12)) _ _ _ h) [
      | inl short ↦ absurd (cc (short.1))
      | inr long ↦ ended_found source (entry_at c source) _ d (begins c source header known (grind (arith, nat_tests, long.0))) long.1
    ]

-- what is read at the front begins the bytes
pub front_found : (source : List ℕ) (d : Entry × List ℕ) → datagram_at source ≡ Ok d → Begun source d
unfolding datagram_at
front_found source d h =
    elim (chosen (nat_lt (length source) 10) _ _ _ h) [
      | inl short ↦ absurd (cc (short.1))
      | inr long ↦ known_found (command_with (slice_index source 0)) source d (grind (arith, nat_tests, long.0)) refl long.1
    ]

ended_again : (more z : Bool) (e : Entry) (rest : List ℕ) → (length rest == 0) ≡ z → more ≡ not z → ended more e rest ≡ Ok (e, rest)
ended_again more true e rest h k = rw (k, h) refl
ended_again more false e rest h k = rw (k, h) refl

-- what begins the bytes is read at the front
pub front_reads : (source : List ℕ) (d : Entry) (rest : List ℕ) (more : Bool) → more ≡ not (length rest == 0) → BeginsWith source d more rest → datagram_at source ≡ Ok (d, rest)
unfolding datagram_at
front_reads source d rest more is h =
    let header : nat_lt (length source) 10 ≡ false = let l = h.header in grind (arith, nat_tests) in
    let fits : nat_lt (length source) (size_at source + 12) ≡ false = let l = h.fits in grind (arith, nat_tests) in
    let entry : entry_at d.command source ≡ d = rw (← h.index, ← h.address, ← h.circulating, ← h.event, ← h.bytes, ← h.counter) refl in
    let read : known_at (Some d.command) source ≡ Ok (d, rest) =
    rw (fits, ← h.more_bit, ← h.after) (ap (λ x. ended more x rest) entry ∙ ended_again more (length rest == 0) d rest refl is) in
    rw header (ap (λ o. known_at o source) h.command ∙ read)

along : (source : List ℕ) (f g : FrameFault) → IsFaultAtFront g source → g ≡ f → IsFaultAtFront f source
along source f g h is = subst (λ (x : FrameFault). IsFaultAtFront x source) is h

both : (a b : Bool) → (a && b) ≡ true → (a ≡ true) × (b ≡ true)
both true true h = (refl, refl)
both true false h = absurd (cc (h))
both false b h = absurd (cc (h))

off : (a : Bool) → not a ≡ true → a ≡ false
off true h = absurd (cc (h))
off false h = refl

ended_fault : (c : Command) (source : List ℕ) (f : FrameFault) → 10 ≤ length source → command_with (slice_index source 0) ≡ Some c → size_at source + 12 ≤ length source
    → ended (more_follow source) (entry_at c source) (drop (size_at source + 12) source) ≡ Err f → IsFaultAtFront f source
ended_fault c source f header known fits h =
    let rest = drop (size_at source + 12) source in
    let left = length-drop (size_at source + 12) source in
    let headed : IsHeaded source = record { header = header; command = c; known = known } in
    elim (chosen (more_follow source && (length rest == 0)) _ _ _ h) [
      | inl bad ↦
          let parts = both (more_follow source) (length rest == 0) bad.0 in
          along source f fault.MoreAtEnd (headed, grind (arith, nat_tests, parts.1, left), parts.0) (cc (bad.1))
      | inr fine ↦ elim (chosen (not (more_follow source) && not (length rest == 0)) _ _ _ fine.1) [
        | inl worse ↦
            let parts = both (not (more_follow source)) (not (length rest == 0)) worse.0 in
            let some = off (length rest == 0) parts.1 in
            along source f fault.RestAfterLast (headed, grind (arith, nat_tests, some, left), off (more_follow source) parts.0) (cc (worse.1))
        | inr good ↦ absurd (cc (good.1))
      ]
    ]

known_fault : (o : Option Command) (source : List ℕ) (f : FrameFault) → 10 ≤ length source → command_with (slice_index source 0) ≡ o → known_at o source ≡ Err f → IsFaultAtFront f source
known_fault None source f header known h = along source f (fault.UnknownCommand (slice_index source 0)) (header, refl, known) (cc (h))
known_fault (Some c) source f header known h =
    elim (chosen (nat_lt (length source) (size_at source + 12)) _ _ _ h) [
      | inl short ↦ along source f fault.DataPastEnd (inr (record { header = header; command = c; known = known }, grind (arith, nat_tests, short.0))) (cc (short.1))
      | inr long ↦ ended_fault c source f header known (grind (arith, nat_tests, long.0)) long.1
    ]

-- a fault that is given at the front is one
pub front_fault : (source : List ℕ) (f : FrameFault) → datagram_at source ≡ Err f → IsFaultAtFront f source
unfolding datagram_at
front_fault source f h =
    elim (chosen (nat_lt (length source) 10) _ _ _ h) [
      | inl short ↦ along source f fault.DataPastEnd (inl (grind (arith, nat_tests, short.0))) (cc (short.1))
      | inr long ↦ known_fault (command_with (slice_index source 0)) source f (grind (arith, nat_tests, long.0)) refl long.1
    ]

headed_at : (source : List ℕ) (h : IsHeaded source) → datagram_at source ≡ known_at (Some h.command) source
unfolding datagram_at
headed_at source h =
    let header : nat_lt (length source) 10 ≡ false = let l = h.header in grind (arith, nat_tests) in
    rw header (ap (λ o. known_at o source) h.known)

-- a fault at the front is given
pub front_faults : (source : List ℕ) (f : FrameFault) → IsFaultAtFront f source → datagram_at source ≡ Err f
unfolding datagram_at
front_faults source fault.Short h = absurd h
front_faults source fault.NotEtherCat h = absurd h
front_faults source (fault.FrameType kind) h = absurd h
front_faults source fault.Length h = absurd h
front_faults source (fault.UnknownCommand code) h =
    let header : nat_lt (length source) 10 ≡ false = let l = h.0 in grind (arith, nat_tests) in
    rw header (ap (λ o. known_at o source) h.2 ∙ ap (λ n. Err (fault.UnknownCommand n)) (sym h.1))
front_faults source fault.DataPastEnd (inl h) =
    let header : nat_lt (length source) 10 ≡ true = grind (arith, nat_tests) in
    rw header refl
front_faults source fault.DataPastEnd (inr h) =
    let short : nat_lt (length source) (size_at source + 12) ≡ true = let l = h.1 in grind (arith, nat_tests) in
    let read : known_at (Some h.0.command) source ≡ Err fault.DataPastEnd = rw short refl in
    headed_at source h.0 ∙ read
front_faults source fault.MoreAtEnd h =
    let short : nat_lt (length source) (size_at source + 12) ≡ false = let l = h.1 in grind (arith, nat_tests) in
    let left = length-drop (size_at source + 12) source in
    let none : (length (drop (size_at source + 12) source) == 0) ≡ true = let l = h.1 in grind (arith, nat_tests) in
    let read : known_at (Some h.0.command) source ≡ Err fault.MoreAtEnd = rw (short, h.2, none) refl in
    headed_at source h.0 ∙ read
front_faults source fault.RestAfterLast h =
    let short : nat_lt (length source) (size_at source + 12) ≡ false = let l = h.1 in grind (arith, nat_tests) in
    let left = length-drop (size_at source + 12) source in
    let some : (length (drop (size_at source + 12) source) == 0) ≡ false = let l = h.1 in grind (arith, nat_tests) in
    let read : known_at (Some h.0.command) source ≡ Err fault.RestAfterLast = rw (short, h.2, some) refl in
    headed_at source h.0 ∙ read

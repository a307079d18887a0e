-- What modelled slaves make of the one datagram of a start frame.
use Rattle.std.proofs.Common.{◌≡◌, ◌≢◌, ℕ, zero, suc, ◌+◌, ◌-◌, ◌*◌, ◌/◌, ◌%◌, ◌<◌, ◌≤◌, ◌==◌, true, false, List, [], ◌∷◌, ◌++◌, length, get_or, Some, None, refl, ap, sym, ◌∙◌, subst, arith, All}
use Rattle.std.specs.Prelude.{nat_lt, nat_le, bit_or}
use Rattle.std.proofs.lemmas.Bool.{cond-true, cond-false, and_from, lt-ltb, eq-eqb, ne_eqb}
use Rattle.std.proofs.lemmas.Bool.Decides.{nat_tests}
use Rattle.std.proofs.lemmas.List.Elements.{All-head, All-tail}
use Rattle.ec_frames.specs.declared.command.Command.{Command}
use Rattle.ec_frames.specs.declared.command.Command.TheVariants as command
use Rattle.ec_frames.specs.declared.command.AddressKind.TheVariants as kind
use Rattle.ec_frames.specs.Reading.{Entry}
use Rattle.ec_slave.specs.declared.request.Request.{Request}
use Rattle.ec_slave.specs.Requests.{row_of}
use Rattle.ec_slave.specs.Access.{put, merged, no_effect, offset_of, station_of, is_within, accessed}
use Rattle.ec_slave.specs.Journey.{through, passed}
use Rattle.ec_slave.specs.Step.{effect_of}
use Rattle.ec_slave_laws.specs.Datagrams.{entry_done, entry_out, entry_next}

-- a datagram with index 0 and no bits set
abbrev pub ask : Command → ℕ → ℕ → List ℕ → Entry
ask c a k bs = record { command = c; index = 0; address = a; circulating = false; event = 0; counter = k; bytes = bs }

within : (m : List ℕ) (offset n : ℕ) → 0 < n → offset + n ≤ length m → is_within m offset n ≡ true
within m offset n a b = and_from (nat_lt 0 n) (nat_le (offset + n) (length m)) (lt-ltb 0 n a) (let h : nat_le (offset + n) (length m) ≡ true = grind (arith, nat_tests) in h)

-- what a line makes of it: the counter with which it comes back, and the slaves afterwards
pub record Goes (slaves : List (List ℕ)) (d : Entry) (counter : ℕ) (after : List (List ℕ)) : Type 0 where
  pub counted : (through entry_out entry_next slaves d).counter ≡ counter
  pub left : passed entry_out entry_next slaves d ≡ after

goes-none : (d : Entry) → Goes [] d d.counter []
goes-none d = record { counted = refl; left = refl }

goes-first : (m now : List ℕ) (ms after : List (List ℕ)) (d e : Entry) (k : ℕ) → entry_out m d ≡ e → entry_next m d ≡ now → Goes ms e k after → Goes (m ∷ ms) d k (now ∷ after)
goes-first m now ms after d e k o n h = record {
  counted = ap (λ x. (through entry_out entry_next ms x).counter) o ∙ h.counted;
  left = (λ i. n i ∷ (ap (passed entry_out entry_next ms) o ∙ h.left) i);
}

-- ---- the broadcast

brd-done : (m : List ℕ) (a k b : ℕ) → 0 < length m → offset_of a ≡ 0 →
    effect_of (row_of command.Brd) m a (b ∷ []) ≡ record { memory = m; reply = Some (merged (b ∷ []) m (offset_of a)); gain = 1 }
unfolding effect_of
brd-done m a k b l e = cond-true (is_within m (offset_of a) 1) _ (no_effect m) (within m (offset_of a) 1 (omega arith) (omega (arith, l, e)))

abbrev raised_by_one : ℕ → ℕ
raised_by_one a = (a % 65536 + 1) % 65536 + 65536 * (a / 65536)

brd-out : (m : List ℕ) (a k b : ℕ) → 0 < length m → offset_of a ≡ 0 → k + 1 < 65536 →
    entry_out m (ask command.Brd a k (b ∷ [])) ≡ ask command.Brd (raised_by_one a) (k + 1) (bit_or b (get_or m (offset_of a + 0) 0) ∷ [])
unfolding entry_out
brd-out m a k b l e few =
    let n : (k + 1) % 65536 ≡ k + 1 = omega (arith, few) in
    ap (entry_done (ask command.Brd a k (b ∷ [])) kind.Broadcast) (brd-done m a k b l e) ∙ ap (λ c. ask command.Brd (raised_by_one a) c (bit_or b (get_or m (offset_of a + 0) 0) ∷ [])) n

brd-next : (m : List ℕ) (a k b : ℕ) → 0 < length m → offset_of a ≡ 0 → entry_next m (ask command.Brd a k (b ∷ [])) ≡ m
unfolding entry_next
brd-next m a k b l e = ap (λ x. x.memory) (brd-done m a k b l e)

pub brd-goes : (ms : List (List ℕ)) (a k b : ℕ) → All (λ m. 0 < length m) ms → a / 65536 ≡ 0 → k + length ms < 65536 → Goes ms (ask command.Brd a k (b ∷ [])) (k + length ms) ms
brd-goes [] a k b h e few = record { counted = (let z : k ≡ k + 0 = omega arith in z); left = refl }
brd-goes (m ∷ ms) a k b h e few =
    let l = All-head (λ m. 0 < length m) m ms h in
    let up : raised_by_one a / 65536 ≡ 0 = omega (arith, e) in
    let rest = brd-goes ms (raised_by_one a) (k + 1) (bit_or b (get_or m (offset_of a + 0) 0)) (All-tail (λ m. 0 < length m) m ms h) up (omega (arith, few)) in
    let n : k + 1 + length ms ≡ k + suc (length ms) = omega arith in
    subst (λ c. Goes (m ∷ ms) (ask command.Brd a k (b ∷ [])) c (m ∷ ms)) n
    (goes-first m m ms ms _ _ (k + 1 + length ms) (brd-out m a k b l e (omega (arith, few))) (brd-next m a k b l e) rest)

-- ---- a write at a position

abbrev at_position : ℕ → ℕ → List ℕ → Entry
at_position lo k bs = ask command.Apwr (lo + 65536 * 16) k bs

abbrev pwr_row : Request
pwr_row = row_of command.Apwr

other-done : (m : List ℕ) (lo : ℕ) (bs : List ℕ) → lo < 65536 → 0 < lo → effect_of pwr_row m (lo + 65536 * 16) bs ≡ no_effect m
unfolding effect_of
other-done m lo bs h l =
    let n : (lo + 65536 * 16) % 65536 ≢ 0 = λ e. absurd (omega (arith, e, h, l)) in
    cond-false ((lo + 65536 * 16) % 65536 == 0) (accessed pwr_row m (offset_of (lo + 65536 * 16)) bs) (no_effect m) (ne_eqb ((lo + 65536 * 16) % 65536) 0 n)

up-low : (lo : ℕ) → lo < 65536 → raised_by_one (lo + 65536 * 16) ≡ (lo + 1) % 65536 + 65536 * 16
up-low lo h = omega (arith, h)

other-out : (m : List ℕ) (lo k : ℕ) (bs : List ℕ) → lo < 65536 → 0 < lo → entry_out m (at_position lo k bs) ≡ at_position ((lo + 1) % 65536) k bs
unfolding entry_out
other-out m lo k bs h l = ap (entry_done (at_position lo k bs) kind.Position) (other-done m lo bs h l) ∙ ap (λ a. ask command.Apwr a k bs) (up-low lo h)

other-next : (m : List ℕ) (lo k : ℕ) (bs : List ℕ) → lo < 65536 → 0 < lo → entry_next m (at_position lo k bs) ≡ m
unfolding entry_next
other-next m lo k bs h l = ap (λ x. x.memory) (other-done m lo bs h l)

here-done : (m bs : List ℕ) → 0 < length bs → 16 + length bs ≤ length m → effect_of pwr_row m (0 + 65536 * 16) bs ≡ record { memory = put 16 bs m; reply = None; gain = 1 }
unfolding effect_of
here-done m bs a b = cond-true (is_within m 16 (length bs)) _ (no_effect m) (within m 16 (length bs) a b)

here-out : (m bs : List ℕ) → 0 < length bs → 16 + length bs ≤ length m → entry_out m (at_position 0 0 bs) ≡ at_position 1 1 bs
unfolding entry_out
here-out m bs a b = ap (entry_done (at_position 0 0 bs) kind.Position) (here-done m bs a b)

here-next : (m bs : List ℕ) → 0 < length bs → 16 + length bs ≤ length m → entry_next m (at_position 0 0 bs) ≡ put 16 bs m
unfolding entry_next
here-next m bs a b = ap (λ x. x.memory) (here-done m bs a b)

-- behind the slave that is meant
others-go : (ms : List (List ℕ)) (lo k : ℕ) (bs : List ℕ) → 0 < lo → lo + length ms < 65536 → Goes ms (at_position lo k bs) k ms
others-go [] lo k bs l few = goes-none (at_position lo k bs)
others-go (m ∷ ms) lo k bs l few =
    let n : (lo + 1) % 65536 ≡ lo + 1 = omega (arith, few) in
    goes-first m m ms ms _ _ k (other-out m lo k bs (omega (arith, few)) l) (other-next m lo k bs (omega (arith, few)) l)
    (subst (λ p. Goes ms (at_position p k bs) k ms) (sym n) (others-go ms (lo + 1) k bs (omega arith) (omega (arith, few))))

-- slave i of the line gets the bytes
pub name-goes : (done rest : List (List ℕ)) (m bs : List ℕ) (i lo : ℕ) → i ≡ length done → lo ≡ (65536 - i) % 65536 → i < 65536 → length rest < 65535 → 0 < length bs → 16 + length bs ≤ length m →
    Goes (done ++ m ∷ rest) (at_position lo 0 bs) 1 (done ++ put 16 bs m ∷ rest)
name-goes [] rest m bs i lo is low few less a b =
    let zero_is : lo ≡ 0 = omega (arith, is, low) in
    subst (λ p. Goes (m ∷ rest) (at_position p 0 bs) 1 (put 16 bs m ∷ rest)) (sym zero_is)
    (goes-first m (put 16 bs m) rest rest _ _ 1 (here-out m bs a b) (here-next m bs a b) (others-go rest 1 1 bs (omega arith) (omega (arith, less))))
name-goes (x ∷ xs) rest m bs zero lo is low few less a b = absurd (omega (arith, is))
name-goes (x ∷ xs) rest m bs (suc i) lo is low few less a b =
    let next : (lo + 1) % 65536 ≡ (65536 - i) % 65536 = omega (arith, low, few) in
    let some : 0 < lo = omega (arith, low, few) in
    let fits : lo < 65536 = omega (arith, low) in
    goes-first x x (xs ++ m ∷ rest) (xs ++ put 16 bs m ∷ rest) _ _ 1 (other-out x lo 0 bs fits some) (other-next x lo 0 bs fits some)
    (name-goes xs rest m bs i ((lo + 1) % 65536) (omega (arith, is)) next (omega (arith, few)) less a b)

-- ---- a write to a station

abbrev at_station : ℕ → ℕ → List ℕ → Entry
at_station st k bs = ask command.Fpwr (st + 65536 * 1536) k bs

abbrev fwr_row : Request
fwr_row = row_of command.Fpwr

far-done : (m : List ℕ) (st : ℕ) (bs : List ℕ) → st < 65536 → st ≢ station_of m → effect_of fwr_row m (st + 65536 * 1536) bs ≡ no_effect m
unfolding effect_of
far-done m st bs h n =
    let low : (st + 65536 * 1536) % 65536 ≡ st = omega (arith, h) in
    cond-false ((st + 65536 * 1536) % 65536 == station_of m) (accessed fwr_row m (offset_of (st + 65536 * 1536)) bs) (no_effect m)
    (ne_eqb ((st + 65536 * 1536) % 65536) (station_of m) (λ e. n (sym low ∙ e)))

far-out : (m : List ℕ) (st k : ℕ) (bs : List ℕ) → st < 65536 → st ≢ station_of m → entry_out m (at_station st k bs) ≡ at_station st k bs
unfolding entry_out
far-out m st k bs h n = ap (entry_done (at_station st k bs) kind.Station) (far-done m st bs h n)

far-next : (m : List ℕ) (st k : ℕ) (bs : List ℕ) → st < 65536 → st ≢ station_of m → entry_next m (at_station st k bs) ≡ m
unfolding entry_next
far-next m st k bs h n = ap (λ x. x.memory) (far-done m st bs h n)

near-done : (m : List ℕ) (st : ℕ) (bs : List ℕ) → st < 65536 → st ≡ station_of m → 0 < length bs → 1536 + length bs ≤ length m →
    effect_of fwr_row m (st + 65536 * 1536) bs ≡ record { memory = put 1536 bs m; reply = None; gain = 1 }
unfolding effect_of
near-done m st bs h e a b =
    let low : (st + 65536 * 1536) % 65536 ≡ st = omega (arith, h) in
    let high : (st + 65536 * 1536) / 65536 ≡ 1536 = omega (arith, h) in
    cond-true ((st + 65536 * 1536) % 65536 == station_of m) (accessed fwr_row m (offset_of (st + 65536 * 1536)) bs) (no_effect m) (eq-eqb ((st + 65536 * 1536) % 65536) (station_of m) (low ∙ e))
    ∙ ap (λ o. accessed fwr_row m o bs) high
    ∙ cond-true (is_within m 1536 (length bs)) _ (no_effect m) (within m 1536 (length bs) a b)

near-out : (m : List ℕ) (st : ℕ) (bs : List ℕ) → st < 65536 → st ≡ station_of m → 0 < length bs → 1536 + length bs ≤ length m → entry_out m (at_station st 0 bs) ≡ at_station st 1 bs
unfolding entry_out
near-out m st bs h e a b = ap (entry_done (at_station st 0 bs) kind.Station) (near-done m st bs h e a b)

near-next : (m : List ℕ) (st : ℕ) (bs : List ℕ) → st < 65536 → st ≡ station_of m → 0 < length bs → 1536 + length bs ≤ length m → entry_next m (at_station st 0 bs) ≡ put 1536 bs m
unfolding entry_next
near-next m st bs h e a b = ap (λ x. x.memory) (near-done m st bs h e a b)

abbrev pub IsElsewhere : ℕ → List ℕ → Type 0
IsElsewhere st m = st ≢ station_of m

far-goes : (ms : List (List ℕ)) (st k : ℕ) (bs : List ℕ) → st < 65536 → All (IsElsewhere st) ms → Goes ms (at_station st k bs) k ms
far-goes [] st k bs h e = goes-none (at_station st k bs)
far-goes (m ∷ ms) st k bs h e =
    let n = All-head (IsElsewhere st) m ms e in
    goes-first m m ms ms _ _ k (far-out m st k bs h n) (far-next m st k bs h n) (far-goes ms st k bs h (All-tail (IsElsewhere st) m ms e))

-- the one slave with this station gets the bytes
pub map-goes : (done rest : List (List ℕ)) (m bs : List ℕ) (st : ℕ) → st < 65536 → All (IsElsewhere st) done → All (IsElsewhere st) rest → st ≡ station_of m → 0 < length bs → 1536 + length bs ≤ length m →
    Goes (done ++ m ∷ rest) (at_station st 0 bs) 1 (done ++ put 1536 bs m ∷ rest)
map-goes [] rest m bs st h before behind is a b =
    goes-first m (put 1536 bs m) rest rest _ _ 1 (near-out m st bs h is a b) (near-next m st bs h is a b) (far-goes rest st 1 bs h behind)
map-goes (x ∷ xs) rest m bs st h before behind is a b =
    let n = All-head (IsElsewhere st) x xs before in
    goes-first x x (xs ++ m ∷ rest) (xs ++ put 1536 bs m ∷ rest) _ _ 1 (far-out x st 0 bs h n) (far-next x st 0 bs h n)
    (map-goes xs rest m bs st h (All-tail (IsElsewhere st) x xs before) behind is a b)

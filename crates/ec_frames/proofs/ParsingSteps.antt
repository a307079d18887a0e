-- Datagrams one after the other.
use Rattle.std.proofs.Common.{◌≡◌, ℕ, zero, suc, ◌+◌, ◌<◌, ◌≤◌, Bool, true, false, not, ◌&&◌, ◌==◌, cond, List, [], ◌∷◌, length, drop, slice_index, Option, Some, None, Result, Ok, Err, refl, ap, sym, ◌∙◌, arith, length-drop}
use Rattle.std.specs.Prelude.{nat_lt}
use Rattle.std.proofs.lemmas.Bool.Decides.{nat_tests}
use Rattle.ec_frames.specs.Table.{command_with}
use Rattle.ec_frames.specs.Reading.{Entry, size_at, more_follow}
use Rattle.ec_frames.specs.Parsing.{ok_map, and_then, entry_at, ended, known_at, datagram_at, joined, datagrams_from, payload_read, void, front_of, entries_from, entries}
use Rattle.ec_frames.specs.declared.command.Command.{Command}
use Rattle.ec_frames.specs.declared.reading.FrameFault.{FrameFault}

if_err : {A E : Type 0} (b : Bool) (e : E) (r : Result A E) (x : A) → cond b (Err e) r ≡ Ok x → (b ≡ false) × (r ≡ Ok x)
if_err true e r x h = absurd cc
if_err false e r x h = (refl, h)

ended_rest : (more : Bool) (e : Entry) (rest : List ℕ) (d : Entry × List ℕ) → ended more e rest ≡ Ok d → rest ≡ d.1
ended_rest more e rest d h =
    let one = if_err (more && (length rest == 0)) _ _ d h in
    let two = if_err (not more && not (length rest == 0)) _ _ d one.1 in
    let same : (e, rest) ≡ d = cc (two.1) in
    ap (λ x. x.1) same

known_shorter : (c : Option Command) (bs : List ℕ) (d : Entry × List ℕ) → known_at c bs ≡ Ok d → length d.1 + 12 ≤ length bs
known_shorter None bs d h = absurd cc
known_shorter (Some c) bs d h =
    let long = if_err (nat_lt (length bs) (size_at bs + 12)) _ _ d h in
    let rest = ended_rest (more_follow bs) (entry_at c bs) (drop (size_at bs + 12) bs) d long.1 in
    let room : size_at bs + 12 ≤ length bs = grind (arith, nat_tests, long.0) in
    omega (arith, ap length rest, length-drop (size_at bs + 12) bs)

pub shorter : (bs : List ℕ) (d : Entry × List ℕ) → datagram_at bs ≡ Ok d → length d.1 + 12 ≤ length bs
unfolding datagram_at
shorter bs d h = known_shorter (command_with (slice_index bs 0)) bs d (if_err (nat_lt (length bs) 10) _ _ d h).1

front_same : (r : Result (Entry × List ℕ) FrameFault) (f g : List ℕ → List Entry) → ((d : Entry × List ℕ) → r ≡ Ok d → f d.1 ≡ g d.1) → front_of r f ≡ front_of r g
front_same (Err e) f g h = refl
front_same (Ok d) f g h = ap (λ ds. d.0 ∷ ds) (h d refl)

front_none : (bs : List ℕ) (r : Result (Entry × List ℕ) FrameFault) (f : List ℕ → List Entry) → length bs ≤ 0 → datagram_at bs ≡ r → front_of r f ≡ []
front_none bs (Err e) f l h = refl
front_none bs (Ok d) f l h = absurd (omega (arith, shorter bs d h))

entries_same : (n m : ℕ) (bs : List ℕ) → length bs ≤ n → length bs ≤ m → entries_from n bs ≡ entries_from m bs
entries_same zero zero bs a b = refl
entries_same zero (suc m) bs a b = sym (front_none bs (datagram_at bs) (entries_from m) a refl)
entries_same (suc n) zero bs a b = front_none bs (datagram_at bs) (entries_from n) b refl
entries_same (suc n) (suc m) bs a b =
    front_same (datagram_at bs) (entries_from n) (entries_from m) (λ d h. entries_same n m d.1 (omega (arith, shorter bs d h)) (omega (arith, shorter bs d h)))

pub entries_step : (bs : List ℕ) (d : Entry × List ℕ) → datagram_at bs ≡ Ok d → entries bs ≡ d.0 ∷ entries d.1
unfolding entries
entries_step bs d h =
    let small = shorter bs d h in
    entries_same (length bs) (suc (length bs)) bs (omega arith) (omega arith) ∙ ap (λ r. front_of r (entries_from (length bs))) h
    ∙ ap (λ ds. d.0 ∷ ds) (entries_same (length bs) (length d.1) d.1 (omega arith) (omega arith))

pub entries_none : (bs : List ℕ) (e : FrameFault) → datagram_at bs ≡ Err e → entries bs ≡ []
unfolding entries
entries_none bs e h = entries_same (length bs) (suc (length bs)) bs (omega arith) (omega arith) ∙ ap (λ r. front_of r (entries_from (length bs))) h

pub ok_map_ok : {A B E : Type 0} (f : A → B) (r : Result A E) (y : B) → ok_map f r ≡ Ok y → (x : A) × (r ≡ Ok x) × (f x ≡ y)
ok_map_ok f (Ok x) y e = (x, refl, cc)
ok_map_ok f (Err d) y e = absurd cc

pub then_ok : {A B E : Type 0} (r : Result A E) (f : A → Result B E) (y : B) → and_then r f ≡ Ok y → (x : A) × (r ≡ Ok x) × (f x ≡ Ok y)
then_ok (Ok x) f y e = (x, refl, e)
then_ok (Err d) f y e = absurd cc

entries_nil : (bs : List ℕ) → length bs ≤ 0 → entries bs ≡ []
unfolding entries
entries_nil bs l = entries_same (length bs) 0 bs (omega arith) l

last_or_more : (d : Entry × List ℕ) (b : Bool) (others : Result (List Entry) FrameFault) (xs : List Entry) → (length d.1 == 0) ≡ b → ((ys : List Entry) → others ≡ Ok ys → entries d.1 ≡ ys)
    → cond b (Ok (d.0 ∷ [])) (ok_map (λ ds. d.0 ∷ ds) others) ≡ Ok xs → d.0 ∷ entries d.1 ≡ xs
last_or_more d true others xs e ih h =
    let only : d.0 ∷ [] ≡ xs = cc (h) in
    ap (λ ds. d.0 ∷ ds) (entries_nil d.1 (grind (arith, nat_tests))) ∙ only
last_or_more d false others xs e ih h =
    let (ys, is, same) = ok_map_ok _ others xs h in
    ap (λ ds. d.0 ∷ ds) (ih ys is) ∙ same

pub read_entries : (n : ℕ) (bs : List ℕ) (xs : List Entry) → datagrams_from n bs ≡ Ok xs → entries bs ≡ xs
read_entries zero bs xs h = absurd cc
read_entries (suc n) bs xs h =
    let (d, is, then) = then_ok (datagram_at bs) (λ d. joined d (datagrams_from n d.1)) xs h in
    entries_step bs d is ∙ last_or_more d (length d.1 == 0) (datagrams_from n d.1) xs refl (read_entries n d.1) then

void_ok : {A E : Type 0} (r : Result A E) (u : Unit {0}) → void r ≡ Ok u → (x : A) × (r ≡ Ok x)
void_ok (Ok x) u h = (x, refl)
void_ok (Err e) u h = absurd cc

pub parsed : (bs : List ℕ) → void (payload_read bs) ≡ Ok tt → payload_read bs ≡ Ok (entries bs)
unfolding payload_read
parsed bs h =
    let (xs, is) = void_ok (payload_read bs) tt h in
    is ∙ ap (λ (ys : List Entry). Ok ys) (sym (read_entries (suc (length bs)) bs xs is))

void_map : {A B E : Type 0} (f : A → B) (r : Result A E) → void (ok_map f r) ≡ void r
void_map f (Ok x) = refl
void_map f (Err e) = refl

void_joined : (d : Entry × List ℕ) (b : Bool) (others : Result (List Entry) FrameFault) → b ≡ false → void (cond b (Ok (d.0 ∷ [])) (ok_map (λ ds. d.0 ∷ ds) others)) ≡ void others
void_joined d true others h = absurd cc
void_joined d false others h = void_map (λ ds. d.0 ∷ ds) others

-- the first datagram ends what is checked, or not
pub check_err : (n : ℕ) (bs : List ℕ) (e : FrameFault) (total : Result (Unit {0}) FrameFault) → length bs < n → datagram_at bs ≡ Err e → void (datagrams_from n bs) ≡ total → Err e ≡ total
check_err zero bs e total l h all = absurd (omega arith)
check_err (suc m) bs e total l h all =
    let same : void (datagrams_from (suc m) bs) ≡ Err e = rw h refl in
    sym same ∙ all

pub check_last : (n : ℕ) (bs : List ℕ) (d : Entry × List ℕ) (total : Result (Unit {0}) FrameFault) → length bs < n → datagram_at bs ≡ Ok d → (length d.1 == 0) ≡ true → void (datagrams_from n bs) ≡ total → Ok tt ≡ total
check_last zero bs d total l h none all = absurd (omega arith)
check_last (suc m) bs d total l h none all =
    let same : void (datagrams_from (suc m) bs) ≡ Ok tt = rw (h, none) refl in
    sym same ∙ all

pub check_more : (n : ℕ) (bs : List ℕ) (d : Entry × List ℕ) (total : Result (Unit {0}) FrameFault) → length bs < n → datagram_at bs ≡ Ok d → (length d.1 == 0) ≡ false → void (datagrams_from n bs) ≡ total
    → (m : ℕ) × (length d.1 < m) × (void (datagrams_from m d.1) ≡ total)
check_more zero bs d total l h some e = absurd (omega arith)
check_more (suc m) bs d total l h some e =
    let small = shorter bs d h in
    let same : void (datagrams_from (suc m) bs) ≡ void (datagrams_from m d.1) = rw h (void_joined d (length d.1 == 0) (datagrams_from m d.1) some) in
    (m, omega arith, sym same ∙ e)

pub entries_of_none : entries [] ≡ []
entries_of_none = entries_nil [] (omega arith)

-- One more datagram.
-- These are the steps of the loop of `build`.
use Rattle.std.proofs.Common.{◌≡◌, ℕ, ◌+◌, ◌<◌, Bool, true, false, List, [], ◌∷◌, ◌++◌, length, take, drop, get_or, sum_by, refl, ◌∙◌, arith, append_assoc, add-one, length-drop}
use Rattle.std.specs.Prelude.{nat_lt, ◌||◌}
use Rattle.std.specs.List.{list_any}
use Rattle.std.proofs.lemmas.List.{drop_more, drop-drop}
use Rattle.std.proofs.lemmas.List.Sums.{sum_by-cons}
use Rattle.std.proofs.lemmas.Bool.Decides.{nat_tests}
use Rattle.ec_frames.specs.declared.writing.Datagram.{Datagram}
use Rattle.ec_frames.specs.Written.{datagram_bytes, datagrams_bytes, more_than_none, total_of}

some_from_length : (ds : List Datagram) → more_than_none ds ≡ nat_lt 0 (length ds)
some_from_length [] = refl
some_from_length (d ∷ ds) = grind (arith, nat_tests)

pub more_is : (ds : List Datagram) (i : ℕ) → i < length ds → more_than_none (drop (i + 1) ds) ≡ nat_lt (i + 1) (length ds)
more_is ds i h = some_from_length (drop (i + 1) ds) ∙ grind (arith, nat_tests, length-drop (i + 1) ds)

pub written_more : (front : List ℕ) (i at : ℕ) (ds : List Datagram) (d : Datagram) (bytes : List ℕ) → i < length ds
    → (front ++ datagram_bytes (get_or ds i d) i (nat_lt (i + 1) (length ds)) (take (get_or ds i d).len (drop at bytes))) ++ datagrams_bytes (i + 1) (drop (i + 1) ds) (drop (at + (get_or ds i d).len) bytes)
    ≡ front ++ datagrams_bytes i (drop i ds) (drop at bytes)
written_more front i at ds d bytes h =
    rw (drop_more ds i d h, more_is ds i h, add-one, drop-drop) (append_assoc front _ _)

pub sums_more : (ds : List Datagram) (i : ℕ) (d : Datagram) → i < length ds
    → (sum_by (λ x. x.len) (drop i ds) ≡ (get_or ds i d).len + sum_by (λ x. x.len) (drop (i + 1) ds)) × (total_of (drop i ds) ≡ (get_or ds i d).len + 12 + total_of (drop (i + 1) ds))
sums_more ds i d h = rw (drop_more ds i d h) (sum_by-cons (λ x. x.len) (get_or ds i d) (drop (i + 1) ds), sum_by-cons (λ x. x.len + 12) (get_or ds i d) (drop (i + 1) ds))

or_right : (a b : Bool) → (a || b) ≡ false → b ≡ false
or_right true b h = absurd cc
or_right false b h = h

pub short_more : (ds : List Datagram) (i : ℕ) (d : Datagram) → i < length ds → list_any (λ x. nat_lt 1486 x.len) (drop i ds) ≡ false → list_any (λ x. nat_lt 1486 x.len) (drop (i + 1) ds) ≡ false
short_more ds i d h s = or_right (nat_lt 1486 (get_or ds i d).len) _ (rw (drop_more ds i d h) at s)

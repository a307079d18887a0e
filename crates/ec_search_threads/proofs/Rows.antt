-- Facts of two lists in step, and of each of the first seats.
-- Several `Vec`s by value in step: `for` over one, `.next()` of the others, whose `ensures.items` is `old ≡ x ∷ new`;
-- `tails_even` keeps the lengths.
use Rattle.std.proofs.Common.{◌≡◌, ap, ℕ, zero, suc, List, [], ◌∷◌, length, All, arith}
use Rattle.ec_units.specs.declared.unit.Unit.{Unit as SyncUnit}
use Rattle.ec_book_shared.specs.Seats.{SeatView, seat_view, first_seats}
use Rattle.ec_search_queues.proofs.Rows.{all_push}

-- two lists of one length, each without its head
pub tails_even : {X Y : Type 0} (xs rest : List X) (ys others : List Y) (x : X) (y : Y) → xs ≡ x ∷ rest → ys ≡ y ∷ others → length xs ≡ length ys → length rest ≡ length others
tails_even xs rest ys others x y is js same = let a = ap length is in let b = ap length js in omega (arith, a, b, same)

-- what holds of a seat without steps holds of the first seats
pub first_hold : (P : SeatView → Type 0) (us : List SyncUnit) (slots : ℕ) (order : List ℕ) (n : ℕ) → ((w : ℕ) → P (seat_view us slots order w [] 0)) → All P (first_seats us slots order n)
first_hold P us slots order zero each = λ k d below. absurd (omega (arith, below))
first_hold P us slots order (suc n) each = all_push P (first_seats us slots order n) (seat_view us slots order n [] 0) (first_hold P us slots order n each) (each n)

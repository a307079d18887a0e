-- What the tests of a slave's and a unit's numbers tell.
use Rattle.std.proofs.Common.{◌≡◌, ◌≤◌, ◌<◌, ◌==◌, ℕ, zero, suc, ◌+◌, ℤ, pos, negsuc, ◌+ℤ◌, arith, true, false, not, ◌&&◌, ◌||◌, nat_lt, nat_le, int_le, int_lt, Option, Some, unsigned_abs, subst, w64, Fits, Fits-le, refl}
use Rattle.std.proofs.lemmas.Bool.{and_parts, or_parts, not-true, false≢true, true≢false, ltb-false, leb-true, leb-false, eqb-false}
use Rattle.std.proofs.lemmas.Bool.Decides.{nat_tests}
use Rattle.std.specs.Ordering.{int_eq}
use lib.Dec.{T}
use lib.Signed.{non_neg}
use mir.Syntax.{Width}
use mir.Val.{to_z, of_z}
use mir.ValLaws.{to_z_pos}
use Rattle.toml.specs.Data.{Members}
use Rattle.ec_unit_text.specs.declared.fault.Key.TheVariants as key
use Rattle.ec_unit_text.specs.AtKey.{integer_given, integer_at, is_between}
use Rattle.ec_unit_text.specs.Said.{place_from}
use Rattle.ec_unit_text.specs.UnitText.{is_outside, is_place_outside, are_byte_counts, is_area, overlap, are_areas}
use Rattle.ec_unit_text.specs.Fits.{IsWithin, SlaveNumbersFit}

pub within : (low high : ℕ) (z : ℤ) → is_between (pos low) (pos high) z ≡ true → IsWithin low high z
within low high (pos n) h =
    let (a, b) = and_parts (nat_le low n) (nat_le n high) h in
    record { whole = refl; least = leb-true low n a; most = leb-true n high b }
within low high (negsuc n) h = absurd (false≢true h)

-- the counts of a slave
pub counts_in : (ob ib : ℤ) → are_byte_counts ob ib ≡ true → (b : ℕ) × ((c : ℕ) × ((ob ≡ pos b) × (ib ≡ pos c) × (1 ≤ b + c)))
counts_in (pos zero) (pos zero) h = absurd (false≢true h)
counts_in (pos zero) (pos (suc c)) h = (0, (suc c, (refl, refl, omega arith)))
counts_in (pos (suc b)) (pos c) h = (suc b, (c, (refl, refl, omega arith)))
counts_in (pos b) (negsuc c) h =
    let (negative, zeros) = or_parts (int_lt (pos b) (pos 0) || true) (int_eq (pos b) (pos 0) && int_eq (negsuc c) (pos 0)) (not-true _ h) in
    absurd (true≢false (or_parts (int_lt (pos b) (pos 0)) true negative).1)
counts_in (negsuc b) ib h = absurd (false≢true h)

apart_from : (oa ob ia ib : ℕ) → overlap (pos oa) (pos ob) (pos ia) (pos ib) ≡ false → 0 < ob → 0 < ib → oa < ia + ib → ia < oa + ob → ⊥
apart_from oa ob ia ib h = grind (arith, nat_tests)

numbers_fit : (s oa ia : ℤ) (ob ib : ℕ) → is_between (pos 1) (pos 65535) s ≡ true → 1 ≤ ob + ib → are_areas oa (pos ob) ia (pos ib) ≡ true
    → SlaveNumbersFit s (pos ob) (pos ib) oa ia
numbers_fit s (pos oa) (pos ia) ob ib h some k =
    let (both, far) = and_parts (is_area (pos oa) (pos ob) && is_area (pos ia) (pos ib)) (not (overlap (pos oa) (pos ob) (pos ia) (pos ib))) k in
    let (out_area, in_area) = and_parts (is_area (pos oa) (pos ob)) (is_area (pos ia) (pos ib)) both in
    let (out_in, out_ends) = and_parts (is_between (pos 4096) (pos 65535) (pos oa)) (int_le (pos oa +ℤ pos ob) (pos 65536)) out_area in
    let (in_in, in_ends) = and_parts (is_between (pos 4096) (pos 65535) (pos ia)) (int_le (pos ia +ℤ pos ib) (pos 65536)) in_area in
    let out_at_in : IsWithin 4096 65535 (pos oa) = within 4096 65535 (pos oa) out_in in
    let in_at_in : IsWithin 4096 65535 (pos ia) = within 4096 65535 (pos ia) in_in in
    let out_end : oa + ob ≤ 65536 = leb-true (oa + ob) 65536 out_ends in
    let in_end : ia + ib ≤ 65536 = leb-true (ia + ib) 65536 in_ends in
    record {
      station_in = within 1 65535 s h;
      out_bytes_in = record { whole = refl; least = omega arith; most = omega arith };
      in_bytes_in = record { whole = refl; least = omega arith; most = omega arith };
      out_at_in = out_at_in;
      in_at_in = in_at_in;
      carries = some;
      out_end = out_end;
      in_end = in_end;
      apart = apart_from oa ob ia ib (not-true _ far);
    }
numbers_fit s (pos oa) (negsuc ia) ob ib h some k = absurd (false≢true (grind arith))
numbers_fit s (negsuc oa) ia ob ib h some k = absurd (false≢true k)

fits_along : (s ob ib oa ia : ℤ) → is_between (pos 1) (pos 65535) s ≡ true → are_areas oa ob ia ib ≡ true
    → (b : ℕ) × ((c : ℕ) × ((ob ≡ pos b) × (ib ≡ pos c) × (1 ≤ b + c))) → SlaveNumbersFit s ob ib oa ia
fits_along s ob ib oa ia h k (b, (c, (eb, ec, some))) = rw (eb, ec) (numbers_fit s oa ia b c h some (rw (eb, ec) at k))

pub slave_numbers_fit : (s ob ib oa ia : ℤ) → is_between (pos 1) (pos 65535) s ≡ true → are_byte_counts ob ib ≡ true → are_areas oa ob ia ib ≡ true → SlaveNumbersFit s ob ib oa ia
slave_numbers_fit s ob ib oa ia h counts k = fits_along s ob ib oa ia h k (counts_in ob ib counts)

pub count_in : (n : ℕ) → ((n == 0) || nat_lt 8 n) ≡ false → (1 ≤ n) × (n ≤ 8)
count_in n h =
    let (none, many) = or_parts (n == 0) (nat_lt 8 n) h in
    let some : n ≡ 0 → ⊥ = eqb-false n 0 none in
    let few : n ≤ 8 = ltb-false 8 n many in
    (omega arith, few)

-- a small number that is not negative comes back from its bits as it was
pub small : (w : Width) (z : ℤ) → z ≡ pos (unsigned_abs z) → unsigned_abs z ≤ 60 → Fits w 60 → (to_z w64 (of_z w64 z) ≡ z) × (T (non_neg z) × Fits w (unsigned_abs z))
small w (pos n) whole few fits = (to_z_pos w64 n (omega arith), (tt, Fits-le few fits))
small w (negsuc n) whole few fits = cc

-- a number that is given is below its limit
pub number_inside : (n : ℕ) (z : ℤ) → is_outside (pos n) (Some z) ≡ false → (z ≡ pos (unsigned_abs z)) × (unsigned_abs z < n)
number_inside n (pos s) h = (refl, leb-false n s (or_parts (int_lt (pos s) (pos 0)) (int_le (pos n) (pos s)) h).1)
number_inside n (negsuc s) h = absurd (true≢false h)

-- a number that is given, as the code holds it
pub record IsGiven (w : Width) (limit z : ℤ) : Type 0 where
  pub same : to_z w64 (of_z w64 z) ≡ z
  pub fits : T (non_neg (to_z w64 (of_z w64 z))) × Fits w (unsigned_abs (to_z w64 (of_z w64 z)))
  pub below : unsigned_abs (to_z w64 (of_z w64 z)) < unsigned_abs limit

pub given_number : (w : Width) (limit z : ℤ) (high : ℕ) (given : Option ℤ) → Fits w 60 → high ≤ 60 → is_between (pos 1) (pos high) limit ≡ true → is_outside limit given ≡ false → given ≡ Some z → IsGiven w limit z
given_number w limit z high given fits few range inside is =
    let l = within 1 high limit range in
    let n = number_inside (unsigned_abs limit) z (subst (λ m. is_outside m (Some z) ≡ false) l.whole (subst (λ o. is_outside limit o ≡ false) is inside)) in
    let s = small w z n.0 (omega (arith, n.1, l.most, few)) fits in
    record { same = s.0; fits = rw s.0 s.1; below = rw s.0 n.1 }

-- both parts of a place that is not outside
pub place_parts : (top ms : Members) → is_place_outside top ms ≡ false → (is_outside (integer_at key.Period ms) (integer_given key.Phase ms) ≡ false) × (is_outside (integer_at key.Slots top) (integer_given key.Slot ms) ≡ false)
place_parts top ms h = or_parts _ _ h

-- the place of two numbers that are given
pub place_said : (a b x y : ℤ) (phase slot : Option ℤ) → x ≡ a → y ≡ b → phase ≡ Some a → slot ≡ Some b → Some (record { phase = unsigned_abs x; slot = unsigned_abs y }) ≡ place_from phase slot
place_said a b x y phase slot e f is there = rw (e, f, is, there) refl
